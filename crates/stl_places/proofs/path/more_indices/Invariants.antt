use Rattle.std.proofs.Common.{◌≡◌, ◌∷◌, length, ◌+◌}
use Rattle.stl_statement_grammar.specs.Paths.{next_index_at}
use Rattle.stl_statement_grammar.specs.Readers.{read_as, all_items}
use Rattle.stl_places.proofs.Repeated.{before}
use Rattle.stl_places.proofs.path.more_indices.Given as goal

-- the indices so far, with those that are left, are all
abbrev pub invariant-loop-index : goal.invariant-loop-index
invariant-loop-index l = record {
  within : l.taken + length l.rest ≡ length l.tokens;
  same : before l.indices l.taken (all_items next_index_at 0 l.rest) ≡ read_as (λ more. l.first ∷ more) (all_items next_index_at 0 l.tokens);
}

abbrev pub decreases-loop-index : goal.decreases-loop-index
decreases-loop-index l = length l.rest
