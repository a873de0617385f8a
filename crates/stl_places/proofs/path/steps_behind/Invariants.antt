use Rattle.std.proofs.Common.{◌≡◌, ◌∷◌, length, ◌+◌}
use Rattle.stl_statement_grammar.specs.Paths.{step_at}
use Rattle.stl_statement_grammar.specs.Readers.{read_as, all_items}
use Rattle.stl_tree.specs.declared.raw.PathStep.TheVariants as step
use Rattle.stl_places.proofs.Repeated.{before}
use Rattle.stl_places.proofs.path.steps_behind.Given as goal

-- the steps so far, with those that are left, are all
abbrev pub invariant-loop-steps : goal.invariant-loop-steps
invariant-loop-steps l = record {
  within : l.taken + length l.rest ≡ length l.tokens;
  same : before l.steps l.taken (all_items step_at 0 l.rest) ≡ read_as (λ more. step.Name l.fn.name ∷ more) (all_items step_at 0 l.tokens);
}

abbrev pub decreases-loop-steps : goal.decreases-loop-steps
decreases-loop-steps l = length l.rest
