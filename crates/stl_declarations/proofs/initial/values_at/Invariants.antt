use Rattle.std.proofs.Common.{◌≡◌, length}
use Rattle.stl_grammar.specs.Initials.{values_at}
use Rattle.stl_constants.specs.inner.Lists.{read_further}
use Rattle.stl_declarations.proofs.initial.values_at.Given as goal

-- the values so far and those that are left are those of the whole
abbrev pub invariant-loop-rest : goal.invariant-loop-rest
invariant-loop-rest l = read_further l.values l.size (values_at l.rest) ≡ values_at l.tokens

abbrev pub decreases-loop-rest : goal.decreases-loop-rest
decreases-loop-rest l = length l.rest
