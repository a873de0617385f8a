use Rattle.std.proofs.Common.{◌≡◌, length}
use Rattle.stl_grammar.specs.Declarations.{dims_at}
use Rattle.stl_constants.specs.inner.Lists.{read_further}
use Rattle.stl_declarations.proofs.declaration.dims_at.Given as goal

-- the dimensions so far and those that are left are those of the whole
abbrev pub invariant-loop-rest : goal.invariant-loop-rest
invariant-loop-rest l = read_further l.dims l.size (dims_at l.rest) ≡ dims_at l.tokens

abbrev pub decreases-loop-rest : goal.decreases-loop-rest
decreases-loop-rest l = length l.rest
