use Rattle.std.proofs.Common.{◌≡◌, length}
use Rattle.stl_statement_grammar.specs.CallOperands.{actuals_behind}
use Rattle.stl_constants.specs.inner.Lists.{read_further}
use Rattle.stl_instructions.proofs.call.actuals_behind.Given as goal

-- the actuals so far and those that are left are those of the whole
abbrev pub invariant-loop-rest : goal.invariant-loop-rest
invariant-loop-rest l = read_further l.actuals l.size (actuals_behind l.rest) ≡ actuals_behind l.tokens

abbrev pub decreases-loop-rest : goal.decreases-loop-rest
decreases-loop-rest l = length l.rest
