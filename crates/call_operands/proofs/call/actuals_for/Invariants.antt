use Rattle.std.proofs.Common.{◌≡◌, take}
use Rattle.stl_rules.specs.Calls.{actuals_for}
use Rattle.call_operands.proofs.call.actuals_for.Given as goal

abbrev pub invariant-loop-formal : goal.invariant-loop-formal
invariant-loop-formal l = l.given ≡ actuals_for l.scope l.actuals (take l.formal-index l.formals)
