use Rattle.std.proofs.Common.{◌≡◌, take}
use Rattle.block_variables.proofs.formals.Formals.copy.Given as goal

abbrev pub invariant-loop-formal : goal.invariant-loop-formal
invariant-loop-formal l = l.all ≡ take l.formal-index l.self
