use Rattle.std.proofs.Common.{◌≡◌, ◌++◌}
use Rattle.st_conditions.proofs.choices.push_arms.Given as goal

abbrev pub invariant-loop-arm : goal.invariant-loop-arm
invariant-loop-arm l = l.arms ≡ l.fn.arms ++ l.yielded
