use Rattle.std.proofs.Common.{◌≡◌, ◌++◌}
use Rattle.st_conditions.proofs.loops.push_all.Given as goal

abbrev pub invariant-loop-statement : goal.invariant-loop-statement
invariant-loop-statement l = l.body ≡ l.fn.body ++ l.yielded
