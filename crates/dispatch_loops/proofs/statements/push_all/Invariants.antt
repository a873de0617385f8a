use Rattle.std.proofs.Common.{◌≡◌, ◌++◌}
use Rattle.dispatch_loops.proofs.statements.push_all.Given as goal

abbrev pub invariant-loop-statement : goal.invariant-loop-statement
invariant-loop-statement l = l.out ≡ l.fn.out ++ l.yielded
