use Rattle.std.proofs.Common.{◌≡◌, take}
use Rattle.dispatch_loops.proofs.statements.settings.Given as goal

abbrev pub invariant-loop-statement : goal.invariant-loop-statement
invariant-loop-statement l = l.copy ≡ take l.statement-index l.statements
