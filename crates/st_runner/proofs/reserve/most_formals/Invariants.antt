use Rattle.std.proofs.Common.{◌≡◌, length, max}
use Rattle.st_runner.specs.inner.Ready.{most_formals}
use Rattle.st_runner.proofs.reserve.most_formals.Given as goal

abbrev pub decreases-loop-unit : goal.decreases-loop-unit
decreases-loop-unit l = length l.rest

abbrev pub invariant-loop-unit : goal.invariant-loop-unit
invariant-loop-unit l = max l.most (most_formals l.rest) ≡ most_formals l.units
