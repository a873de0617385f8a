use Rattle.std.proofs.Common.{◌≡◌, length, max}
use Rattle.st_runner.specs.inner.Ready.{most_locals}
use Rattle.st_runner.proofs.reserve.most_locals.Given as goal

abbrev pub decreases-loop-unit : goal.decreases-loop-unit
decreases-loop-unit l = length l.rest

abbrev pub invariant-loop-unit : goal.invariant-loop-unit
invariant-loop-unit l = max l.most (most_locals l.rest) ≡ most_locals l.units
