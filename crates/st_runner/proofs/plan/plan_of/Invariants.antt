use Rattle.std.proofs.Common.{◌≡◌, ◌≤◌, length, take, vec_capacity}
use Rattle.st_runner.specs.inner.Plan.{AreStarts}
use Rattle.st_runner.proofs.plan.plan_of.Given as goal

abbrev pub invariant-loop-unit : goal.invariant-loop-unit
invariant-loop-unit l =
    AreStarts l.parts.items l.starts.items (take l.unit-index l.units)
    × (length l.starts.items ≡ l.unit-index)
    × (length l.units ≤ vec_capacity l.starts)
