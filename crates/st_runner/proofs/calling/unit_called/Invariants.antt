use Rattle.st_tree.proofs.Common.{◌≡◌, ◌+◌, drop, length, unit_called}
use Rattle.st_runner.proofs.calling.unit_called.Given as goal

abbrev pub decreases-loop-unit : goal.decreases-loop-unit
decreases-loop-unit l = length l.rest

abbrev pub invariant-loop-unit : goal.invariant-loop-unit
invariant-loop-unit l =
    (unit_called l.block l.rest ≡ unit_called l.block l.units) × (drop l.at l.units ≡ l.rest) × (l.at + length l.rest ≡ length l.units)
