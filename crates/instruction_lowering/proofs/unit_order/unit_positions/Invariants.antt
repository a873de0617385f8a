use Rattle.std.proofs.Common.{◌≡◌, drop, length}
use Rattle.instruction_lowering.specs.UnitNames.{in_order}
use Rattle.instruction_lowering.specs.inner.UnitOrder.{AreBlocksAt}
use Rattle.instruction_lowering.proofs.PositionLaws.{written_positions}
use Rattle.instruction_lowering.proofs.unit_order.unit_positions.Given as goal

abbrev pub decreases-loop-block : goal.decreases-loop-block
decreases-loop-block l = length l.rest

-- so many units have their positions, and the others stand at those that are left
abbrev pub invariant-loop-block : goal.invariant-loop-block
invariant-loop-block l =
    (l.positions.items ≡ written_positions l.blocks l.unit) × AreBlocksAt l.blocks l.rest (drop l.unit (in_order l.blocks))
