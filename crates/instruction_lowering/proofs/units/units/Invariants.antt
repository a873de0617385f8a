use Rattle.std.proofs.Common.{length}
use Rattle.instruction_lowering.specs.UnitNames.{in_order}
use Rattle.instruction_lowering.proofs.MadeUnits.{AreMadeSoFar}
use Rattle.instruction_lowering.proofs.units.units.Given as goal

abbrev pub decreases-loop-position : goal.decreases-loop-position
decreases-loop-position l = length l.rest

abbrev pub invariant-loop-position : goal.invariant-loop-position
invariant-loop-position l = AreMadeSoFar l.blocks (in_order l.blocks) l.units l.rest
