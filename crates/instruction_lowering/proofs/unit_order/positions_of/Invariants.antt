use Rattle.std.proofs.Common.{◌≡◌, ◌++◌, length, map}
use Rattle.instruction_lowering.specs.inner.UnitOrder.{Pair}
use Rattle.instruction_lowering.proofs.unit_order.positions_of.Given as goal

abbrev pub decreases-loop-place : goal.decreases-loop-place
decreases-loop-place l = length l.rest

abbrev pub invariant-loop-place : goal.invariant-loop-place
invariant-loop-place l = l.positions.items ++ map (λ (place : Pair). place.1) l.rest ≡ map (λ (place : Pair). place.1) l.places
