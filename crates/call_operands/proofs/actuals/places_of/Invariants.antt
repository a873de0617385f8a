use Rattle.std.proofs.Common.{map, take}
use Rattle.call_operands.specs.inner.ActualPlaces.{AreActualPlaces}
use Rattle.call_operands.proofs.actuals.places_of.Given as goal

abbrev pub invariant-loop-place : goal.invariant-loop-place
invariant-loop-place l = AreActualPlaces (take l.place l.all) (map (λ e. (e.0.items, e.1)) l.places.entries)
