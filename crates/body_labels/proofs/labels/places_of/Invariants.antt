use Rattle.std.proofs.Common.{map, take}
use Rattle.body_labels.specs.inner.Positions.{AreLabelPlaces}
use Rattle.body_labels.proofs.labels.places_of.Given as goal

abbrev pub invariant-loop-place : goal.invariant-loop-place
invariant-loop-place l = AreLabelPlaces (take l.place l.body) (map (λ e. (e.0.items, e.1)) l.places.entries)
