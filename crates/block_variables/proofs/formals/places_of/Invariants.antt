use Rattle.std.proofs.Common.{map, take}
use Rattle.block_variables.specs.inner.FormalPlaces.{AreFormalPlaces}
use Rattle.block_variables.proofs.formals.places_of.Given as goal

abbrev pub invariant-loop-place : goal.invariant-loop-place
invariant-loop-place l = AreFormalPlaces (take l.place l.all) (map (λ e. (e.0.items, e.1)) l.places.entries)
