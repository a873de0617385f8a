use Rattle.std.proofs.Common.{map, take}
use Rattle.name_tables.specs.inner.Places.{AreNamePlaces}
use Rattle.name_tables.proofs.symbols.places_of.Given as goal

abbrev pub invariant-loop-place : goal.invariant-loop-place
invariant-loop-place l = AreNamePlaces (take l.place l.lines) (map (λ e. (e.0.items, e.1)) l.places.entries)
