use Rattle.std.proofs.Common.{take}
use Rattle.name_tables.specs.inner.Places.{AreNumberPlaces}
use Rattle.name_tables.proofs.numbers.places_of.Given as goal

abbrev pub invariant-loop-place : goal.invariant-loop-place
invariant-loop-place l = AreNumberPlaces (take l.place l.numbers) l.places.entries
