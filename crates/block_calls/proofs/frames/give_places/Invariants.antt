use Rattle.std.proofs.Common.{◌≡◌, ◌++◌, length, map, Some}
use Rattle.memory_areas.specs.declared.place.Place.{Place}
use Rattle.s7_base.specs.declared.word.Width.{Width}
use Rattle.block_calls.proofs.frames.give_places.Given as goal

abbrev pub decreases-loop-actual : goal.decreases-loop-actual
decreases-loop-actual l = length l.left

abbrev pub invariant-loop-actual : goal.invariant-loop-actual
invariant-loop-actual l =
    map (λ (a : Place × Width). Some a.0) l.call.actuals ≡ l.places ++ map (λ (a : Place × Width). Some a.0) l.left
