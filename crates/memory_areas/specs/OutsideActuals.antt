-- The actuals of a call from outside. They are places that every block can reach, and each has the width of its formal.
-- Held against: this project's own calls.
use Rattle.std.specs.Prelude.{◌≡◌, List, [], ◌∷◌, None}
use Rattle.memory_areas.specs.Access.{aim_of_place, fault_of}
use Rattle.memory_areas.specs.Areas.{fresh}
use Rattle.memory_areas.specs.declared.data_block.DataBlock.{DataBlock}
use Rattle.memory_areas.specs.declared.place.Area.{Area}
use Rattle.memory_areas.specs.declared.place.Area.TheVariants as area
use Rattle.memory_areas.specs.declared.place.Place.{Place}
use Rattle.s7_base.specs.declared.word.Width.{Width}

-- a place that a call may give from outside is one of I, Q, M or a data block
abbrev pub IsOutsidePlace : Area → Type 0
IsOutsidePlace area.I = Unit {0}
IsOutsidePlace area.Q = Unit {0}
IsOutsidePlace area.M = Unit {0}
IsOutsidePlace (area.Db n) = Unit {0}
IsOutsidePlace (area.Local d) = ⊥
IsOutsidePlace (area.Cell d) = ⊥

-- an actual fits a formal of a width: it has this width, and lies in a memory of these data blocks
pub record FitsWidth (blocks : List DataBlock) (w : Width) (actual : Place × Width) : Type 0 where
  pub width : actual.1 ≡ w
  pub outside : IsOutsidePlace actual.0.area
  pub lies : fault_of (aim_of_place actual.0) actual.1 (fresh blocks) ≡ None

-- there are as many actuals as formals of these widths, and each fits
abbrev pub FitWidths : List DataBlock → List Width → List (Place × Width) → Type 0
FitWidths blocks [] [] = Unit {0}
FitWidths blocks [] (actual ∷ actuals) = ⊥
FitWidths blocks (w ∷ widths) [] = ⊥
FitWidths blocks (w ∷ widths) (actual ∷ actuals) = FitsWidth blocks w actual × FitWidths blocks widths actuals
