-- Tables of labels: each with the position of the first instruction that has it.
use Rattle.std.specs.Prelude.{ℕ, nat_eq, List, Option, Some, None}
use Rattle.std.specs.Cmp.Lexicographic.{pointwise}
use Rattle.name_tables.specs.Places.{AreFirstPlaces, with_place}
use Rattle.stl_rules.specs.Labels.{has_label}
use Rattle.stl_tree.specs.declared.raw.RawInstr.{RawInstr}

-- each label is kept with the position of the first instruction that has it
abbrev pub AreLabelPlaces : List RawInstr → List (List ℕ × ℕ) → Type 0
AreLabelPlaces body table = AreFirstPlaces (pointwise nat_eq) has_label body table

-- the label of one more instruction, if it has one
abbrev pub with_label_place : Option (List ℕ) → ℕ → List (List ℕ × ℕ) → List (List ℕ × ℕ)
with_label_place None place table = table
with_label_place (Some label) place table = with_place (pointwise nat_eq) label place table
