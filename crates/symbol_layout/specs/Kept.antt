-- Lengths and places as code keeps them: what is more bits than any limit has is kept as so many. Sections as it
-- borrows them.
use Rattle.std.specs.Prelude.{◌≡◌, ℕ, ◌^◌, ◌%◌, ◌≤◌, min, List, map, Option, option_map}
use Rattle.std.specs.Borrow.{Bor}
use Rattle.stl_rules.specs.Paths.{Placed}
use Rattle.symbol_layout.specs.declared.place.Placed.{Placed as CodePlaced}
use Rattle.stl_rules.specs.declared.layout.Extent.{Extent}
use Rattle.stl_tree.specs.declared.raw.Declaration.{Declaration}

-- a number of bits as it is kept
abbrev pub capped_bits : ℕ → ℕ
capped_bits bits = min bits (2 ^ 60)

abbrev pub capped_extent : Extent → Extent
capped_extent extent = record { alignment = extent.alignment; bits = capped_bits extent.bits }

-- an alignment is 1 to 16 and divides the most bits
abbrev pub IsAlignment : ℕ → Type 0
IsAlignment alignment = (1 ≤ alignment) × (alignment ≤ 16) × (2 ^ 60 % alignment ≡ 0)

-- a type at its place as it is kept
abbrev pub capped_placed : Option Placed → Option Placed
capped_placed found = option_map (λ (at : Placed). (capped_bits at.0, at.1)) found

-- a type at its place, as code has it
abbrev pub placed_of_code : CodePlaced → Placed
placed_of_code at = (at.place, at.ty.now)

-- sections that are borrowed one by one
abbrev pub sections_now : List (Bor (List Declaration)) → List (List Declaration)
sections_now sections = map (λ section. section.now) sections
