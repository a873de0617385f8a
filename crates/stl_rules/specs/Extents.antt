-- Sizes and alignments of types. What a type takes, and where the components of declarations are, in bits.
-- Held against: this project's own layout.
use Rattle.std.specs.Prelude.{◌≡◌, ℕ, ◌+◌, ◌*◌, ◌≤◌, ℤ, int_lt, unsigned_abs, ◌-ℤ◌, if◌then◌else◌, List, [], ◌∷◌}
use Rattle.std.specs.Int.{next_multiple_of}
use Rattle.std.specs.List.{fold}
use Rattle.s7_base.specs.declared.word.Width.{Width}
use Rattle.s7_base.specs.declared.word.Width.TheVariants as width
use Rattle.stl_tree.specs.declared.raw.Declaration.{Declaration, Declaration-F}
use Rattle.stl_tree.specs.declared.raw.DeclType.{DeclType, fold-DeclType}
use Rattle.stl_tree.specs.declared.raw.DeclType.TheOpen as T
use Rattle.stl_tree.specs.declared.raw.ElemType.{ElemType}
use Rattle.stl_tree.specs.declared.raw.ElemType.TheVariants as elem
use Rattle.stl_rules.specs.declared.layout.Extent.{Extent}

-- the width of an elementary type
abbrev pub width_of : ElemType → Width
width_of elem.Bool = width.Bit
width_of elem.Byte = width.Byte
width_of elem.Char = width.Byte
width_of elem.Word = width.Word
width_of elem.Int = width.Word
width_of elem.Dword = width.Dword
width_of elem.Dint = width.Dword

-- the extent of a number of a width: a bit is anywhere, a byte at the next byte, all else at the next even byte
abbrev pub extent_of_width : Width → Extent
extent_of_width width.Bit = record { alignment = 1; bits = 1 }
extent_of_width width.Byte = record { alignment = 8; bits = 8 }
extent_of_width width.Word = record { alignment = 16; bits = 16 }
extent_of_width width.Dword = record { alignment = 16; bits = 32 }

-- the extent of this many bits from an even byte on, filled up to an even length
abbrev pub even_extent : ℕ → Extent
even_extent bits = record { alignment = 16; bits = next_multiple_of bits 16 }

-- how many indices a dimension has; bounds out of order have none
abbrev pub indices_in : ℤ × ℤ → ℕ
indices_in bounds = if int_lt bounds.1 bounds.0 then 0 else unsigned_abs (bounds.1 -ℤ bounds.0) + 1

-- how many elements an array has
abbrev pub elements_in : List (ℤ × ℤ) → ℕ
elements_in bounds = fold (λ count dimension. count * indices_in dimension) 1 bounds

-- the place of a component after one that ends at this bit: the least that its alignment allows
abbrev pub place_behind : ℕ → Extent → ℕ
place_behind end extent = next_multiple_of end extent.alignment

-- the end of a component after one that ends at this bit
abbrev pub end_behind : ℕ → Extent → ℕ
end_behind end extent = place_behind end extent + extent.bits

-- the extent of a type, by those of its parts; elements come one after another
abbrev pub extent_step : T.DeclType-F Extent Extent → Extent
extent_step (T.Elementary e) = extent_of_width (width_of e)
extent_step T.DateAndTime = record { alignment = 16; bits = 64 }
extent_step (T.Array bounds element) = even_extent (elements_in bounds * element.bits)
extent_step (T.Struct parts) = even_extent (fold end_behind 0 parts)

-- the extent of a type
abbrev pub extent_of : DeclType → Extent
extent_of = fold-DeclType Extent Extent extent_step (λ (d : Declaration-F Extent Extent). d.ty)

-- the end of a declaration after one that ends at this bit
abbrev pub end_of : ℕ → Declaration → ℕ
end_of end d = end_behind end (extent_of d.ty)

-- the end of declarations, one after another, from this bit on
abbrev pub end_of_all : ℕ → List Declaration → ℕ
end_of_all end decls = fold end_of end decls

-- Sections, as those of an interface: each begins at an even byte

-- the beginning of a section after one that ends at this bit
abbrev pub section_behind : ℕ → ℕ
section_behind end = next_multiple_of end 16

-- the end of sections, one after another, from this bit on
abbrev pub end_of_sections : ℕ → List (List Declaration) → ℕ
end_of_sections end [] = end
end_of_sections end (section ∷ sections) = end_of_sections (end_of_all (section_behind end) section) sections

-- The law: the place is the least

-- a place is the least multiple of an alignment at or after another
pub record IsLeast (alignment end place : ℕ) : Type 0 where
  pub times : ℕ
  pub is_multiple : place ≡ times * alignment
  pub is_behind : end ≤ place
  pub is_least : (k : ℕ) → end ≤ k * alignment → place ≤ k * alignment

-- a component is at the least place that its alignment allows
abbrev pub StandsAtLeast : Type 0
StandsAtLeast =
    (end : ℕ) (extent : Extent) → 1 ≤ extent.alignment → IsLeast extent.alignment end (place_behind end extent)
