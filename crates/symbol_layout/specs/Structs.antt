-- The STRUCT inside a type, and the bits that it takes.
use Rattle.std.specs.Prelude.{◌≡◌, ℕ, List, map, Option, Some, None}
use Rattle.stl_rules.specs.Extents.{end_of_all, even_extent}
use Rattle.stl_tree.specs.declared.raw.Declaration.{Declaration, Declaration-F}
use Rattle.stl_tree.specs.declared.raw.DeclType.{DeclType, para-DeclType}
use Rattle.stl_tree.specs.declared.raw.DeclType.TheOpen as T
use Rattle.symbol_layout.specs.Kept.{capped_bits}

-- the components of the STRUCT inside a type, where one is: elements of arrays are taken
abbrev pub struct_step : T.DeclType-F (DeclType × Option (List Declaration)) (Declaration × Unit {0})
    → Option (List Declaration)
struct_step (T.Elementary e) = None
struct_step T.DateAndTime = None
struct_step (T.Array bounds element) = element.1
struct_step (T.Struct parts) = Some (map (λ part. part.0) parts)

abbrev pub no_result : Declaration-F (DeclType × Option (List Declaration)) (Declaration × Unit {0}) → Unit {0}
no_result d = tt

unfoldable pub struct_in : DeclType → Option (List Declaration)
struct_in = para-DeclType (Option (List Declaration)) (Unit {0}) struct_step no_result

-- the length of a STRUCT in bits, as it is kept
abbrev pub struct_bits : List Declaration → ℕ
struct_bits parts = capped_bits (even_extent (end_of_all 0 parts)).bits

-- the STRUCT inside a type has this many bits; where none is, any number will do
abbrev pub AreBits : ℕ → Option (List Declaration) → Type 0
AreBits bits None = Unit {0}
AreBits bits (Some parts) = bits ≡ struct_bits parts
