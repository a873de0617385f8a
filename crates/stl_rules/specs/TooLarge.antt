-- Where declarations become too long. It is the first declaration at which the length passes a limit.
-- Held against: this project's own bounds.
use Rattle.std.specs.Prelude.{ℕ, ◌/◌, Bool, nat_lt, if◌then◌else◌, List, [], ◌∷◌, map, Option, Some, None}
use Rattle.std.specs.Int.{next_multiple_of}
use Rattle.std.specs.Option.{option_or}
use Rattle.s7_base.specs.declared.reason.Line.{Line}
use Rattle.stl_tree.specs.declared.raw.Declaration.{Declaration, Declaration-F, para-Declaration}
use Rattle.stl_tree.specs.declared.raw.DeclType.{DeclType, para-DeclType}
use Rattle.stl_tree.specs.declared.raw.DeclType.TheOpen as T
use Rattle.stl_rules.specs.Extents.{end_of, end_of_all, extent_of, place_behind, section_behind}

-- the length in bytes of what ends at a bit, filled up to an even one
abbrev pub length_to : ℕ → ℕ
length_to end = next_multiple_of end 16 / 8

-- what ends at a bit is longer than the limit
abbrev pub passes : ℕ → ℕ → Bool
passes limit end = nat_lt limit (length_to end)

-- the line of the first declaration inside a type, at a place in bits, at which the length passes the limit
abbrev pub Inside : Type 0
Inside = ℕ → Option Line

-- the line of the first of some declarations at which the length passes the limit; those inside a declaration come
-- before it
abbrev pub first_behind : ℕ → ℕ → List (Declaration × Inside) → Option Line
first_behind limit end [] = None
first_behind limit end (part ∷ parts) =
    option_or (part.1 (place_behind end (extent_of part.0.ty)))
    (if passes limit (end_of end part.0) then Some part.0.line else first_behind limit (end_of end part.0) parts)

-- the first declaration inside a type, by those inside its parts; an array begins with its first element
abbrev pub inside_step : ℕ → T.DeclType-F (DeclType × Inside) (Declaration × Inside) → Inside
inside_step limit (T.Elementary e) place = None
inside_step limit T.DateAndTime place = None
inside_step limit (T.Array bounds element) place = element.1 place
inside_step limit (T.Struct parts) place = first_behind limit place parts

abbrev pub of_type : Declaration-F (DeclType × Inside) (Declaration × Inside) → Inside
of_type d = d.ty.1

-- the line of the first declaration inside a type, at a place in bits
unfoldable pub inside : ℕ → DeclType → Inside
inside limit = para-DeclType Inside Inside (inside_step limit) of_type

-- the line of the first declaration inside a declaration, at a place in bits
unfoldable pub inside_declaration : ℕ → Declaration → Inside
inside_declaration limit = para-Declaration Inside Inside (inside_step limit) of_type

-- the line of the first of some declarations, from a bit on, at which the length passes the limit, in the order of
-- their ends
unfoldable pub first_large : ℕ → ℕ → List Declaration → Option Line
first_large limit end decls = first_behind limit end (map (λ (d : Declaration). (d, inside_declaration limit d)) decls)

-- the line of the first of the declarations of sections at which the length passes the limit, in the order of their
-- ends
abbrev pub first_large_in : ℕ → ℕ → List (List Declaration) → Option Line
first_large_in limit end [] = None
first_large_in limit end (section ∷ sections) =
    option_or (first_large limit (section_behind end) section)
    (first_large_in limit (end_of_all (section_behind end) section) sections)
