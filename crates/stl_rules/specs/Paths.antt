-- The component that a path names. Where it lies in declarations, by the names and the indices of the path.
-- Held against: this project's own layout.
use Rattle.std.specs.Prelude.{ℕ, ◌+◌, ◌-◌, ◌*◌, ◌/◌, ◌%◌, ◌^◌, min, ℤ, int_le, unsigned_abs, ◌-ℤ◌, Bool, ◌&&◌, if◌then◌else◌, List, [], ◌∷◌, Option, Some, None, option_and_then, option_map}
use Rattle.std.specs.Option.{option_or}
use Rattle.s7_base.specs.Tokens.{is_same_word}
use Rattle.stl_tree.specs.declared.raw.Declaration.{Declaration}
use Rattle.stl_tree.specs.declared.raw.DeclType.{DeclType, out-DeclType}
use Rattle.stl_tree.specs.declared.raw.DeclType.TheOpen as T
use Rattle.stl_tree.specs.declared.raw.PathStep.{PathStep}
use Rattle.stl_tree.specs.declared.raw.PathStep.TheVariants as step
use Rattle.stl_rules.specs.Extents.{end_of, end_of_all, extent_of, indices_in, place_behind, section_behind}
use Rattle.stl_rules.specs.DeclarationRules.{elementary}
use Rattle.stl_rules.specs.declared.layout.Component.{Component}

-- an index lies within the bounds of its dimension
abbrev pub is_index : ℤ × ℤ → ℤ → Bool
is_index bounds i = int_le bounds.0 i && int_le i bounds.1

-- how many elements of an array come before the one at these indices, after this many whole lines of its first
-- dimension; elements of the last dimension are neighbours
abbrev pub elements_before : ℕ → List (ℤ × ℤ) → List ℤ → Option ℕ
elements_before rows [] [] = Some rows
elements_before rows [] (i ∷ is) = None
elements_before rows (bounds ∷ more) [] = None
elements_before rows (bounds ∷ more) (i ∷ is) =
    if is_index bounds i
    then elements_before (rows * indices_in bounds + unsigned_abs (i -ℤ bounds.0)) more is
    else None

-- a type and its place in bits
abbrev pub Placed : Type 0
Placed = ℕ × DeclType

-- the first declaration of a name among those after this bit
abbrev pub named_behind : ℕ → List Declaration → List ℕ → Option Placed
named_behind end [] name = None
named_behind end (d ∷ decls) name =
    if is_same_word d.name name then Some (place_behind end (extent_of d.ty), d.ty)
    else named_behind (end_of end d) decls name

-- an element of an array that begins at this bit
abbrev pub element_at : ℕ → List (ℤ × ℤ) → DeclType → List ℤ → Option Placed
element_at place bounds element indices =
    option_map (λ before. (place + before * (extent_of element).bits, element)) (elements_before 0 bounds indices)

-- the type after one more step of a path: a component of a STRUCT by its name, an element of an ARRAY by its indices
abbrev pub stepped_in : ℕ → T.DeclType-F DeclType Declaration → PathStep → Option Placed
stepped_in place (T.Elementary e) s = None
stepped_in place T.DateAndTime s = None
stepped_in place (T.Array bounds element) (step.Name name) = None
stepped_in place (T.Array bounds element) (step.Index indices) = element_at place bounds element indices
stepped_in place (T.Struct parts) (step.Name name) = named_behind place parts name
stepped_in place (T.Struct parts) (step.Index indices) = None

abbrev pub after_step : ℕ → DeclType → PathStep → Option Placed
after_step place ty s = stepped_in place (out-DeclType ty) s

-- the type after all steps of a path
abbrev pub after_path : List PathStep → Placed → Option Placed
after_path [] at = Some at
after_path (s ∷ path) at = option_and_then (after_path path) (after_step at.0 at.1 s)

-- the first declaration of a name in sections after this bit
abbrev pub named_in : ℕ → List (List Declaration) → List ℕ → Option Placed
named_in end [] name = None
named_in end (section ∷ sections) name =
    option_or (named_behind (section_behind end) section name)
    (named_in (end_of_all (section_behind end) section) sections name)

-- the type that a path names in sections; it begins with a name
abbrev pub named_by_path : List (List Declaration) → List PathStep → Option Placed
named_by_path sections [] = None
named_by_path sections (step.Name name ∷ path) = option_and_then (after_path path) (named_in 0 sections name)
named_by_path sections (step.Index indices ∷ path) = None

-- the component at a place, as byte and bit; one past the byte 4,294,967,295 is kept as the last bit of that byte
abbrev pub component_at : Placed → Component
component_at at =
    let place = min at.0 (2 ^ 35 - 1) in
    record { byte = place / 8; bit = place % 8; kind = elementary at.1 }

-- the component that a path names
abbrev pub component_in : List (List Declaration) → List PathStep → Option Component
component_in sections path = option_map component_at (named_by_path sections path)
