-- Layouts, held against worked rows.
use Rattle.std.proofs.Common.{◌≡◌, ℕ, List, [], ◌∷◌, ◌++◌, Some, None}
use Rattle.std.specs.Prelude.{Option, codes, pos}
use Rattle.s7_base.specs.declared.reason.Reason.TheVariants.{BadOperand, BadType, DuplicateName, TooLarge}
use Rattle.s7_base.specs.Broken.{rule_break}
use Rattle.s7_base.specs.declared.word.Width.TheVariants as width
use Rattle.stl_statement_grammar.specs.Constants.{constant, plain}
use Rattle.stl_tree.specs.declared.raw.Constant.{Constant}
use Rattle.stl_tree.specs.declared.raw.Declaration.{Declaration}
use Rattle.stl_tree.specs.declared.raw.DeclType.{DeclType}
use Rattle.stl_tree.specs.declared.raw.DeclType.TheVariants as type
use Rattle.stl_tree.specs.declared.raw.ElemType.{ElemType}
use Rattle.stl_tree.specs.declared.raw.ElemType.TheVariants as elem
use Rattle.stl_tree.specs.declared.raw.InitialItem.{InitialItem}
use Rattle.stl_tree.specs.declared.raw.PathStep.{PathStep}
use Rattle.stl_tree.specs.declared.raw.PathStep.TheVariants as step
use Rattle.stl_rules.proofs.Equations.{extent_equations, inside_equations, rule_equations, bits_equations}
use Rattle.stl_rules.specs.Layouts.{breaks_in, initial_of, length_of}
use Rattle.stl_rules.specs.Paths.{component_in}
use Rattle.stl_rules.specs.TooLarge.{first_large}
use Rattle.stl_rules.specs.declared.layout.Component.{Component}

-- a declaration on a line, with initial values
abbrev pub declaration_with : List ℕ → ℕ → DeclType → List InitialItem → Declaration
declaration_with name line ty initial = record { name = name; line = record { 0 = line }; ty = ty; initial = initial }

-- a declaration on a line, without initial values
abbrev pub declared : List ℕ → ℕ → DeclType → Declaration
declared name line ty = declaration_with name line ty []

abbrev pub of : ElemType → DeclType
of e = type.Elementary e

-- an item of one value
abbrev pub value : Constant → InitialItem
value c = record { count = 1; values = c ∷ [] }

-- a component of an elementary type
abbrev found_at : ℕ → ℕ → ElemType → Option Component
found_at byte bit e = Some (record { byte = byte; bit = bit; kind = Some e })

-- a component of another type
abbrev whole_at : ℕ → Option Component
whole_at byte = Some (record { byte = byte; bit = 0; kind = None })

abbrev named : List ℕ → List PathStep
named name = step.Name name ∷ []

-- a : BOOL; b : BYTE; c : INT; d : ARRAY [1 .. 3] OF BYTE; e : BOOL;
abbrev five : List Declaration
five =
    declared (codes "a") 3 (of elem.Bool)
    ∷ declared (codes "b") 4 (of elem.Byte)
    ∷ declared (codes "c") 5 (of elem.Int)
    ∷ declared (codes "d") 6 (type.Array ((pos 1, pos 3) ∷ []) (of elem.Byte))
    ∷ declared (codes "e") 7 (of elem.Bool)
    ∷ []

length_of_five : length_of (five ∷ []) ≡ 10
length_of_five = simp extent_equations

first_of_five : component_in (five ∷ []) (named (codes "a")) ≡ found_at 0 0 elem.Bool
first_of_five = simp (extent_equations, rule_equations)

byte_of_five : component_in (five ∷ []) (named (codes "B")) ≡ found_at 1 0 elem.Byte
byte_of_five = simp (extent_equations, rule_equations)

word_of_five : component_in (five ∷ []) (named (codes "c")) ≡ found_at 2 0 elem.Int
word_of_five = simp (extent_equations, rule_equations)

array_of_five : component_in (five ∷ []) (named (codes "d")) ≡ whole_at 4
array_of_five = simp (extent_equations, rule_equations)

bit_of_five : component_in (five ∷ []) (named (codes "e")) ≡ found_at 8 0 elem.Bool
bit_of_five = simp (extent_equations, rule_equations)

element_of_five : component_in (five ∷ []) (step.Name (codes "d") ∷ step.Index (pos 3 ∷ []) ∷ []) ≡ found_at 6 0 elem.Byte
element_of_five = simp (extent_equations, rule_equations)

beyond_five : component_in (five ∷ []) (step.Name (codes "d") ∷ step.Index (pos 4 ∷ []) ∷ []) ≡ None
beyond_five = simp (extent_equations, rule_equations)

five_break_nothing : breaks_in 16384 (five ∷ []) ≡ []
unfolding first_large
five_break_nothing = simp (extent_equations, rule_equations, inside_equations)

-- a constant that is TRUE
abbrev truth : Constant
truth = constant width.Bit 1

-- a repeated name, in other case, is named behind no other line
twice : breaks_in 16384 ((declared (codes "x") 3 (of elem.Int) ∷ declared (codes "X") 4 (of elem.Int) ∷ []) ∷ [])
    ≡ rule_break (record { 0 = 4 }) DuplicateName
unfolding first_large
twice = simp (extent_equations, rule_equations, inside_equations)

-- a component of a STRUCT may have the name of another scope
abbrev nested : List Declaration
nested =
    declared (codes "x") 3 (type.Struct (declared (codes "x") 4 (of elem.Bool) ∷ declared (codes "y") 5 (of elem.Byte) ∷ []))
    ∷ declared (codes "y") 7 (of elem.Bool)
    ∷ []

nested_break_nothing : breaks_in 16384 (nested ∷ []) ≡ []
unfolding first_large
nested_break_nothing = simp (extent_equations, rule_equations, inside_equations)

inner : component_in (nested ∷ []) (step.Name (codes "x") ∷ step.Name (codes "y") ∷ []) ≡ found_at 1 0 elem.Byte
inner = simp (extent_equations, rule_equations)

behind_struct : component_in (nested ∷ []) (named (codes "y")) ≡ found_at 2 0 elem.Bool
behind_struct = simp (extent_equations, rule_equations)

-- rows of an array of BOOL follow without a gap: element 1, 0 of 3 in a row is bit 3
packed_rows : component_in ((declared (codes "a") 3 (type.Array ((pos 0, pos 1) ∷ (pos 0, pos 2) ∷ []) (of elem.Bool)) ∷ []) ∷ [])
    (step.Name (codes "a") ∷ step.Index (pos 1 ∷ pos 0 ∷ []) ∷ []) ≡ found_at 0 3 elem.Bool
packed_rows = simp (extent_equations, rule_equations)

-- ARRAY [1 .. 8193] OF INT has 16,386 bytes
abbrev large : List Declaration
large = declared (codes "a") 3 (type.Array ((pos 1, pos 8193) ∷ []) (of elem.Int)) ∷ []

large_breaks : breaks_in 16384 (large ∷ []) ≡ rule_break (record { 0 = 3 }) TooLarge
unfolding first_large
large_breaks = simp (extent_equations, rule_equations, inside_equations)

-- of declarations inside others the one whose end comes first, in the first element
inner_is_large : breaks_in 16384 ((declared (codes "a") 3 (type.Array ((pos 1, pos 2) ∷ [])
    (type.Struct (declared (codes "x") 4 (type.Array ((pos 1, pos 9000) ∷ []) (of elem.Int)) ∷ []))) ∷ []) ∷ [])
    ≡ rule_break (record { 0 = 4 }) TooLarge
unfolding first_large
inner_is_large = simp (extent_equations, rule_equations, inside_equations)

-- bounds out of order count no elements
out_of_order : breaks_in 16384 ((declaration_with (codes "a") 3 (type.Array ((pos 5, pos 1) ∷ []) (of elem.Int)) (value (plain 1) ∷ []) ∷ []) ∷ [])
    ≡ rule_break (record { 0 = 3 }) BadType ++ rule_break (record { 0 = 3 }) BadOperand
unfolding first_large
out_of_order = simp (extent_equations, rule_equations, inside_equations)

-- x : BOOL := TRUE; a : ARRAY [1 .. 5] OF BYTE := 2 (1), 9; w : DINT := -5;
abbrev initialized : List Declaration
initialized =
    declaration_with (codes "x") 3 (of elem.Bool) (value truth ∷ [])
    ∷ declaration_with (codes "a") 4 (type.Array ((pos 1, pos 5) ∷ []) (of elem.Byte))
    (record { count = 2; values = plain 1 ∷ [] } ∷ value (plain 9) ∷ [])
    ∷ declaration_with (codes "w") 5 (of elem.Dint) (value (plain 65531) ∷ [])
    ∷ []

initialized_break_nothing : breaks_in 16384 (initialized ∷ []) ≡ []
unfolding first_large
initialized_break_nothing = simp (extent_equations, rule_equations, inside_equations)

initial_bytes : initial_of (initialized ∷ []) ≡ 1 ∷ 0 ∷ 1 ∷ 1 ∷ 9 ∷ 0 ∷ 0 ∷ 0 ∷ 255 ∷ 255 ∷ 255 ∷ 251 ∷ []
initial_bytes = simp (extent_equations, bits_equations)

-- the sections of an interface: Step and Enable, Full, Count and Edge
abbrev interface : List (List Declaration)
interface =
    (declared (codes "Step") 8 (of elem.Int) ∷ declared (codes "Enable") 9 (of elem.Bool) ∷ [])
    ∷ (declared (codes "Full") 12 (of elem.Bool) ∷ [])
    ∷ (declared (codes "Count") 15 (of elem.Int) ∷ declared (codes "Edge") 16 (of elem.Bool) ∷ [])
    ∷ []

length_of_interface : length_of interface ≡ 10
length_of_interface = simp extent_equations

step_at : component_in interface (named (codes "Step")) ≡ found_at 0 0 elem.Int
step_at = simp (extent_equations, rule_equations)

enable_at : component_in interface (named (codes "Enable")) ≡ found_at 2 0 elem.Bool
enable_at = simp (extent_equations, rule_equations)

full_at : component_in interface (named (codes "Full")) ≡ found_at 4 0 elem.Bool
full_at = simp (extent_equations, rule_equations)

count_at : component_in interface (named (codes "Count")) ≡ found_at 6 0 elem.Int
count_at = simp (extent_equations, rule_equations)

edge_at : component_in interface (named (codes "Edge")) ≡ found_at 8 0 elem.Bool
edge_at = simp (extent_equations, rule_equations)
