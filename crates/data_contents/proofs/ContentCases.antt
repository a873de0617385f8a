-- Contents of data blocks, held against worked rows.
use Rattle.std.proofs.Common.{◌≡◌, ℕ, List, [], ◌∷◌, Some, None}
use Rattle.std.specs.Prelude.{codes, pos}
use Rattle.s7_base.specs.declared.rule_break.Break.{Break}
use Rattle.s7_base.specs.declared.reason.Reason.{Reason}
use Rattle.s7_base.specs.declared.reason.Reason.TheVariants.{BadOperand, BadType, UnknownName}
use Rattle.s7_base.specs.declared.word.Width.TheVariants as width
use Rattle.stl_statement_grammar.specs.Constants.{constant, plain}
use Rattle.stl_tree.specs.declared.raw.Constant.{Constant}
use Rattle.stl_tree.specs.declared.raw.Declaration.{Declaration}
use Rattle.stl_tree.specs.declared.raw.DeclType.{DeclType}
use Rattle.stl_tree.specs.declared.raw.DeclType.TheVariants as type
use Rattle.stl_tree.specs.declared.raw.ElemType.TheVariants as elem
use Rattle.stl_tree.specs.declared.raw.InitialItem.{InitialItem}
use Rattle.stl_tree.specs.declared.raw.PathStep.TheVariants as step
use Rattle.stl_tree.specs.declared.raw.RawInitial.{RawInitial}
use Rattle.stl_rules.proofs.Equations.{bits_equations, extent_equations, inside_equations, rule_equations}
use Rattle.stl_rules.specs.DataBlocks.{bytes_with}
use Rattle.stl_rules.specs.TooLarge.{first_large}
use Rattle.data_contents.specs.Contents.{first_in}

-- Rows

abbrev declared : List ℕ → ℕ → DeclType → List InitialItem → Declaration
declared name line ty initial = record { name = name; line = record { 0 = line }; ty = ty; initial = initial }

-- an initial value of the BEGIN part
abbrev at_begin : List ℕ → ℕ → Constant → RawInitial
at_begin name line c = record { path = step.Name name ∷ []; line = record { 0 = line }; value = c }

abbrev truth : ℕ → Constant
truth n = constant width.Bit n

-- x : BOOL := TRUE; y : BOOL; b : BYTE; w : DINT;
abbrev four : List Declaration
four =
    declared (codes "x") 3 (type.Elementary elem.Bool) (record { count = 1; values = truth 1 ∷ [] } ∷ [])
    ∷ declared (codes "y") 4 (type.Elementary elem.Bool) []
    ∷ declared (codes "b") 5 (type.Elementary elem.Byte) []
    ∷ declared (codes "w") 6 (type.Elementary elem.Dint) []
    ∷ []

-- a bit keeps those beside it; a double word takes a plain number with its sign
each_width : bytes_with (four ∷ []) (at_begin (codes "y") 8 (truth 1) ∷ at_begin (codes "b") 9 (plain 7) ∷ at_begin (codes "w") 10 (plain 65531) ∷ [])
    ≡ 3 ∷ 7 ∷ 255 ∷ 255 ∷ 255 ∷ 251 ∷ []
each_width = simp (extent_equations, rule_equations, bits_equations)

-- a value takes the place of that of the declaration, and of an earlier one
later_stands : bytes_with (four ∷ []) (at_begin (codes "X") 8 (truth 0) ∷ at_begin (codes "y") 9 (truth 0) ∷ at_begin (codes "Y") 10 (truth 1) ∷ [])
    ≡ 2 ∷ 0 ∷ 0 ∷ 0 ∷ 0 ∷ 0 ∷ []
later_stands = simp (extent_equations, rule_equations, bits_equations)

empty_has_two : bytes_with ([] ∷ []) [] ≡ 0 ∷ 0 ∷ []
empty_has_two = simp bits_equations

abbrev on_line : ℕ → Reason → Break
on_line n rule = record { line = record { 0 = n }; rule = rule }

none_broken : first_in (four ∷ []) (at_begin (codes "y") 8 (truth 1) ∷ []) ≡ None
unfolding first_large
none_broken = simp (extent_equations, rule_equations, inside_equations)

wrong_width : first_in (four ∷ []) (at_begin (codes "b") 9 (truth 1) ∷ at_begin (codes "z") 10 (truth 1) ∷ []) ≡ Some (on_line 9 BadOperand)
unfolding first_large
wrong_width = simp (extent_equations, rule_equations, inside_equations)

no_component : first_in (four ∷ []) (at_begin (codes "z") 8 (truth 1) ∷ []) ≡ Some (on_line 8 UnknownName)
unfolding first_large
no_component = simp (extent_equations, rule_equations, inside_equations)

-- in1 : BOOL; stat : BYTE; in two sections: the second begins at an even byte, and a name of either is found
abbrev two : List (List Declaration)
two =
    (declared (codes "in1") 3 (type.Elementary elem.Bool) [] ∷ [])
    ∷ (declared (codes "stat") 5 (type.Elementary elem.Byte) (record { count = 1; values = plain 9 ∷ [] } ∷ []) ∷ [])
    ∷ []

each_section : bytes_with two (at_begin (codes "in1") 8 (truth 1) ∷ []) ≡ 1 ∷ 0 ∷ 9 ∷ 0 ∷ []
each_section = simp (extent_equations, rule_equations, bits_equations)

-- no value is judged where the declarations break a rule
not_judged : first_in ((declared (codes "x") 3 (type.Array ((pos 2, pos 1) ∷ []) (type.Elementary elem.Bool)) [] ∷ []) ∷ [])
    (at_begin (codes "z") 2 (truth 1) ∷ [])
    ≡ Some (on_line 3 BadType)
unfolding first_large
not_judged = simp (extent_equations, rule_equations, inside_equations)
