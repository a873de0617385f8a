-- The rules that declarations break. They are about names, bounds and initial values; how long declarations may be is
-- a rule apart.
-- Held against: this project's own rules.
use Rattle.std.specs.Prelude.{ℕ, ◌+◌, ◌*◌, ◌^◌, min, ℤ, pos, neg_ℤ, int_le, Bool, true, false, ◌&&◌, ◌||◌, nat_eq, nat_le, if◌then◌else◌, List, [], ◌∷◌, ◌++◌, map, length, Option, Some, None, option_map}
use Rattle.std.specs.Char.{to_ascii_uppercase}
use Rattle.std.specs.List.{flat_map, list_all, list_any}
use Rattle.std.specs.Cmp.Lexicographic.{pointwise}
use Rattle.s7_base.specs.Broken.{rule_break}
use Rattle.s7_base.specs.declared.rule_break.Break.{Break}
use Rattle.s7_base.specs.declared.reason.Line.{Line}
use Rattle.s7_base.specs.declared.reason.Reason.TheVariants.{BadOperand, BadType, DuplicateName}
use Rattle.s7_base.specs.declared.word.Width.{Width}
use Rattle.s7_base.specs.declared.word.Width.TheVariants as width
use Rattle.stl_statement_grammar.specs.Constants.{fits}
use Rattle.stl_tree.specs.declared.raw.Constant.{Constant}
use Rattle.stl_tree.specs.declared.raw.Declaration.{Declaration, Declaration-F, para-Declaration}
use Rattle.stl_tree.specs.declared.raw.DeclType.{DeclType, out-DeclType, para-DeclType}
use Rattle.stl_tree.specs.declared.raw.DeclType.TheOpen as T
use Rattle.stl_tree.specs.declared.raw.ElemType.{ElemType}
use Rattle.stl_tree.specs.declared.raw.InitialItem.{InitialItem}
use Rattle.stl_rules.specs.Extents.{elements_in, width_of}

-- Names

-- the key by which a name is compared
abbrev pub key_of : List ℕ → List ℕ
key_of name = map to_ascii_uppercase name

-- a name is one of some
abbrev pub is_named : List ℕ → List (List ℕ) → Bool
is_named key names = list_any (pointwise nat_eq key) names

-- names with one more
abbrev pub with_name : List ℕ → List (List ℕ) → List (List ℕ)
with_name key names = if is_named key names then names else names ++ key ∷ []

-- the rule that is broken on a line where a name was declared before in its scope
abbrev pub break_if_repeated : Line → Bool → List Break
break_if_repeated line true = rule_break line DuplicateName
break_if_repeated line false = []

-- Bounds

-- a bound is from -32768 to 32767
abbrev pub is_bound : ℤ → Bool
is_bound z = int_le (neg_ℤ (pos 32768)) z && int_le z (pos 32767)

-- the bounds of a dimension are bounds, and in order
abbrev pub are_bounds : ℤ × ℤ → Bool
are_bounds bounds = is_bound bounds.0 && is_bound bounds.1 && int_le bounds.0 bounds.1

-- the bounds of an array are those of at most 6 dimensions
abbrev pub is_array : List (ℤ × ℤ) → Bool
is_array bounds = list_all are_bounds bounds && nat_le (length bounds) 6

abbrev pub array_breaks : Line → List (ℤ × ℤ) → List Break
array_breaks line bounds = if is_array bounds then [] else rule_break line BadType

-- Initial values

-- a width is that of a bit
abbrev pub is_bit : Width → Bool
is_bit width.Bit = true
is_bit other = false

-- a constant may be the value of a byte though it is written as a plain number
abbrev pub is_plain_byte : Width → Constant → Bool
is_plain_byte width.Byte c = c.signed && nat_le c.value 255
is_plain_byte other c = false

-- a constant is a value of a width
abbrev pub fits_width : Width → Constant → Bool
fits_width width.Bit c = is_bit c.width
fits_width w c = fits w c || is_plain_byte w c

-- the elementary type that a type is, if it is one
abbrev pub elementary_step : T.DeclType-F DeclType Declaration → Option ElemType
elementary_step (T.Elementary e) = Some e
elementary_step T.DateAndTime = None
elementary_step (T.Array bounds element) = None
elementary_step (T.Struct parts) = None

abbrev pub elementary : DeclType → Option ElemType
elementary ty = elementary_step (out-DeclType ty)

-- the elementary type of the initial values of a type, and how many there may be: one, or one for each element
abbrev pub takes_step : T.DeclType-F DeclType Declaration → Option (ElemType × ℕ)
takes_step (T.Elementary e) = Some (e, 1)
takes_step T.DateAndTime = None
takes_step (T.Array bounds element) = option_map (λ (e : ElemType). (e, elements_in bounds)) (elementary element)
takes_step (T.Struct parts) = None

abbrev pub takes : DeclType → Option (ElemType × ℕ)
takes ty = takes_step (out-DeclType ty)

-- how many values there are
abbrev pub values_in : List InitialItem → ℕ
values_in [] = 0
values_in (item ∷ items) = item.count * length item.values + values_in items

-- all values are values of the width
abbrev pub all_fit : Width → List InitialItem → Bool
all_fit w items = list_all (λ (item : InitialItem). list_all (fits_width w) item.values) items

-- a number of values as it is counted, at most 2 ^ 60; no text has more
abbrev pub capped_count : ℕ → ℕ
capped_count n = min n (2 ^ 60)

-- the initial values of a type are no more than it takes, each of the width of its elementary type
abbrev pub are_values : Option (ElemType × ℕ) → List InitialItem → Bool
are_values None [] = true
are_values None (item ∷ items) = false
are_values (Some most) items =
    all_fit (width_of most.0) items && nat_le (capped_count (values_in items)) (capped_count most.1)

abbrev pub value_breaks : Line → Option (ElemType × ℕ) → List InitialItem → List Break
value_breaks line most items = if are_values most items then [] else rule_break line BadOperand

-- All rules

-- the rules that are broken in a scope, after declarations of these names
abbrev pub breaks_behind : List (List ℕ) → List (Declaration × List Break) → List Break
breaks_behind names [] = []
breaks_behind names (part ∷ parts) =
    break_if_repeated part.0.line (is_named (key_of part.0.name) names)
    ++ part.1 ++ breaks_behind (with_name (key_of part.0.name) names) parts

-- the rules that are broken in a type on a line; the components of a STRUCT are a scope of their own
abbrev pub type_step : T.DeclType-F (DeclType × (Line → List Break)) (Declaration × List Break) → Line → List Break
type_step (T.Elementary e) line = []
type_step T.DateAndTime line = []
type_step (T.Array bounds element) line = array_breaks line bounds ++ element.1 line
type_step (T.Struct parts) line = breaks_behind [] parts

-- the rules that are broken in a declaration, but for its name
abbrev pub declaration_step : Declaration-F (DeclType × (Line → List Break)) (Declaration × List Break) → List Break
declaration_step d = d.ty.1 d.line ++ value_breaks d.line (takes d.ty.0) d.initial

unfoldable pub type_breaks : DeclType → Line → List Break
type_breaks = para-DeclType (Line → List Break) (List Break) type_step declaration_step

unfoldable pub declaration_breaks : Declaration → List Break
declaration_breaks = para-Declaration (Line → List Break) (List Break) type_step declaration_step

-- the rules that are broken in declarations of one scope
unfoldable pub scope_breaks : List (List ℕ) → List Declaration → List Break
scope_breaks names decls = breaks_behind names (map (λ (d : Declaration). (d, declaration_breaks d)) decls)

-- the rules that are broken in sections, which are one scope
abbrev pub section_breaks : List (List Declaration) → List Break
section_breaks sections = scope_breaks [] (flat_map (λ section. section) sections)
