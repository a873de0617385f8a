-- Which operands an operator takes. The types of expressions by those of their operands; there is none where they do
-- not fit.
-- Held against: IEC 61131-3, 'Data types' and 'Expressions'.
use Rattle.std.specs.Prelude.{ℕ, Bool, not, ◌&&◌, ◌||◌, ◌==◌, nat_lt, if◌then◌else◌, Option, Some, None}
use Rattle.memory_areas.specs.Access.{bits_wide}
use Rattle.s7_base.specs.declared.word.Width.{Width}
use Rattle.s7_base.specs.declared.word.Width.TheVariants as width
use Rattle.st_tree.specs.declared.expr.BinaryOp.{BinaryOp}
use Rattle.st_tree.specs.declared.expr.BinaryOp.TheVariants as binary
use Rattle.st_tree.specs.declared.expr.StType.{StType}
use Rattle.st_tree.specs.declared.expr.StType.TheVariants as type
use Rattle.st_tree.specs.declared.expr.UnaryOp.{UnaryOp}
use Rattle.st_tree.specs.declared.expr.UnaryOp.TheVariants as unary
use Rattle.st_tree.specs.Values.{type_of_width, width_of}

-- the place of a type in the list of types: the four bit types, then the three number types
abbrev pub place_of : StType → ℕ
place_of type.Bool = 0
place_of type.Byte = 1
place_of type.Word = 2
place_of type.Dword = 3
place_of type.Int = 4
place_of type.Dint = 5
place_of type.Lint = 6

-- two types are equal
abbrev pub is_type : StType → StType → Bool
is_type a b = place_of a == place_of b

-- a type is BOOL, BYTE, WORD or DWORD
abbrev pub has_bits : StType → Bool
has_bits ty = nat_lt (place_of ty) 4

-- a type is INT, DINT or LINT
abbrev pub has_numbers : StType → Bool
has_numbers ty = not (has_bits ty)

-- a type where a test is true
abbrev pub where_true : Bool → StType → Option StType
where_true test ty = if test then Some ty else None

-- the type of an operator on one operand: minus takes numbers, NOT bits, and the two conversions of BCD a WORD and a
-- DWORD
abbrev pub type_of_unary : UnaryOp → StType → Option StType
type_of_unary unary.Minus ty = where_true (has_numbers ty) ty
type_of_unary unary.Not ty = where_true (has_bits ty) ty
type_of_unary unary.BcdToInt ty = where_true (is_type ty type.Word) type.Int
type_of_unary unary.BcdToDint ty = where_true (is_type ty type.Dword) type.Dint

-- the type of an operator on operands of one type: arithmetic takes numbers, comparisons all types, and AND, XOR and
-- OR bits
abbrev pub type_on_equals : BinaryOp → StType → Option StType
type_on_equals binary.Mul ty = where_true (has_numbers ty) ty
type_on_equals binary.Div ty = where_true (has_numbers ty) ty
type_on_equals binary.Mod ty = where_true (has_numbers ty) ty
type_on_equals binary.Add ty = where_true (has_numbers ty) ty
type_on_equals binary.Sub ty = where_true (has_numbers ty) ty
type_on_equals binary.Lt ty = Some type.Bool
type_on_equals binary.Gt ty = Some type.Bool
type_on_equals binary.Le ty = Some type.Bool
type_on_equals binary.Ge ty = Some type.Bool
type_on_equals binary.Eq ty = Some type.Bool
type_on_equals binary.Ne ty = Some type.Bool
type_on_equals binary.And ty = where_true (has_bits ty) ty
type_on_equals binary.Xor ty = where_true (has_bits ty) ty
type_on_equals binary.Or ty = where_true (has_bits ty) ty

-- the type of an operator between two operands, which must have equal types
abbrev pub type_of_binary : BinaryOp → StType → StType → Option StType
type_of_binary op a b = if is_type a b then type_on_equals op a else None

-- the type of a conversion, which takes a value of its first type
abbrev pub type_of_conversion : StType → StType → StType → Option StType
type_of_conversion from to ty = where_true (is_type ty from) to

-- the type of SEL, which takes a BOOL and two values of equal types
abbrev pub type_of_choice : StType → StType → StType → Option StType
type_of_choice gate a b = where_true (is_type gate type.Bool && is_type a b) a

-- the type of a shift or a rotation, which takes a bit pattern and an INT
abbrev pub type_of_shift : StType → StType → Option StType
type_of_shift ty count = where_true (has_bits ty && is_type count type.Int) ty

-- the type of a read through a pointer, which takes a DWORD
abbrev pub type_of_read : Width → StType → Option StType
type_of_read w pointer = where_true (is_type pointer type.Dword) (type_of_width w)

-- the selector of a CASE may have this type: INT or DINT
abbrev pub is_selector : StType → Bool
is_selector ty = is_type ty type.Int || is_type ty type.Dint

-- a location of this width has the type's width
abbrev pub has_width : StType → Width → Bool
has_width ty w = width_of ty == bits_wide w
