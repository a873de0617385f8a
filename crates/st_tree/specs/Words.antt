-- The words of Structured Text. They name registers, areas, widths, types, operators and functions, all in capitals
-- as a canonical text has them.
-- Held against: IEC 61131-3, 'Keywords', and this project's own register variables.
use Rattle.std.specs.Prelude.{ℕ, List, ◌++◌, codes}
use Rattle.memory_areas.specs.declared.place.AreaName.{AreaName}
use Rattle.memory_areas.specs.declared.place.AreaName.TheVariants as area
use Rattle.s7_base.specs.declared.register.Reg.{Reg}
use Rattle.s7_base.specs.declared.register.Reg.TheVariants as reg
use Rattle.s7_base.specs.declared.word.Width.{Width}
use Rattle.s7_base.specs.declared.word.Width.TheVariants as width
use Rattle.st_tree.specs.declared.expr.StType.{StType}
use Rattle.st_tree.specs.declared.expr.StType.TheVariants as type
use Rattle.st_tree.specs.declared.expr.UnaryOp.{UnaryOp}
use Rattle.st_tree.specs.declared.expr.UnaryOp.TheVariants as unary
use Rattle.st_tree.specs.declared.expr.BinaryOp.{BinaryOp}
use Rattle.st_tree.specs.declared.expr.BinaryOp.TheVariants as binary
use Rattle.st_tree.specs.declared.expr.ShiftOp.{ShiftOp}
use Rattle.st_tree.specs.declared.expr.ShiftOp.TheVariants as shifts

-- the name of a register
abbrev pub register_word : Reg → List ℕ
register_word reg.Accu1 = codes "ACCU1"
register_word reg.Accu2 = codes "ACCU2"
register_word reg.Ar1 = codes "AR1"
register_word reg.Ar2 = codes "AR2"
register_word reg.DbNo = codes "DBNO"
register_word reg.DiNo = codes "DINO"
register_word reg.Nfc = codes "NFC"
register_word reg.Rlo = codes "RLO"
register_word reg.Sta = codes "STA"
register_word reg.Orb = codes "ORB"
register_word reg.Os = codes "OS"
register_word reg.Ov = codes "OV"
register_word reg.Cc0 = codes "CC0"
register_word reg.Cc1 = codes "CC1"
register_word reg.Br = codes "BR"

-- the letters of an area
abbrev pub area_word : AreaName → List ℕ
area_word area.I = codes "I"
area_word area.Q = codes "Q"
area_word area.M = codes "M"
area_word area.L = codes "L"
area_word area.Db = codes "DB"
area_word area.Di = codes "DI"

-- the letter of a width
abbrev pub width_word : Width → List ℕ
width_word width.Bit = codes "X"
width_word width.Byte = codes "B"
width_word width.Word = codes "W"
width_word width.Dword = codes "D"

-- the name of a type
abbrev pub type_word : StType → List ℕ
type_word type.Bool = codes "BOOL"
type_word type.Byte = codes "BYTE"
type_word type.Word = codes "WORD"
type_word type.Dword = codes "DWORD"
type_word type.Int = codes "INT"
type_word type.Dint = codes "DINT"
type_word type.Lint = codes "LINT"

-- an operator before its operand, or a function with its bracket
abbrev pub prefix_word : UnaryOp → List ℕ
prefix_word unary.Minus = codes "-"
prefix_word unary.Not = codes "NOT "
prefix_word unary.BcdToInt = codes "BCD_TO_INT("
prefix_word unary.BcdToDint = codes "BCD_TO_DINT("

-- an operator between its operands
abbrev pub operator_word : BinaryOp → List ℕ
operator_word binary.Mul = codes "*"
operator_word binary.Div = codes "/"
operator_word binary.Mod = codes "MOD"
operator_word binary.Add = codes "+"
operator_word binary.Sub = codes "-"
operator_word binary.Lt = codes "<"
operator_word binary.Gt = codes ">"
operator_word binary.Le = codes "<="
operator_word binary.Ge = codes ">="
operator_word binary.Eq = codes "="
operator_word binary.Ne = codes "<>"
operator_word binary.And = codes "AND"
operator_word binary.Xor = codes "XOR"
operator_word binary.Or = codes "OR"

-- an operator between its operands, with a blank on either side, as it is written
abbrev pub infix_word : BinaryOp → List ℕ
infix_word op = codes " " ++ (operator_word op ++ codes " ")

-- the name of a shift or a rotation
abbrev pub shift_word : ShiftOp → List ℕ
shift_word shifts.Shl = codes "SHL"
shift_word shifts.Shr = codes "SHR"
shift_word shifts.Rol = codes "ROL"
shift_word shifts.Ror = codes "ROR"
