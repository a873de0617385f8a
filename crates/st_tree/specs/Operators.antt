-- Values of operators and functions. What they give for the values of their operands: operators, conversions, SEL,
-- shifts and rotations.
-- Held against: IEC 61131-3, 'Expressions', 'Data type conversion functions', 'Bit string functions' and 'Selection
-- functions'.
use Rattle.std.specs.Prelude.{ℕ, ◌+◌, ◌-◌, ◌*◌, ◌/◌, ◌%◌, ◌^◌, nat_lt, ℤ, pos, neg_ℤ, ◌+ℤ◌, ◌-ℤ◌, ◌*ℤ◌, int_div, int_rem, int_lt, int_le, unsigned_abs, bit_and, bit_or, bit_xor, not, if◌then◌else◌, Result, Ok, Err}
use Rattle.std.specs.Ordering.{int_eq}
use Rattle.bcd_words.specs.Bcd.{bcd_value}
use Rattle.s7_base.specs.declared.outcome.Fault.{Fault}
use Rattle.s7_base.specs.declared.outcome.Fault.TheVariants.{DivideByZero}
use Rattle.st_tree.specs.Values.{Value, width_of, pattern, typed, of_bits, bits_of, flag, is_set}
use Rattle.st_tree.specs.declared.expr.StType.{StType}
use Rattle.st_tree.specs.declared.expr.StType.TheVariants as type
use Rattle.st_tree.specs.declared.expr.UnaryOp.{UnaryOp}
use Rattle.st_tree.specs.declared.expr.UnaryOp.TheVariants as unary
use Rattle.st_tree.specs.declared.expr.BinaryOp.{BinaryOp}
use Rattle.st_tree.specs.declared.expr.BinaryOp.TheVariants as binary
use Rattle.st_tree.specs.declared.expr.ShiftOp.{ShiftOp}
use Rattle.st_tree.specs.declared.expr.ShiftOp.TheVariants as shift

-- a number read from digits, as a value of a type
abbrev pub from_digits : StType → Result ℤ Fault → Result Value Fault
from_digits ty (Ok z) = Ok (typed ty z)
from_digits ty (Err f) = Err f

-- the value of an operator before its operand: minus wraps, NOT inverts each bit, and BCD_TO_INT and BCD_TO_DINT read
-- three digits of a WORD and seven of a DWORD
abbrev pub unary_value : UnaryOp → Value → Result Value Fault
unary_value unary.Minus v = Ok (typed v.ty (neg_ℤ v.n))
unary_value unary.Not v = Ok (of_bits v.ty (2 ^ width_of v.ty - 1 - bits_of v))
unary_value unary.BcdToInt v = from_digits type.Int (bcd_value 3 (pattern 16 v.n))
unary_value unary.BcdToDint v = from_digits type.Dint (bcd_value 7 (pattern 32 v.n))

-- a quotient or a remainder; with a divisor 0 there is none, but a fault
abbrev pub division : (ℤ → ℤ → ℤ) → Value → Value → Result Value Fault
division f v w = if int_eq w.n (pos 0) then Err DivideByZero else Ok (typed v.ty (f v.n w.n))

-- the value of an operator between its operands: + - * and the quotient wrap, the quotient is truncated and the
-- remainder has the sign of the dividend; a bit type is compared by its pattern, which has no sign; AND, XOR and OR
-- go bit by bit
abbrev pub binary_value : BinaryOp → Value → Value → Result Value Fault
binary_value binary.Mul v w = Ok (typed v.ty (v.n *ℤ w.n))
binary_value binary.Div v w = division int_div v w
binary_value binary.Mod v w = division int_rem v w
binary_value binary.Add v w = Ok (typed v.ty (v.n +ℤ w.n))
binary_value binary.Sub v w = Ok (typed v.ty (v.n -ℤ w.n))
binary_value binary.Lt v w = Ok (flag (int_lt v.n w.n))
binary_value binary.Gt v w = Ok (flag (int_lt w.n v.n))
binary_value binary.Le v w = Ok (flag (int_le v.n w.n))
binary_value binary.Ge v w = Ok (flag (int_le w.n v.n))
binary_value binary.Eq v w = Ok (flag (int_eq v.n w.n))
binary_value binary.Ne v w = Ok (flag (not (int_eq v.n w.n)))
binary_value binary.And v w = Ok (of_bits v.ty (bit_and (bits_of v) (bits_of w)))
binary_value binary.Xor v w = Ok (of_bits v.ty (bit_xor (bits_of v) (bits_of w)))
binary_value binary.Or v w = Ok (of_bits v.ty (bit_or (bits_of v) (bits_of w)))

-- the value of a conversion: a number extends its sign and a pattern zeros, and what is longer than the type is cut
abbrev pub converted_value : StType → Value → Value
converted_value ty v = typed ty v.n

-- the value of SEL: the second of the two where the gate is TRUE
abbrev pub selected_value : Value → Value → Value → Value
selected_value gate v w = record { ty = v.ty; n = if is_set gate then w.n else v.n }

-- a pattern of some bits rotated to the left by k, fewer than it has: what is shifted out on the left comes in on the
-- right
abbrev pub turned_left : ℕ → ℕ → ℕ → ℕ
turned_left width bits k = bits * 2 ^ k % 2 ^ width + bits * 2 ^ k / 2 ^ width

-- a pattern of some bits rotated to the right by k, fewer than it has: what is shifted out on the right comes in on
-- the left
abbrev pub turned_right : ℕ → ℕ → ℕ → ℕ
turned_right width bits k = bits / 2 ^ k + bits % 2 ^ k * 2 ^ (width - k)

-- a pattern of some bits, shifted or rotated by a count: a shift by the width or more gives 0, and a rotation is
-- modulo the width
abbrev pub shift_result : ShiftOp → ℕ → ℕ → ℕ → ℕ
shift_result shift.Shl width bits count = if nat_lt count width then bits * 2 ^ count % 2 ^ width else 0
shift_result shift.Shr width bits count = if nat_lt count width then bits / 2 ^ count else 0
shift_result shift.Rol width bits count = turned_left width bits (count % width)
shift_result shift.Ror width bits count = turned_right width bits (count % width)

-- a shift or a rotation of a value by another; a count below 0 does not change the value
abbrev pub shift_value : ShiftOp → Value → Value → Value
shift_value op v count =
    if int_lt count.n (pos 0) then v
    else of_bits v.ty (shift_result op (width_of v.ty) (bits_of v) (unsigned_abs count.n))
