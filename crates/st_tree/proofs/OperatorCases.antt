-- Operators on values, held against worked rows.
use Rattle.st_tree.proofs.Common.{◌≡◌, ℕ, ℤ, pos, negsuc, true, false, Ok, Err, refl, binary_value, selected_value, converted_value, shift_value, unary_value, Value, flag, StType}
use Rattle.s7_base.specs.declared.outcome.Fault.TheVariants.{BcdDigit, DivideByZero}
use Rattle.st_tree.specs.declared.expr.BinaryOp.TheVariants as binary
use Rattle.st_tree.specs.declared.expr.ShiftOp.TheVariants as shift
use Rattle.st_tree.specs.declared.expr.StType.TheVariants as type
use Rattle.st_tree.specs.declared.expr.UnaryOp.TheVariants as unary

abbrev of : StType → ℤ → Value
of ty n = record { ty = ty; n = n }

abbrev int : ℤ → Value
int n = of type.Int n

abbrev dint : ℤ → Value
dint n = of type.Dint n

abbrev byte : ℕ → Value
byte n = of type.Byte (pos n)

abbrev word : ℕ → Value
word n = of type.Word (pos n)

abbrev dword : ℕ → Value
dword n = of type.Dword (pos n)

-- a quotient is truncated, and a remainder has the sign of the dividend: -7 by 2, 7 by -2, -7 by -2
quotients : binary_value binary.Div (int (negsuc 6)) (int (pos 2)) ≡ Ok (int (negsuc 2))
quotients = refl

quotients_below : binary_value binary.Div (int (pos 7)) (int (negsuc 1)) ≡ Ok (int (negsuc 2))
quotients_below = refl

quotients_both : binary_value binary.Div (int (negsuc 6)) (int (negsuc 1)) ≡ Ok (int (pos 3))
quotients_both = refl

remainders : binary_value binary.Mod (int (negsuc 6)) (int (pos 2)) ≡ Ok (int (negsuc 0))
remainders = refl

remainders_below : binary_value binary.Mod (int (pos 7)) (int (negsuc 1)) ≡ Ok (int (pos 1))
remainders_below = refl

by_zero : binary_value binary.Div (dint (pos 1)) (dint (pos 0)) ≡ Err DivideByZero
by_zero = refl

rest_by_zero : binary_value binary.Mod (dint (pos 0)) (dint (pos 0)) ≡ Err DivideByZero
rest_by_zero = refl

-- numbers wrap: 32767 + 1, -32768 - 1, 300 * 300 in 16 bits, - (-32768), -2147483648 / -1, and in 64 bits
sum_wraps : binary_value binary.Add (int (pos 32767)) (int (pos 1)) ≡ Ok (int (negsuc 32767))
sum_wraps = refl

difference_wraps : binary_value binary.Sub (int (negsuc 32767)) (int (pos 1)) ≡ Ok (int (pos 32767))
difference_wraps = refl

product_wraps : binary_value binary.Mul (int (pos 300)) (int (pos 300)) ≡ Ok (int (pos 24464))
product_wraps = refl

minus_wraps : unary_value unary.Minus (int (negsuc 32767)) ≡ Ok (int (negsuc 32767))
minus_wraps = refl

quotient_wraps : binary_value binary.Div (dint (negsuc 2147483647)) (dint (negsuc 0)) ≡ Ok (dint (negsuc 2147483647))
quotient_wraps = refl

remainder_of_least : binary_value binary.Mod (dint (negsuc 2147483647)) (dint (negsuc 0)) ≡ Ok (dint (pos 0))
remainder_of_least = refl

wide_wraps : binary_value binary.Add (of type.Lint (pos 9223372036854775807)) (of type.Lint (pos 1)) ≡ Ok (of type.Lint (negsuc 9223372036854775807))
wide_wraps = refl

-- bit by bit
conjunction : binary_value binary.And (byte 12) (byte 10) ≡ Ok (byte 8)
conjunction = refl

disjunction : binary_value binary.Or (word 12) (word 10) ≡ Ok (word 14)
disjunction = refl

exclusion : binary_value binary.Xor (dword 4294967295) (dword 10) ≡ Ok (dword 4294967285)
exclusion = refl

inversion : unary_value unary.Not (word 5) ≡ Ok (word 65530)
inversion = refl

no_truth : unary_value unary.Not (flag true) ≡ Ok (flag false)
no_truth = refl

-- a number is compared with its sign, a pattern without one: INT -1 < 1, WORD 16#FFFF > 1, FALSE < TRUE
signed_order : binary_value binary.Lt (int (negsuc 0)) (int (pos 1)) ≡ Ok (flag true)
signed_order = refl

unsigned_order : binary_value binary.Lt (word 65535) (word 1) ≡ Ok (flag false)
unsigned_order = refl

truth_order : binary_value binary.Lt (flag false) (flag true) ≡ Ok (flag true)
truth_order = refl

at_most : binary_value binary.Le (int (pos 4)) (int (pos 4)) ≡ Ok (flag true)
at_most = refl

at_least : binary_value binary.Ge (int (negsuc 4)) (int (pos 4)) ≡ Ok (flag false)
at_least = refl

above : binary_value binary.Gt (int (pos 4)) (int (pos 4)) ≡ Ok (flag false)
above = refl

equal : binary_value binary.Eq (dword 7) (dword 7) ≡ Ok (flag true)
equal = refl

different : binary_value binary.Ne (dword 7) (dword 7) ≡ Ok (flag false)
different = refl

-- conversions: a sign is extended, zeros are, what is too long is cut, and the result is read in its type
extends_sign : converted_value type.Dword (int (negsuc 0)) ≡ dword 4294967295
extends_sign = refl

extends_zeros : converted_value type.Dint (word 65535) ≡ dint (pos 65535)
extends_zeros = refl

reads_sign : converted_value type.Int (word 65535) ≡ int (negsuc 0)
reads_sign = refl

cuts : converted_value type.Byte (dint (pos 511)) ≡ byte 255
cuts = refl

cuts_below : converted_value type.Int (dint (negsuc 32768)) ≡ int (pos 32767)
cuts_below = refl

from_truth : converted_value type.Int (flag true) ≡ int (pos 1)
from_truth = refl

-- SEL: the first value where the gate is FALSE
first_chosen : selected_value (flag false) (int (pos 3)) (int (pos 4)) ≡ int (pos 3)
first_chosen = refl

second_chosen : selected_value (flag true) (int (pos 3)) (int (pos 4)) ≡ int (pos 4)
second_chosen = refl

-- shifts by 4, by 0, by less than 0, and by the width
shifts_left : shift_value shift.Shl (word 61455) (int (pos 4)) ≡ word 240
shifts_left = refl

shifts_right : shift_value shift.Shr (word 61455) (int (pos 4)) ≡ word 3840
shifts_right = refl

shifts_by_none : shift_value shift.Shr (word 61455) (int (pos 0)) ≡ word 61455
shifts_by_none = refl

shifts_below : shift_value shift.Shl (word 61455) (int (negsuc 0)) ≡ word 61455
shifts_below = refl

shifts_out : shift_value shift.Shl (word 61455) (int (pos 16)) ≡ word 0
shifts_out = refl

shifts_out_right : shift_value shift.Shr (byte 255) (int (pos 32767)) ≡ byte 0
shifts_out_right = refl

-- rotations go modulo the width
turns_left : shift_value shift.Rol (word 61455) (int (pos 4)) ≡ word 255
turns_left = refl

turns_right : shift_value shift.Ror (word 61455) (int (pos 4)) ≡ word 65280
turns_right = refl

turns_round : shift_value shift.Rol (byte 129) (int (pos 9)) ≡ byte 3
turns_round = refl

turns_below : shift_value shift.Ror (byte 129) (int (negsuc 5)) ≡ byte 129
turns_below = refl

turns_truth : shift_value shift.Rol (flag true) (int (pos 5)) ≡ flag true
turns_truth = refl

-- 16#8123 says -123, and 16#8000_0010 says -10; a digit above 9 has no value
three_digits : unary_value unary.BcdToInt (word 33059) ≡ Ok (int (negsuc 122))
three_digits = refl

seven_digits : unary_value unary.BcdToDint (dword 2147483664) ≡ Ok (dint (negsuc 9))
seven_digits = refl

no_digit : unary_value unary.BcdToInt (word 26) ≡ Err BcdDigit
no_digit = refl
