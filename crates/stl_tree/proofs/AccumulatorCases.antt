-- Worked rows of the instructions in the accumulators: the definitions give what is expected of them.
use Rattle.std.proofs.Common.{◌≡◌, ℕ, negsuc, true, Some, None, Ok, Err, refl}
use Rattle.s7_base.specs.declared.outcome.Fault.TheVariants.{BcdDigit}
use Rattle.s7_base.specs.declared.word.Width.TheVariants as width
use Rattle.status_word.specs.StatusBits.{all_clear}
use Rattle.status_word.specs.Flags.{word_of}
use Rattle.status_word.specs.declared.test.Test.TheVariants as test
use Rattle.stl_tree.specs.Accumulators.{counted_down, counted_up, after_addition}
use Rattle.stl_tree.specs.Arithmetic.{after_arithmetic, after_comparison, after_negation}
use Rattle.stl_tree.specs.Conversions.{after_conversion}
use Rattle.stl_tree.specs.Registers.{RegisterValues, start}
use Rattle.stl_tree.specs.Shifts.{after_shift, around_left_through_cc1, times}
use Rattle.stl_tree.specs.WordLogic.{after_word_logic}
use Rattle.stl_tree.specs.declared.accumulator.Arith.TheVariants as arith
use Rattle.stl_tree.specs.declared.accumulator.LogicRow.TheVariants as logic
use Rattle.stl_tree.specs.declared.accumulator.ShiftRow.TheVariants as shift
use Rattle.stl_tree.specs.declared.accumulator.UnaryRow.TheVariants as unary

-- two numbers in ACCU2 and ACCU1
abbrev holding : ℕ → ℕ → RegisterValues
holding two one = record start { accu1 = one; accu2 = two }

-- ACCU1 and what L STW loads are these
abbrev Shows : RegisterValues → ℕ → ℕ → Type 0
Shows r one stw = (r.accu1 ≡ one) × (word_of r.status ≡ stw)

sum : Shows (after_arithmetic arith.AddI (holding 32767 1)) 0x8000 0x70
sum = (refl, refl)

-- -7 by 3 leaves -1
remainder : Shows (after_arithmetic arith.Mod (holding 0xFFFFFFF9 3)) 0xFFFFFFFF 0x40
remainder = (refl, refl)

minus_digits : after_conversion unary.Itb (holding 0 0xFF85) ≡ Ok (holding 0 0xF123)
minus_digits = refl

out_of_range : after_conversion unary.Itb (holding 0 1000) ≡ Ok (record (holding 0 1000) { status = record all_clear { ov = true; os = true } })
out_of_range = refl

product : Shows (after_arithmetic arith.MulI (holding 200 200)) 0x9C40 0xB0
product = (refl, refl)

turned : Shows (after_shift shift.Rrd (Some 1) (holding 0 0x80000001)) 0xC0000000 0x80
unfolding times
turned = (refl, refl)

shifted_with_sign : Shows (after_shift shift.Ssi (Some 1) (holding 0 0x8001)) 0xC000 0x80
unfolding times
shifted_with_sign = (refl, refl)

greater : Shows (after_comparison test.Gt width.Word (holding 5 3)) 3 0x82
greater = (refl, refl)

least_negated : Shows (after_negation width.Word (holding 0 0x8000)) 0x8000 0x70
least_negated = (refl, refl)

-- -7 by 2: the quotient -3 in the low word, the remainder -1 in the high one
quotient : Shows (after_arithmetic arith.DivI (holding 0xFFF9 2)) 0xFFFFFFFD 0x40
quotient = (refl, refl)

by_zero : Shows (after_arithmetic arith.DivI (holding 7 0)) 0 0xF0
by_zero = (refl, refl)

word_overflow : Shows (after_arithmetic arith.DivI (holding 0x8000 0xFFFF)) 0x8000 0xB0
word_overflow = (refl, refl)

dword_overflow : Shows (after_arithmetic arith.DivD (holding 0x80000000 0xFFFFFFFF)) 0x80000000 0xB0
dword_overflow = (refl, refl)

no_remainder : Shows (after_arithmetic arith.Mod (holding 0x80000000 0xFFFFFFFF)) 0 0
no_remainder = (refl, refl)

shifted_out : Shows (after_shift shift.Slw (Some 15) (holding 0 3)) 0x8000 0x80
unfolding times
shifted_out = (refl, refl)

not_shifted : after_shift shift.Slw None (holding 256 3) ≡ holding 256 3
not_shifted = refl

by_accu2 : Shows (after_shift shift.Slw None (holding 17 3)) 0 0
unfolding times
by_accu2 = (refl, refl)

carried : Shows (around_left_through_cc1 (record (holding 0 0x80000000) { status = record all_clear { cc1 = true } })) 1 0x80
carried = (refl, refl)

wrong_digit : after_conversion unary.Bti (holding 0 0x09A1) ≡ Err BcdDigit
wrong_digit = refl

number_of_digits : after_conversion unary.Bti (holding 0 0xF123) ≡ Ok (holding 0 0xFF85)
number_of_digits = refl

reversed : after_conversion unary.Cad (holding 0 0x12345678) ≡ Ok (holding 0 0x78563412)
reversed = refl

reversed_word : after_conversion unary.Caw (holding 0 0x12345678) ≡ Ok (holding 0 0x12347856)
reversed_word = refl

inverted_word : after_conversion unary.Invi (holding 0 0x12345678) ≡ Ok (holding 0 0x1234A987)
inverted_word = refl

by_constant : Shows (after_word_logic logic.Aw (Some 0x00FF) (holding 0 0x12345678)) 0x12340078 0x80
by_constant = (refl, refl)

in_its_byte : counted_up 255 (holding 0 0x1201) ≡ holding 0 0x1200
in_its_byte = refl

below_zero : counted_down 2 (holding 0 0x1201) ≡ holding 0 0x12FF
below_zero = refl

minus_one : after_addition width.Word (negsuc 0) (holding 0 0x10000) ≡ holding 0 0x1FFFF
minus_one = refl
