-- Arithmetic and comparisons of whole numbers. They take the low words of the accumulators or the whole of them; NEGI
-- and NEGD are among them.
-- Held against: the manual's chapters 'Integer Math', 'Comparison' and 'Conversion'.
use Rattle.std.specs.Prelude.{◌+◌, ◌*◌, ◌^◌, ℤ, pos, neg_ℤ, ◌+ℤ◌, ◌-ℤ◌, ◌*ℤ◌, int_div, int_rem, int_lt, int_le, Bool, true, false, not, if◌then◌else◌}
use Rattle.std.specs.Ordering.{int_eq}
use Rattle.s7_base.specs.SignedNumbers.{is_over, pattern, wrapped}
use Rattle.s7_base.specs.declared.word.Width.{Width}
use Rattle.s7_base.specs.declared.word.Width.TheVariants as width
use Rattle.status_word.specs.Results.{after_compared, after_signed, after_zero_divisor}
use Rattle.status_word.specs.declared.test.Test.{Test}
use Rattle.status_word.specs.declared.test.Test.TheVariants as test
use Rattle.memory_areas.specs.Access.{bits_wide}
use Rattle.stl_tree.specs.Accumulators.{signed_part, with_number}
use Rattle.stl_tree.specs.Registers.{RegisterValues}
use Rattle.stl_tree.specs.declared.accumulator.Arith.{Arith}
use Rattle.stl_tree.specs.declared.accumulator.Arith.TheVariants as row

-- the effect of an arithmetic instruction on the numbers in ACCU2 and ACCU1
abbrev pub ArithmeticOfNumbers : Type 0
ArithmeticOfNumbers = ℤ → ℤ → RegisterValues → RegisterValues

-- a true result, wrapped into a part of ACCU1; its sign flags are those of the wrapped number
abbrev pub result_in : Width → ℤ → RegisterValues → RegisterValues
result_in w z r =
    record r {
      accu1 = with_number w r.accu1 z;
      status = after_signed (wrapped (bits_wide w) z) (is_over (bits_wide w) z) r.status;
    }

-- a true product, wrapped into the whole of ACCU1; its sign flags are its own, and it overflows a width
abbrev pub product_in : Width → ℤ → RegisterValues → RegisterValues
product_in w z r = record r { accu1 = pattern 32 z; status = after_signed z (is_over (bits_wide w) z) r.status }

-- a division: by 0 it changes no accumulator
abbrev pub by_divisor : ArithmeticOfNumbers → ArithmeticOfNumbers
by_divisor row x y r = if int_eq y (pos 0) then record r { status = after_zero_divisor r.status } else row x y r

-- /I: the quotient, truncated, in the low word of ACCU1, and the remainder in the high one; the one quotient that
-- overflows is 32768
abbrev pub both_in_words : ArithmeticOfNumbers
both_in_words x y r =
    record r {
      accu1 = pattern 16 (int_rem x y) * 2 ^ 16 + pattern 16 (int_div x y);
      status = after_signed (int_div x y) (is_over 16 (int_div x y)) r.status;
    }

-- /D: the quotient; the one that overflows is 2147483648
abbrev pub quotient_in_dword : ArithmeticOfNumbers
quotient_in_dword x y r =
    record r {
      accu1 = pattern 32 (int_div x y);
      status = after_signed (int_div x y) (is_over 32 (int_div x y)) r.status;
    }

-- MOD: the remainder, with the sign of the dividend; it never overflows
abbrev pub remainder_in_dword : ArithmeticOfNumbers
remainder_in_dword x y r =
    record r { accu1 = pattern 32 (int_rem x y); status = after_signed (int_rem x y) false r.status }

-- the width of an arithmetic instruction
abbrev pub width_of : Arith → Width
width_of row.AddI = width.Word
width_of row.SubI = width.Word
width_of row.MulI = width.Word
width_of row.DivI = width.Word
width_of row.AddD = width.Dword
width_of row.SubD = width.Dword
width_of row.MulD = width.Dword
width_of row.DivD = width.Dword
width_of row.Mod = width.Dword

-- the effect of each arithmetic instruction on the numbers x in ACCU2 and y in ACCU1
abbrev pub arithmetic_of_numbers : Arith → ArithmeticOfNumbers
arithmetic_of_numbers row.AddI x y r = result_in width.Word (x +ℤ y) r
arithmetic_of_numbers row.SubI x y r = result_in width.Word (x -ℤ y) r
arithmetic_of_numbers row.MulI x y r = product_in width.Word (x *ℤ y) r
arithmetic_of_numbers row.DivI x y r = by_divisor both_in_words x y r
arithmetic_of_numbers row.AddD x y r = result_in width.Dword (x +ℤ y) r
arithmetic_of_numbers row.SubD x y r = result_in width.Dword (x -ℤ y) r
arithmetic_of_numbers row.MulD x y r = product_in width.Dword (x *ℤ y) r
arithmetic_of_numbers row.DivD x y r = by_divisor quotient_in_dword x y r
arithmetic_of_numbers row.Mod x y r = by_divisor remainder_in_dword x y r

-- the registers after an arithmetic instruction
abbrev pub after_arithmetic : Arith → RegisterValues → RegisterValues
after_arithmetic a r = arithmetic_of_numbers a (signed_part (width_of a) r.accu2) (signed_part (width_of a) r.accu1) r

-- NEGI and NEGD: the number in a part of ACCU1 with the other sign
abbrev pub after_negation : Width → RegisterValues → RegisterValues
after_negation w r = result_in w (neg_ℤ (signed_part w r.accu1)) r

-- a test is one of the six signs of comparisons
abbrev pub is_comparison : Test → Bool
is_comparison test.Eq = true
is_comparison test.Ne = true
is_comparison test.Gt = true
is_comparison test.Lt = true
is_comparison test.Ge = true
is_comparison test.Le = true
is_comparison test.Uo = false
is_comparison test.Ov = false
is_comparison test.Os = false
is_comparison test.Br = false

-- a comparison of x in ACCU2 with y in ACCU1 is true; the other tests of the status word are no comparison, and false
abbrev pub holds : Test → ℤ → ℤ → Bool
holds test.Eq x y = int_eq x y
holds test.Ne x y = not (int_eq x y)
holds test.Gt x y = int_lt y x
holds test.Lt x y = int_lt x y
holds test.Ge x y = int_le y x
holds test.Le x y = int_le x y
holds test.Uo x y = false
holds test.Ov x y = false
holds test.Os x y = false
holds test.Br x y = false

-- the registers after a comparison of numbers
abbrev pub compared_numbers : Test → ℤ → ℤ → RegisterValues → RegisterValues
compared_numbers t x y r = record r { status = after_compared x y (holds t x y) r.status }

-- the registers after ==I, <>I and their kin, or those with D
abbrev pub after_comparison : Test → Width → RegisterValues → RegisterValues
after_comparison t w r = compared_numbers t (signed_part w r.accu2) (signed_part w r.accu1) r
