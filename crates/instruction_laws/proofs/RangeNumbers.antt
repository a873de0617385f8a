-- Numbers that the rows make have the bits of what they go into.
use Rattle.std.proofs.Common.{ℕ, zero, suc, ◌+◌, ◌*◌, ◌/◌, ◌^◌, ◌<◌, Bool, true, false, pos, ◌++◌, [], ◌∷◌, if◌then◌else◌, arith}
use Rattle.std.specs.Prelude.{ℤ, int_lt}
use Rattle.std.specs.Int.{from_bool}
use Rattle.std.proofs.lemmas.Int.{ints}
use Rattle.std.proofs.lemmas.Nat.{and_le_l, or_of_16, or_of_32, xor_of_16, xor_of_32}
use Rattle.bcd_words.proofs.Digits.{worth-below}
use Rattle.bcd_words.specs.Bcd.{digits, sign_digit, worth}
use Rattle.memory_areas.specs.Pointers.{pointer_plus}
use Rattle.s7_base.specs.SignedNumbers.{pattern}
use Rattle.s7_base.specs.declared.word.Width.{Width}
use Rattle.s7_base.specs.declared.word.Width.TheVariants as width
use Rattle.st_tree.proofs.FittingValues.{pattern_below}
use Rattle.status_word.specs.Flags.{word_of}
use Rattle.status_word.specs.StatusBits.{StatusBits}
use Rattle.memory_areas.specs.Access.{bits_wide}
use Rattle.stl_tree.specs.Accumulators.{part, with_number, with_part}
use Rattle.stl_tree.specs.Shifts.{bottom, left, right, step, times, top, width_of as shift_width}
use Rattle.stl_tree.specs.WordLogic.{combination_of, width_of as logic_width}
use Rattle.stl_tree.specs.declared.accumulator.LogicRow.{LogicRow}
use Rattle.stl_tree.specs.declared.accumulator.LogicRow.TheVariants as logic
use Rattle.stl_tree.specs.declared.accumulator.ShiftRow.{ShiftRow}
use Rattle.stl_tree.specs.declared.accumulator.ShiftRow.TheVariants as row

-- Parts

pub as_dword : (w : Width) (n : ℕ) → n < 2 ^ bits_wide w → n < 2 ^ 32
as_dword width.Bit n h = omega arith
as_dword width.Byte n h = omega arith
as_dword width.Word n h = omega arith
as_dword width.Dword n h = h

pub part_below : (w : Width) (a : ℕ) → part w a < 2 ^ bits_wide w
part_below width.Bit a = omega arith
part_below width.Byte a = omega arith
part_below width.Word a = omega arith
part_below width.Dword a = omega arith

pub with_part_below : (w : Width) (a p : ℕ) → a < 2 ^ 32 → p < 2 ^ bits_wide w → with_part w a p < 2 ^ 32
with_part_below width.Bit a p h k = omega arith
with_part_below width.Byte a p h k = omega arith
with_part_below width.Word a p h k = omega arith
with_part_below width.Dword a p h k = omega arith

pub with_number_below : (w : Width) (a : ℕ) (z : ℤ) → a < 2 ^ 32 → with_number w a z < 2 ^ 32
with_number_below w a z h = with_part_below w a (pattern (bits_wide w) z) h (pattern_below (bits_wide w) z)

pub halves_below : (x y : ℤ) → pattern 16 x * 2 ^ 16 + pattern 16 y < 2 ^ 32
halves_below x y = omega (arith, pattern_below 16 x, pattern_below 16 y)

pub moved_below : (p : ℕ) (z : ℤ) → p < 2 ^ 32 → pointer_plus p z < 2 ^ 32
moved_below p z h = grind (arith, ints)

pub truth : (b : Bool) → from_bool b < 2
truth true = omega arith
truth false = omega arith

pub word_below : (s : StatusBits) → word_of s < 2 ^ 32
word_below s = omega (arith, truth s.rlo, truth s.os, truth s.ov, truth s.cc0, truth s.cc1, truth s.br)

-- Digits

sign_below : (z : ℤ) → sign_digit z < 16
sign_below z = by (int_lt z (pos 0))
  where
    by : (b : Bool) → (if b then 0xF else 0) < 16
    by true = omega arith
    by false = omega arith

pub three_digits_below : (n : ℕ) (z : ℤ) → worth 16 (digits 10 3 n ++ sign_digit z ∷ []) < 2 ^ 16
three_digits_below n z =
    worth-below 16 (digits 10 3 n ++ sign_digit z ∷ []) (omega arith, (omega arith, (omega arith, (sign_below z, tt))))

pub seven_digits_below : (n : ℕ) (z : ℤ) → worth 16 (digits 10 7 n ++ sign_digit z ∷ []) < 2 ^ 32
seven_digits_below n z =
    worth-below 16 (digits 10 7 n ++ sign_digit z ∷ [])
    (omega arith, (omega arith, (omega arith, (omega arith, (omega arith, (omega arith, (omega arith, (sign_below z, tt))))))))

-- Shifts

highest : (b : Bool) (m q : ℕ) → q < m → from_bool b * m + q < m * 2
highest true m q h = omega arith
highest false m q h = omega arith

step_below : (k : ShiftRow) (p : ℕ) → p < 2 ^ bits_wide (shift_width k) → step k p < 2 ^ bits_wide (shift_width k)
step_below row.Slw p h = omega arith
step_below row.Srw p h = omega arith
step_below row.Ssi p h = highest (top 16 p) (2 ^ 15) (p / 2) (omega arith)
step_below row.Sld p h = omega arith
step_below row.Srd p h = omega arith
step_below row.Ssd p h = highest (top 32 p) (2 ^ 31) (p / 2) (omega arith)
step_below row.Rld p h = omega (arith, truth (top 32 p))
step_below row.Rrd p h = highest (bottom p) (2 ^ 31) (p / 2) (omega arith)

pub times_below : (k : ShiftRow) (n p : ℕ) → p < 2 ^ bits_wide (shift_width k) → times n (step k) p < 2 ^ bits_wide (shift_width k)
unfolding times
times_below k zero p h = h
times_below k (suc n) p h = step_below k (times n (step k) p) (times_below k n p h)

pub left_around_below : (a : ℕ) (c : Bool) → left 32 a + from_bool c < 2 ^ 32
left_around_below a c = omega (arith, truth c)

pub right_around_below : (a : ℕ) (c : Bool) → a < 2 ^ 32 → from_bool c * 2 ^ 31 + right a < 2 ^ 32
right_around_below a c h = highest c (2 ^ 31) (a / 2) (omega arith)

-- Word logic

pub combined_below : (l : LogicRow) (p q : ℕ) → p < 2 ^ bits_wide (logic_width l)
    → q < 2 ^ bits_wide (logic_width l) → combination_of l p q < 2 ^ bits_wide (logic_width l)
combined_below logic.Aw p q h k = omega (arith, and_le_l p q)
combined_below logic.Ow p q h k = or_of_16 p q h k
combined_below logic.Xow p q h k = xor_of_16 p q h k
combined_below logic.Ad p q h k = omega (arith, and_le_l p q)
combined_below logic.Od p q h k = or_of_32 p q h k
combined_below logic.Xod p q h k = xor_of_32 p q h k
