-- Facts on numbers and patterns that the rows need.
use Rattle.std.proofs.Common.{◌≡◌, ℕ, zero, suc, ◌+◌, ◌*◌, ◌/◌, ◌%◌, ◌^◌, ◌<◌, ◌==◌, pos, negsuc, false, not, refl, arith}
use Rattle.std.specs.Prelude.{ℤ, ◌+ℤ◌, ◌-ℤ◌, bit_and, bit_or}
use Rattle.std.proofs.lemmas.Int.{ints}
use Rattle.std.proofs.lemmas.Nat.{or_shifted, pow_pos}
use Rattle.std.specs.Int.{bit_at}
use Rattle.std.specs.Int.Bits.{or_shifted_r}
use Rattle.std.specs.Ordering.{int_eq}
use Rattle.std.proofs.lemmas.Nat.Bits.{and_high_mask, and_pow, bit_at-lt}
use Rattle.s7_base.specs.SignedNumbers.{number, pattern}

-- a low byte put under the bytes above it
pub put_byte : (a w : ℕ) → a < 2 ^ 32 → w < 2 ^ 8
    → pattern 32
    (pos (bit_or (pattern 32 (pos (pattern 32 (pos (bit_and (pattern 32 (pos a)) (pattern 32 (pos 4294967040))))))) (pattern 32 (pos (pattern 32 (pos w))))))
    ≡ a / 2 ^ 8 * 2 ^ 8 + w
put_byte a w h k =
    let high : bit_and a 4294967040 ≡ a / 2 ^ 8 * 2 ^ 8 = and_high_mask 32 8 (omega arith) a h in
    let e : a % 2 ^ 32 ≡ a = omega arith in
    let f : w % 2 ^ 32 % 2 ^ 32 ≡ w = omega arith in
    let m : a / 2 ^ 8 * 2 ^ 8 % 2 ^ 32 % 2 ^ 32 ≡ a / 2 ^ 8 * 2 ^ 8 = omega arith in
    let n : (a / 2 ^ 8 * 2 ^ 8 + w) % 2 ^ 32 ≡ a / 2 ^ 8 * 2 ^ 8 + w = omega arith in
    rw (e, high, f, m, or_shifted (a / 2 ^ 8) 8 w k) n

-- two patterns that have no bit in common
or_fits : (n : ℕ) → n < 2 ^ 32 → n % 2 ^ 32 ≡ n
or_fits n h = omega arith

left_fits : (m w : ℕ) → m + w < 2 ^ 32 → m % 2 ^ 32 ≡ m
left_fits m w h = omega arith

right_fits : (m w : ℕ) → m + w < 2 ^ 32 → w % 2 ^ 32 ≡ w
right_fits m w h = omega arith

pub or_high : (x k w : ℕ) → w < 2 ^ k → x * 2 ^ k + w < 2 ^ 32
    → pattern 32 (pos (bit_or (pattern 32 (pos (x * 2 ^ k))) (pattern 32 (pos w)))) ≡ x * 2 ^ k + w
or_high x k w h small =
    rw (left_fits (x * 2 ^ k) w small, right_fits (x * 2 ^ k) w small, or_shifted x k w h) (or_fits (x * 2 ^ k + w) small)

pub or_low : (x k w : ℕ) → w < 2 ^ k → x * 2 ^ k + w < 2 ^ 32
    → pattern 32 (pos (bit_or (pattern 32 (pos w)) (pattern 32 (pos (x * 2 ^ k))))) ≡ x * 2 ^ k + w
or_low x k w h small =
    rw (left_fits (x * 2 ^ k) w small, right_fits (x * 2 ^ k) w small, or_shifted_r x k w h) (or_fits (x * 2 ^ k + w) small)

pub pattern_below_8 : (z : ℤ) → pattern 8 z < 2 ^ 8
pattern_below_8 (pos n) = omega arith
pattern_below_8 (negsuc n) = omega arith

pub pattern_below_32 : (z : ℤ) → pattern 32 z < 2 ^ 32
pattern_below_32 (pos n) = omega arith
pattern_below_32 (negsuc n) = omega arith

-- the pattern of the number of a pattern
pub same_pattern_32 : (z : ℤ) → pattern 32 (number 32 (pattern 32 z)) ≡ pattern 32 z
same_pattern_32 z = grind (arith, ints)

-- the low byte of a sum of low words is that of the sum of low bytes
pub byte_sum : (a n : ℕ) → pattern 8 (number 16 (pattern 16 (number 16 (a % 2 ^ 16) +ℤ pos n))) ≡ pattern 8 (number 8 (a % 2 ^ 8) +ℤ pos n)
byte_sum a n = grind (arith, ints)

pub byte_difference : (a n : ℕ) → pattern 8 (number 16 (pattern 16 (number 16 (a % 2 ^ 16) -ℤ pos n))) ≡ pattern 8 (number 8 (a % 2 ^ 8) -ℤ pos n)
byte_difference a n = grind (arith, ints)

-- nothing is left of a part that is replaced by itself
pub nothing_added_16 : (a : ℕ) → a / 2 ^ 16 * 2 ^ 16 + pattern 16 (number 16 (a % 2 ^ 16) +ℤ pos 0) ≡ a
nothing_added_16 a = grind (arith, ints)

pub nothing_added_32 : (a : ℕ) → a / 2 ^ 32 * 2 ^ 32 + pattern 32 (number 32 (a % 2 ^ 32) +ℤ pos 0) ≡ a
nothing_added_32 a = grind (arith, ints)

pub nothing_added_8 : (a : ℕ) → a / 2 ^ 8 * 2 ^ 8 + pattern 8 (number 8 (a % 2 ^ 8) +ℤ pos 0) ≡ a
nothing_added_8 a = grind (arith, ints)

pub nothing_taken_8 : (a : ℕ) → a / 2 ^ 8 * 2 ^ 8 + pattern 8 (number 8 (a % 2 ^ 8) -ℤ pos 0) ≡ a
nothing_taken_8 a = grind (arith, ints)

-- all of an accumulator is replaced
pub whole_replaced : (a p : ℕ) → a < 2 ^ 32 → a / 2 ^ 32 * 2 ^ 32 + p ≡ p
whole_replaced a p h = omega arith

-- a bit is tested by a mask

tested : (b p : ℕ) → b < 2 → 0 < p → p < 2 ^ 32 → not (int_eq (pos (b * p % 2 ^ 32)) (pos 0)) ≡ (b == 1)
tested zero p h one small = let e : 0 * p % 2 ^ 32 ≡ 0 = omega arith in rw e refl
tested (suc zero) p h one small =
    let e : 1 * p % 2 ^ 32 ≡ p = omega arith in
    let f : int_eq (pos p) (pos 0) ≡ false = grind (arith, ints) in
    rw (e, f) refl
tested (suc (suc n)) p h one small = absurd (omega arith)

pub tested_bit : (a k : ℕ) → a < 2 ^ 32 → 2 ^ k < 2 ^ 32 → not (int_eq (pos (bit_and (a % 2 ^ 32) (2 ^ k % 2 ^ 32) % 2 ^ 32)) (pos 0)) ≡ (bit_at a k == 1)
tested_bit a k h small =
    let e : a % 2 ^ 32 ≡ a = omega arith in
    let f : 2 ^ k % 2 ^ 32 ≡ 2 ^ k = omega arith in
    rw (e, f, and_pow a k) (tested (bit_at a k) (2 ^ k) (bit_at-lt a k) (pow_pos k) small)
