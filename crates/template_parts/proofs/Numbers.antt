-- Facts on numbers and patterns that several rows need.
use Rattle.std.proofs.Common.{◌≡◌, ℕ, ◌+◌, ◌*◌, ◌/◌, ◌%◌, ◌^◌, ◌<◌, pos, negsuc, Bool, true, false, not, ◌||◌, refl, arith}
use Rattle.std.specs.Prelude.{ℤ, ◌+ℤ◌, bit_and, bit_or}
use Rattle.std.specs.Ordering.{int_eq}
use Rattle.std.proofs.lemmas.Int.{ints}
use Rattle.std.proofs.lemmas.Nat.{or_shifted}
use Rattle.std.proofs.lemmas.Nat.Bits.{and_high_mask}
use Rattle.s7_base.specs.SignedNumbers.{is_over, number, pattern}
use Rattle.st_tree.specs.Values.{number_of}

-- the number of a low word, as a number of 32 bits
pub wide_low : (a : ℕ) → number 32 (pattern 32 (number 16 (a % 2 ^ 16))) ≡ number 16 (a % 2 ^ 16)
wide_low a = grind (arith, ints)

-- sums of such numbers don't wrap in 32 bits
pub wide_sum : (a b : ℕ) → number 32 (pattern 32 (number 16 (a % 2 ^ 16) +ℤ number 16 (b % 2 ^ 16))) ≡ number 16 (a % 2 ^ 16) +ℤ number 16 (b % 2 ^ 16)
wide_sum a b = grind (arith, ints)

-- a number is another one once 16 bits are left of it, where it is over
pub over_word : (z : ℤ) → not (int_eq (number 32 (pattern 32 (number 16 (pattern 16 z)))) z) ≡ is_over 16 z
over_word z = grind (arith, ints)

pub pattern_below : (z : ℤ) → pattern 16 z < 2 ^ 16
pattern_below (pos n) = omega arith
pattern_below (negsuc n) = omega arith

-- the pattern of the number of a pattern
pub same_pattern : (z : ℤ) → pattern 16 (number 16 (pattern 16 z)) ≡ pattern 16 z
same_pattern z = grind (arith, ints)

-- OR of two truth values
pub or_numbers : (a b : Bool) → pos (pattern 1 (pos (bit_or (pattern 1 (number_of a)) (pattern 1 (number_of b))))) ≡ number_of (a || b)
or_numbers true true = refl
or_numbers true false = refl
or_numbers false true = refl
or_numbers false false = refl

-- a low word put under the high one
pub put_low : (a w : ℕ) → a < 2 ^ 32 → w < 2 ^ 16
    → pattern 32
    (pos (bit_or (pattern 32 (pos (pattern 32 (pos (bit_and (pattern 32 (pos a)) (pattern 32 (pos 4294901760))))))) (pattern 32 (pos (pattern 32 (pos w))))))
    ≡ a / 2 ^ 16 * 2 ^ 16 + w
put_low a w h k =
    let high : bit_and a 4294901760 ≡ a / 2 ^ 16 * 2 ^ 16 = and_high_mask 32 16 (omega arith) a h in
    let e : a % 2 ^ 32 ≡ a = omega arith in
    let f : w % 2 ^ 32 % 2 ^ 32 ≡ w = omega arith in
    let m : a / 2 ^ 16 * 2 ^ 16 % 2 ^ 32 % 2 ^ 32 ≡ a / 2 ^ 16 * 2 ^ 16 = omega arith in
    let n : (a / 2 ^ 16 * 2 ^ 16 + w) % 2 ^ 32 ≡ a / 2 ^ 16 * 2 ^ 16 + w = omega arith in
    rw (e, high, f, m, or_shifted (a / 2 ^ 16) 16 w k) n
