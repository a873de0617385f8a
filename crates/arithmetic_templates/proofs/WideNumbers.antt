-- Facts on numbers of a width, and on wider ones.
use Rattle.std.proofs.Common.{◌≡◌, ℕ, ◌+◌, ◌*◌, ◌/◌, ◌%◌, ◌^◌, ◌<◌, ◌≤◌, pos, negsuc, Bool, true, false, not, if◌then◌else◌, suc, refl, div-le_self, arith}
use Rattle.std.specs.Prelude.{ℤ, ◌+ℤ◌, ◌-ℤ◌, ◌*ℤ◌, neg_ℤ, bit_or, int_div, int_rem, unsigned_abs}
use Rattle.std.specs.Ordering.{int_eq}
use Rattle.std.proofs.lemmas.Int.{ints, rem_below, unsigned_abs-mul}
use Rattle.std.proofs.lemmas.Nat.{mul-le, or_shifted}
use Rattle.template_parts.proofs.Numbers.{pattern_below}
use Rattle.st_tree.specs.Values.{number_of}
use Rattle.s7_base.specs.SignedNumbers.{is_over, number, pattern}

-- A number of a width is the same in the wider type, and so is each sum and difference of two, and its negative

pub wide_dword : (a : ℕ) → number 64 (pattern 64 (number 32 (a % 2 ^ 32))) ≡ number 32 (a % 2 ^ 32)
wide_dword a = grind (arith, ints)

pub wide_difference : (a b : ℕ) → number 32 (pattern 32 (number 16 (a % 2 ^ 16) -ℤ number 16 (b % 2 ^ 16))) ≡ number 16 (a % 2 ^ 16) -ℤ number 16 (b % 2 ^ 16)
wide_difference a b = grind (arith, ints)

pub wide_negative : (a : ℕ) → number 32 (pattern 32 (neg_ℤ (number 16 (a % 2 ^ 16)))) ≡ neg_ℤ (number 16 (a % 2 ^ 16))
wide_negative a = grind (arith, ints)

pub wide_dword_sum : (a b : ℕ) → number 64 (pattern 64 (number 32 (a % 2 ^ 32) +ℤ number 32 (b % 2 ^ 32))) ≡ number 32 (a % 2 ^ 32) +ℤ number 32 (b % 2 ^ 32)
wide_dword_sum a b = grind (arith, ints)

pub wide_dword_difference : (a b : ℕ)
    → number 64 (pattern 64 (number 32 (a % 2 ^ 32) -ℤ number 32 (b % 2 ^ 32))) ≡ number 32 (a % 2 ^ 32) -ℤ number 32 (b % 2 ^ 32)
wide_dword_difference a b = grind (arith, ints)

pub wide_dword_negative : (a : ℕ) → number 64 (pattern 64 (neg_ℤ (number 32 (a % 2 ^ 32)))) ≡ neg_ℤ (number 32 (a % 2 ^ 32))
wide_dword_negative a = grind (arith, ints)

-- a number is another one once 32 bits are left of it, where it is over
pub over_dword : (z : ℤ) → not (int_eq (number 64 (pattern 64 (number 32 (pattern 32 z)))) z) ≡ is_over 32 z
over_dword z = grind (arith, ints)

pub dword_below : (z : ℤ) → pattern 32 z < 2 ^ 32
dword_below (pos n) = omega arith
dword_below (negsuc n) = omega arith

-- the pattern of the number of a pattern
pub same_dword : (z : ℤ) → pattern 32 (number 32 (pattern 32 z)) ≡ pattern 32 z
same_dword z = grind (arith, ints)

-- ACCU1 with a number of 32 bits in the place of its own
pub put_dword : (a p : ℕ) → a < 2 ^ 32 → p ≡ a / 2 ^ 32 * 2 ^ 32 + p
put_dword a p h = omega arith

-- What is small enough is the same in a wider type

pub whole_dint : (z : ℤ) → unsigned_abs z < 2 ^ 31 → number 32 (pattern 32 z) ≡ z
whole_dint z h = grind (arith, ints)

pub whole_lint : (z : ℤ) → unsigned_abs z < 2 ^ 63 → number 64 (pattern 64 z) ≡ z
whole_lint z h = grind (arith, ints)

pub word_size : (a : ℕ) → unsigned_abs (number 16 (a % 2 ^ 16)) ≤ 2 ^ 15
word_size a = grind (arith, ints)

pub dword_size : (a : ℕ) → unsigned_abs (number 32 (a % 2 ^ 32)) ≤ 2 ^ 31
dword_size a = grind (arith, ints)

product_size : (x y : ℤ) (m : ℕ) → unsigned_abs x ≤ m → unsigned_abs y ≤ m → unsigned_abs (x *ℤ y) ≤ m * m
product_size x y m h k = rw (unsigned_abs-mul x y) (mul-le (unsigned_abs x) (unsigned_abs y) m m h k)

-- products don't wrap either

pub wide_product : (a b : ℕ) → number 32 (pattern 32 (number 16 (a % 2 ^ 16) *ℤ number 16 (b % 2 ^ 16))) ≡ number 16 (a % 2 ^ 16) *ℤ number 16 (b % 2 ^ 16)
wide_product a b =
    let x : ℤ = number 16 (a % 2 ^ 16) in
    let y : ℤ = number 16 (b % 2 ^ 16) in
    let h : unsigned_abs (x *ℤ y) ≤ 2 ^ 15 * 2 ^ 15 = product_size x y (2 ^ 15) (word_size a) (word_size b) in
    whole_dint (x *ℤ y) (omega (arith, h))

pub wide_dword_product : (a b : ℕ)
    → number 64 (pattern 64 (number 32 (a % 2 ^ 32) *ℤ number 32 (b % 2 ^ 32))) ≡ number 32 (a % 2 ^ 32) *ℤ number 32 (b % 2 ^ 32)
wide_dword_product a b =
    let x : ℤ = number 32 (a % 2 ^ 32) in
    let y : ℤ = number 32 (b % 2 ^ 32) in
    let h : unsigned_abs (x *ℤ y) ≤ 2 ^ 31 * 2 ^ 31 = product_size x y (2 ^ 31) (dword_size a) (dword_size b) in
    whole_lint (x *ℤ y) (omega (arith, h))

-- Divisions

-- the divisor in the place of y: 1 where it is 0
abbrev pub divisor_by : Bool → ℤ → ℤ
divisor_by zero y = if zero then pos 1 else y

unfoldable pub divisor : ℤ → ℤ
divisor y = divisor_by (int_eq y (pos 0)) y

pub no_zero : (y : ℤ) → int_eq (divisor y) (pos 0) ≡ false
unfolding divisor
no_zero y = by (int_eq y (pos 0)) refl
  where
    by : (zero : Bool) → int_eq y (pos 0) ≡ zero → int_eq (divisor_by zero y) (pos 0) ≡ false
    by true e = refl
    by false e = e

-- it is no larger than y, or 1
pub divisor_size : (y : ℤ) (m : ℕ) → 1 ≤ m → unsigned_abs y ≤ m → unsigned_abs (divisor y) ≤ m
unfolding divisor
divisor_size y m one h = by (int_eq y (pos 0))
  where
    by : (zero : Bool) → unsigned_abs (divisor_by zero y) ≤ m
    by true = one
    by false = h

-- a quotient is no larger than the dividend
pub quotient_size : (x y : ℤ) → unsigned_abs (int_div x y) ≤ unsigned_abs x
quotient_size (pos n) (pos m) = let h : n / m ≤ n = div-le_self n m in grind (arith, ints)
quotient_size (pos n) (negsuc m) = let h : n / suc m ≤ n = div-le_self n (suc m) in grind (arith, ints)
quotient_size (negsuc n) (pos m) = let h : suc n / m ≤ suc n = div-le_self (suc n) m in grind (arith, ints)
quotient_size (negsuc n) (negsuc m) = let h : suc n / suc m ≤ suc n = div-le_self (suc n) (suc m) in grind (arith, ints)

above_zero : (y : ℤ) → int_eq y (pos 0) ≡ false → 0 < unsigned_abs y
above_zero y e = grind (arith, ints)

-- a remainder is smaller than the divisor
pub remainder_size : (x y : ℤ) → unsigned_abs (int_rem x (divisor y)) < unsigned_abs (divisor y)
remainder_size x y = rem_below x (divisor y) (above_zero (divisor y) (no_zero y))

-- a gate of SEL
pub gate : (b : Bool) → not (int_eq (number_of b) (pos 0)) ≡ b
gate true = refl
gate false = refl

pub chosen_number : (b : Bool) (m n : ℕ) → (if b then pos m else pos n) ≡ pos (if b then m else n)
chosen_number true m n = refl
chosen_number false m n = refl

-- two words, one above the other

low_of_pattern : (z : ℤ) → pattern 32 z % 2 ^ 16 ≡ pattern 16 z
low_of_pattern (pos n) = omega arith
low_of_pattern (negsuc n) = omega arith

pub put_words : (m q : ℤ)
    → pattern 32 (pos
    (bit_or (pattern 32 (pos (pattern 32 (pos (pattern 32 (pos (pattern 32 m)) * 2 ^ 16 % 2 ^ 32))))) (pattern 32 (pos (pattern 32 (pos (pattern 16 q)))))))
    ≡ pattern 16 m * 2 ^ 16 + pattern 16 q
put_words m q =
    let h : pattern 16 q < 2 ^ 16 = pattern_below q in
    let k : pattern 16 m < 2 ^ 16 = pattern_below m in
    let l : pattern 32 m % 2 ^ 16 ≡ pattern 16 m = low_of_pattern m in
    let high : pattern 32 m % 2 ^ 32 * 2 ^ 16 % 2 ^ 32 % 2 ^ 32 % 2 ^ 32 ≡ pattern 16 m * 2 ^ 16 = omega arith in
    let low : pattern 16 q % 2 ^ 32 % 2 ^ 32 ≡ pattern 16 q = omega arith in
    let whole : (pattern 16 m * 2 ^ 16 + pattern 16 q) % 2 ^ 32 ≡ pattern 16 m * 2 ^ 16 + pattern 16 q = omega arith in
    rw (high, low, or_shifted (pattern 16 m) 16 (pattern 16 q) h) whole
