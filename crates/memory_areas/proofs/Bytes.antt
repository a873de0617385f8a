-- A byte with another bit.
use Rattle.std.proofs.Common.{◌≡◌, ◌≢◌, ℕ, suc, zero, ◌+◌, ◌-◌, ◌*◌, ◌/◌, ◌%◌, ◌^◌, ◌<◌, ◌≤◌, Bool, true, false, if◌then◌else◌, refl, sym, ap, ◌∙◌, arith}
use mathlib.Core.Bool.{beq}
use Rattle.std.proofs.lemmas.Bool.{eqb-true}
use Rattle.std.proofs.lemmas.Bool.Decides.{nat_tests}
use Rattle.memory_areas.specs.Areas.{bit_of_byte, byte_with}

-- a byte is what stands above a bit, the bit, and what stands below it
cut : (b x : ℕ) → x < 8 → b ≡ b / 2 ^ (x + 1) * 2 ^ (x + 1) + b / 2 ^ x % 2 * 2 ^ x + b % 2 ^ x
cut b zero h = omega arith
cut b (suc zero) h = omega arith
cut b (suc (suc zero)) h = omega arith
cut b (suc (suc (suc zero))) h = omega arith
cut b (suc (suc (suc (suc zero)))) h = omega arith
cut b (suc (suc (suc (suc (suc zero))))) h = omega arith
cut b (suc (suc (suc (suc (suc (suc zero)))))) h = omega arith
cut b (suc (suc (suc (suc (suc (suc (suc zero))))))) h = omega arith
cut b (suc (suc (suc (suc (suc (suc (suc (suc x)))))))) h = absurd (omega arith)

-- the bit of a byte as a number
bit_number : (b x : ℕ) (t : Bool) → bit_of_byte b x ≡ t → b / 2 ^ x % 2 ≡ (if t then 1 else 0)
bit_number b x true e = eqb-true (b / 2 ^ x % 2) 1 e
bit_number b x false e = let apart : b / 2 ^ x % 2 ≢ 1 = grind (arith, nat_tests) in omega arith

-- a byte keeps its value with the bit that it has
kept : (b x : ℕ) (t : Bool) → x < 8 → bit_of_byte b x ≡ t → byte_with b x t ≡ b
kept b x true h e =
    let one = bit_number b x true e in
    let parts = cut b x h in
    let same : b / 2 ^ x % 2 * 2 ^ x ≡ 1 * 2 ^ x = ap (λ n. n * 2 ^ x) one in
    omega arith
kept b x false h e =
    let none = bit_number b x false e in
    let parts = cut b x h in
    let same : b / 2 ^ x % 2 * 2 ^ x ≡ 0 * 2 ^ x = ap (λ n. n * 2 ^ x) none in
    omega arith

-- the weight of a bit fits a byte
weight : (x : ℕ) → x < 8 → 1 * 2 ^ x % 256 ≡ 2 ^ x
weight zero h = refl
weight (suc zero) h = refl
weight (suc (suc zero)) h = refl
weight (suc (suc (suc zero))) h = refl
weight (suc (suc (suc (suc zero)))) h = refl
weight (suc (suc (suc (suc (suc zero))))) h = refl
weight (suc (suc (suc (suc (suc (suc zero)))))) h = refl
weight (suc (suc (suc (suc (suc (suc (suc zero))))))) h = refl
weight (suc (suc (suc (suc (suc (suc (suc (suc x)))))))) h = absurd (omega arith)

-- a byte stays one with any bit
stays_byte : (b x : ℕ) → b < 256 → x < 8 → byte_with b x true < 256
stays_byte b zero k h = omega arith
stays_byte b (suc zero) k h = omega arith
stays_byte b (suc (suc zero)) k h = omega arith
stays_byte b (suc (suc (suc zero))) k h = omega arith
stays_byte b (suc (suc (suc (suc zero)))) k h = omega arith
stays_byte b (suc (suc (suc (suc (suc zero))))) k h = omega arith
stays_byte b (suc (suc (suc (suc (suc (suc zero)))))) k h = omega arith
stays_byte b (suc (suc (suc (suc (suc (suc (suc zero))))))) k h = omega arith
stays_byte b (suc (suc (suc (suc (suc (suc (suc (suc x)))))))) k h = absurd (omega arith)

pub bit_stays : (b x : ℕ) (t v : Bool) → x < 8 → bit_of_byte b x ≡ t → v ≡ t → b ≡ byte_with b x v
bit_stays b x t v h e same = sym (ap (byte_with b x) same ∙ kept b x t h e)

pub bit_set : (b x : ℕ) → x < 8 → bit_of_byte b x ≡ false → b + 1 * 2 ^ x % 256 ≡ byte_with b x true
bit_set b x h e = let same = kept b x false h e in let w = weight x h in omega arith

pub bit_set_fits : (b x : ℕ) → b < 256 → x < 8 → bit_of_byte b x ≡ false → b + 1 * 2 ^ x % 256 < 256
bit_set_fits b x k h e = let all = bit_set b x h e in let within = stays_byte b x k h in omega arith

pub bit_cleared : (b x : ℕ) → x < 8 → bit_of_byte b x ≡ true → b - 1 * 2 ^ x % 256 ≡ byte_with b x false
bit_cleared b x h e = let same = kept b x true h e in let w = weight x h in omega arith

pub bit_clear_fits : (b x : ℕ) → x < 8 → bit_of_byte b x ≡ true → 1 * 2 ^ x % 256 ≤ b
bit_clear_fits b x h e = let same = kept b x true h e in let w = weight x h in omega arith

-- Two truth values that are compared

pub same_bit : (r v : Bool) → beq r v ≡ true → r ≡ v
same_bit true true e = refl
same_bit true false e = cc
same_bit false true e = cc
same_bit false false e = refl

pub clear_bit : (r v : Bool) → beq r v ≡ false → v ≡ true → r ≡ false
clear_bit true true e f = cc
clear_bit true false e f = cc
clear_bit false v e f = refl

pub set_bit : (r v : Bool) → beq r v ≡ false → v ≡ false → r ≡ true
set_bit true v e f = refl
set_bit false true e f = cc
set_bit false false e f = cc
