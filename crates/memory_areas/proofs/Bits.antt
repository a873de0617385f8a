-- A byte with a bit that was written: this bit is read back, and every other bit is as it was.
use Rattle.std.proofs.Common.{◌≡◌, ◌≢◌, ⊎_elim, ℕ, suc, ◌+◌, ◌-◌, ◌*◌, ◌/◌, ◌%◌, ◌^◌, ◌<◌, ◌≤◌, Bool, true, false, ◌==◌, if◌then◌else◌, refl, sym, ap, ◌∙◌, arith, add-one, pow-add}
use Rattle.std.specs.Int.{bit_at}
use Rattle.std.proofs.lemmas.Bool.{cases_order}
use Rattle.std.proofs.Math.Nat.{two-pow-succ, mul-le-mul_right, suc-mul}
use Rattle.std.proofs.lemmas.Nat.{pow_pos, div-add-mod', div_below}
use Rattle.std.proofs.lemmas.Nat.Bits.{bit_at_cat_low, bit_at_cat_high}
use Rattle.memory_areas.specs.Areas.{bit_of_byte, byte_with}

-- a truth value as a number
abbrev number_of : Bool → ℕ
number_of v = if v then 1 else 0

-- what stands at bit x and below it
low_part : ℕ → ℕ → Bool → ℕ
low_part b x v = number_of v * 2 ^ x + b % 2 ^ x

-- the byte is cut above bit x
byte_parts : (b x : ℕ) (v : Bool) → byte_with b x v ≡ b / 2 ^ (x + 1) * 2 ^ (x + 1) + low_part b x v
unfolding low_part
byte_parts b x true = omega arith
byte_parts b x false = omega arith

below_power : (b x : ℕ) → b % 2 ^ x < 2 ^ x
below_power b x = let p = pow_pos x in omega arith

power_doubles : (x : ℕ) → 2 ^ (x + 1) ≡ 2 ^ x + 2 ^ x
power_doubles x = rw add-one (two-pow-succ x)

low_part_below : (b x : ℕ) (v : Bool) → low_part b x v < 2 ^ (x + 1)
unfolding low_part
low_part_below b x true = omega (arith, power_doubles x, below_power b x)
low_part_below b x false = omega (arith, power_doubles x, below_power b x)

-- what stands below bit x + 1 has its highest bit at x
top_bit : (b x : ℕ) (v : Bool) → bit_at (low_part b x v) x ≡ number_of v
unfolding low_part
top_bit b x true =
    let none : x - x ≡ 0 = omega arith in
    bit_at_cat_high 1 x (b % 2 ^ x) x (below_power b x) (omega arith) ∙ ap (bit_at 1) none
top_bit b x false =
    let none : x - x ≡ 0 = omega arith in
    bit_at_cat_high 0 x (b % 2 ^ x) x (below_power b x) (omega arith) ∙ ap (bit_at 0) none

truth_of_number : (v : Bool) → (number_of v == 1) ≡ v
truth_of_number true = refl
truth_of_number false = refl

pub bit_written : (b x : ℕ) (v : Bool) → bit_of_byte (byte_with b x v) x ≡ v
bit_written b x v =
    ap (λ n. bit_at n x == 1) (byte_parts b x v)
    ∙ ap (λ n. n == 1) (bit_at_cat_low (b / 2 ^ (x + 1)) (x + 1) (low_part b x v) x (omega arith) ∙ top_bit b x v)
    ∙ truth_of_number v

-- a byte is what stands from bit k on, and what stands below it
whole : (b k : ℕ) → b / 2 ^ k * 2 ^ k + b % 2 ^ k ≡ b
whole b k = div-add-mod' b (2 ^ k)

low_bit_kept : (b x y : ℕ) (v : Bool) → y < x → bit_at (byte_with b x v) y ≡ bit_at b y
unfolding low_part
low_bit_kept b x y v h =
    ap (λ n. bit_at n y) (byte_parts b x v)
    ∙ bit_at_cat_low (b / 2 ^ (x + 1)) (x + 1) (low_part b x v) y (omega arith)
    ∙ bit_at_cat_low (number_of v) x (b % 2 ^ x) y h
    ∙ sym (bit_at_cat_low (b / 2 ^ x) x (b % 2 ^ x) y h)
    ∙ ap (λ n. bit_at n y) (whole b x)

high_bit_kept : (b x y : ℕ) (v : Bool) → x < y → bit_at (byte_with b x v) y ≡ bit_at b y
high_bit_kept b x y v h =
    ap (λ n. bit_at n y) (byte_parts b x v)
    ∙ bit_at_cat_high (b / 2 ^ (x + 1)) (x + 1) (low_part b x v) y (low_part_below b x v) (omega arith)
    ∙ sym (bit_at_cat_high (b / 2 ^ (x + 1)) (x + 1) (b % 2 ^ (x + 1)) y (below_power b (x + 1)) (omega arith))
    ∙ ap (λ n. bit_at n y) (whole b (x + 1))

pub bit_kept : (b x y : ℕ) (v : Bool) → y ≢ x → bit_of_byte (byte_with b x v) y ≡ bit_of_byte b y
bit_kept b x y v apart =
    ap (λ n. n == 1)
    (⊎_elim (λ (e : y ≡ x). absurd (apart e))
    (⊎_elim (low_bit_kept b x y v) (high_bit_kept b x y v))
    (cases_order y x))

-- eight bits have room for the parts of a byte
room : (x : ℕ) → x < 8 → 2 ^ (7 - x) * 2 ^ (x + 1) ≡ 256
room x k = let e : 7 - x + (x + 1) ≡ 8 = omega arith in sym (pow-add 2 (7 - x) (x + 1)) ∙ ap (λ n. 2 ^ n) e

within : (q k m l : ℕ) → q < m → l < k → q * k + l < m * k
within q k m l h r =
    let next : suc q ≤ m = omega arith in
    let all : suc q * k ≤ m * k = mul-le-mul_right k next in
    omega (arith, suc-mul q k)

pub byte_below : (b x : ℕ) (v : Bool) → b < 256 → x < 8 → byte_with b x v < 256
byte_below b x v h k =
    let parts = byte_parts b x v in
    let positive = pow_pos (x + 1) in
    let below : b < 2 ^ (7 - x) * 2 ^ (x + 1) = rw room h in
    let high = div_below b (2 ^ (x + 1)) (2 ^ (7 - x)) positive below in
    let all = within (b / 2 ^ (x + 1)) (2 ^ (x + 1)) (2 ^ (7 - x)) (low_part b x v) high (low_part_below b x v) in
    omega (arith, room x k)
