-- What the bit operations do to a set of registers.
use Rattle.std.proofs.Common.{◌≡◌, ◌≢◌, ℕ, ◌-◌, ◌*◌, ◌%◌, ◌^◌, ◌<◌, ◌≤◌, ◌||◌, ◌==◌, true, false, max, [], ◌∷◌, get_or, bit_and, bit_or, sym, ap, subst, ◌∙◌, arith}
use Rattle.std.proofs.Props.{props}
use Rattle.std.specs.Int.{bit_at, w16}
use Rattle.std.proofs.lemmas.Bool.Decides.{nat_tests}
use Rattle.std.proofs.lemmas.Nat.Bits.{bit_at_set_same, bit_at_set_other, bit_at_clear_same, bit_at_clear_other, bit_at_or, bit_at-lt, same_from_bits_below}
use Rattle.std.proofs.lemmas.Nat.{and_le_l, or_lt}
use Rattle.s7_base.specs.declared.register.Reg.{Reg}
use Rattle.s7_base.specs.declared.register.Reg.TheVariants as reg
use Rattle.s7_base.specs.declared.register.RegSet.{RegSet}
use Rattle.s7_base.specs.RegSet.{SameRegistersAreEqual, has_bit, place}

-- a set has room for each register's bit
pub place_fits : (r : Reg) → place r < 16
place_fits r = grind arith

-- the registers in the order of their places
abbrev reg_at : ℕ → Reg
reg_at n =
    get_or (reg.Accu1 ∷ reg.Accu2 ∷ reg.Ar1 ∷ reg.Ar2 ∷ reg.DbNo ∷ reg.DiNo ∷ reg.Nfc ∷ reg.Rlo
    ∷ reg.Sta ∷ reg.Orb ∷ reg.Os ∷ reg.Ov ∷ reg.Cc0 ∷ reg.Cc1 ∷ reg.Br ∷ []) n reg.Accu1

reg_at-place : (r : Reg) → reg_at (place r) ≡ r
reg_at-place r = grind arith

-- two registers have two bits
pub place_apart : (q r : Reg) → q ≢ r → place q ≢ place r
place_apart q r apart e = apart (sym (reg_at-place q) ∙ ap reg_at e ∙ reg_at-place r)

-- of two bits one is set exactly when the greater is
set_either : (a b : ℕ) → a < 2 → b < 2 → (max a b == 1) ≡ (a == 1 || b == 1)
set_either a b a_bit b_bit = grind (arith, nat_tests)

-- to set a register's bit puts that register in, and no other
pub has_bit-set_same : (n : ℕ) (r : Reg) → has_bit (bit_or n (1 * 2 ^ place r % 65536)) r ≡ true
unfolding has_bit
has_bit-set_same n r = ap (λ b. b == 1) (bit_at_set_same w16 n (place r) (place_fits r))

pub has_bit-set_other : (n : ℕ) (q r : Reg) → q ≢ r → has_bit (bit_or n (1 * 2 ^ place r % 65536)) q ≡ has_bit n q
unfolding has_bit
has_bit-set_other n q r apart = ap (λ b. b == 1) (bit_at_set_other w16 n (place r) (place_fits r) (place q) (place_apart q r apart))

-- to clear a register's bit takes that register out, and no other
pub has_bit-clear_same : (n : ℕ) (r : Reg) → has_bit (bit_and n (65535 - 1 * 2 ^ place r % 65536)) r ≡ false
unfolding has_bit
has_bit-clear_same n r = ap (λ b. b == 1) (bit_at_clear_same w16 n (place r) (place_fits r))

pub has_bit-clear_other : (n : ℕ) (q r : Reg) → q ≢ r → has_bit (bit_and n (65535 - 1 * 2 ^ place r % 65536)) q ≡ has_bit n q
unfolding has_bit
has_bit-clear_other n q r apart = ap (λ b. b == 1) (bit_at_clear_other w16 n (place r) (place_fits r) (place q) (place_fits q) (place_apart q r apart))

-- to set the bits of two sets joins them
pub has_bit-union : (m n : ℕ) (q : Reg) → has_bit (bit_or m n) q ≡ (has_bit m q || has_bit n q)
unfolding has_bit
has_bit-union m n q = rw bit_at_or (set_either (bit_at m (place q)) (bit_at n (place q)) (bit_at-lt m (place q)) (bit_at-lt n (place q)))

-- the register's bit is one of those of a set
bit_within : (r : Reg) → 1 * 2 ^ place r % 65536 < 32768
bit_within r = grind arith

-- a set has no other bits, whatever is put in or taken out
pub set_within : (n : ℕ) (r : Reg) → n < 32768 → bit_or n (1 * 2 ^ place r % 65536) < 32768
set_within n r h = or_lt 15 n (1 * 2 ^ place r % 65536) h (bit_within r)

pub clear_within : (m n : ℕ) → n < 32768 → bit_and n m < 32768
clear_within m n h = let less : bit_and n m ≤ n = and_le_l n m in omega arith

pub union_within : (m n : ℕ) → m < 32768 → n < 32768 → bit_or m n < 32768
union_within m n h k = or_lt 15 m n h k

-- each bit of a set is that of a register
place-reg_at : (i : ℕ) → i < 15 → place (reg_at i) ≡ i
place-reg_at i h = grind arith

-- a bit by the test of it
same_bit : (a b : ℕ) → a < 2 → b < 2 → (a == 1) ≡ (b == 1) → a ≡ b
same_bit a b h k e = grind (arith, nat_tests)

same_bits : (m n : ℕ) → m < 32768 → n < 32768 → ((r : Reg) → has_bit m r ≡ has_bit n r) → m ≡ n
unfolding has_bit
same_bits m n h k same =
    same_from_bits_below 15 m n h k
    (λ i within. same_bit (bit_at m i) (bit_at n i) (bit_at-lt m i) (bit_at-lt n i)
    (subst (λ (p : ℕ). (bit_at m p == 1) ≡ (bit_at n p == 1)) (place-reg_at i within) (same (reg_at i))))

abbrev set_of : (n : ℕ) → n < 32768 → RegSet
set_of n h = record { bits = n; within = h }

same_set : (m n : ℕ) (h : m < 32768) (k : n < 32768) → m ≡ n → set_of m h ≡ set_of n k
same_set m n h k e =
    let one : IsProp (m < 32768) = hlevel props in
    let P : ℕ → Type 0 = λ i. (within : i < 32768) → set_of m h ≡ set_of i within in
    subst P e (λ within. ap (set_of m) (one h within)) k

-- sets with the same registers are equal
pub same_sets : SameRegistersAreEqual
same_sets s t same = same_set s.bits t.bits s.within t.within (same_bits s.bits t.bits s.within t.within same)

pub ruleset set_laws = (has_bit-set_same, has_bit-set_other, has_bit-clear_same, has_bit-clear_other, has_bit-union, set_within, clear_within, union_within)
