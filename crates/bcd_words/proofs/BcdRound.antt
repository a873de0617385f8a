-- Reading and writing undo each other.
use Rattle.std.proofs.Common.{◌≡◌, ◌≢◌, ℕ, zero, suc, ◌+◌, ◌*◌, ◌/◌, ◌%◌, ◌^◌, ◌<◌, ◌≤◌, List, [], ◌∷◌, ◌++◌, length, refl, ap, arith, true, false, Bool, sym, ◌∙◌, ℤ, pos, negsuc, Some, Ok, Err, ◌⊎◌, inl, inr, ⊎_elim}
use Rattle.std.specs.Prelude.{if◌then◌else◌, nat_le, nat_lt, ◌==◌, int_lt, unsigned_abs, neg_ℤ}
use Rattle.std.specs.Cmp.{first_so, second_so}
use Rattle.std.proofs.lemmas.Bool.{leb-true, le-leb, ltb-true, lt-ltb}
use Rattle.std.proofs.lemmas.Int.{ints}
use Rattle.std.proofs.lemmas.List.{append-nil}
use Rattle.std.proofs.lemmas.Nat.{pow-add, div-mul-add}
use Rattle.std.proofs.lemmas.Option.{cond_some}
use Rattle.std.proofs.Math.Nat.{pow-suc, div-div-eq-div-mul}
use Rattle.s7_base.specs.declared.outcome.Fault.TheVariants.{BcdDigit}
use Rattle.bcd_words.specs.Bcd.{digits, worth, are_decimal, is_negative, with_sign, bcd_value, bcd_of, sign_digit}
use Rattle.bcd_words.specs.BcdLaws.{ReadsBack, WritesBack, WritesNoOther}
use Rattle.bcd_words.proofs.Digits.{AreBelow, digits-worth, worth-digits, worth-all_digits, worth-below, worth-append, worth-zero, length-digits}

-- Digits that are decimal

decimal_below : (b : ℕ) (ds : List ℕ) → 9 < b → are_decimal ds ≡ true → AreBelow b ds
decimal_below b [] h e = tt
decimal_below b (d ∷ ds) h e =
    let k : d ≤ 9 = leb-true d 9 (first_so (nat_le d 9) (are_decimal ds) e) in
    (omega arith, decimal_below b ds h (second_so (nat_le d 9) (are_decimal ds) e))

ten_decimal : (count n : ℕ) → are_decimal (digits 10 count n) ≡ true
ten_decimal zero n = refl
ten_decimal (suc count) n =
    let e : nat_le (n % 10) 9 ≡ true = le-leb (n % 10) 9 (omega arith) in
    rw (e, ten_decimal count (n / 10)) refl

-- The sign digit

sixteen-pow : (count : ℕ) → 2 ^ (4 * count) ≡ 16 ^ count
sixteen-pow zero = refl
sixteen-pow (suc count) =
    let e : 4 * suc count ≡ 4 * count + 4 = omega arith in
    rw (e, pow-add 2 (4 * count) 4, sixteen-pow count, pow-suc 16 count) refl

top_bit : (count n : ℕ) → is_negative count n ≡ (n / 16 ^ count / 8 % 2 == 1)
top_bit count n =
    rw (pow-add 2 (4 * count) 3, sixteen-pow count, ← div-div-eq-div-mul n (16 ^ count) 8) refl

sign_bit : (b : Bool) → ((if b then 0xF else 0) / 8 % 2 == 1) ≡ b
sign_bit true = refl
sign_bit false = refl

whole : (v : ℤ) → with_sign (int_lt v (pos 0)) (unsigned_abs v) ≡ v
whole v = grind (arith, ints)

abs-with_sign : (b : Bool) (a : ℕ) → unsigned_abs (with_sign b a) ≡ a
abs-with_sign true a = grind (arith, ints)
abs-with_sign false a = refl

-- A pattern of digits and a sign digit

-- what a pattern of decimal digits ds under a sign digit s is
record Pattern (count n s : ℕ) (ds : List ℕ) : Type 0 where
  sum : n ≡ s * 16 ^ count + worth 16 ds
  below : worth 16 ds < 16 ^ count
  lowest : digits 16 count n ≡ ds
  top : n / 16 ^ count ≡ s

pattern : (count s : ℕ) (ds : List ℕ) → length ds ≡ count → are_decimal ds ≡ true → Pattern count (worth 16 (ds ++ s ∷ [])) s ds
pattern count s ds l e =
    let b : AreBelow 16 ds = decimal_below 16 ds (omega arith) e in
    let below : worth 16 ds < 16 ^ count = rw l at (worth-below 16 ds b) in
    let last : worth 16 (s ∷ []) ≡ s = omega arith in
    let sum : worth 16 (ds ++ s ∷ []) ≡ s * 16 ^ count + worth 16 ds = rw (last, l) at (worth-append 16 ds (s ∷ [])) in
    let lowest : digits 16 count (worth 16 (ds ++ s ∷ [])) ≡ ds = rw l at (digits-worth 16 ds (s ∷ []) b) in
    record {
      sum = sum;
      below = below;
      lowest = lowest;
      top = ap (λ (m : ℕ). m / 16 ^ count) sum ∙ div-mul-add s (16 ^ count) (worth 16 ds) below;
    }

-- what a pattern with these digits and this sign reads as
value_of : (count n a : ℕ) (ds : List ℕ) (b : Bool) → digits 16 count n ≡ ds → are_decimal ds ≡ true
    → is_negative count n ≡ b → worth 10 ds ≡ a → bcd_value count n ≡ Ok (with_sign b a)
value_of count n a ds b e f g h = rw (e, f, g, h) refl

-- What is written for a number

-- the parts of what is written
record Written (count n : ℕ) (v : ℤ) : Type 0 where
  fits : unsigned_abs v < 10 ^ count
  parts : Pattern count n (sign_digit v) (digits 10 count (unsigned_abs v))

written : (count n : ℕ) (v : ℤ) → bcd_of count v ≡ Some n → Written count n v
written count n v e =
    let p = cond_some (nat_lt (unsigned_abs v) (10 ^ count)) (worth 16 (digits 10 count (unsigned_abs v) ++ sign_digit v ∷ [])) n e in
    record {
      fits = ltb-true (unsigned_abs v) (10 ^ count) p.0;
      parts =
          rw (← p.1)
          (pattern count (sign_digit v) (digits 10 count (unsigned_abs v)) (length-digits 10 count (unsigned_abs v)) (ten_decimal count (unsigned_abs v)));
    }

pub law_reads_back : ReadsBack
law_reads_back count n v e =
    let w : Written count n v = written count n v e in
    let ds : List ℕ = digits 10 count (unsigned_abs v) in
    let negative : is_negative count n ≡ int_lt v (pos 0) = top_bit count n ∙ rw w.parts.top (sign_bit (int_lt v (pos 0))) in
    value_of count n (unsigned_abs v) ds (int_lt v (pos 0)) w.parts.lowest
    (ten_decimal count (unsigned_abs v)) negative (worth-all_digits 10 count (unsigned_abs v) w.fits)
    ∙ rw (whole v) refl

-- What is read from a pattern

decimal_when : (b : Bool) (x v : ℤ) → (if b then Ok x else Err BcdDigit) ≡ Ok v → (b ≡ true) × (x ≡ v)
decimal_when true x v e = (refl, cc)
decimal_when false x v e = absurd cc

not_negative : (a : ℕ) → sign_digit (pos a) ≡ 0
not_negative a = grind (arith, ints)

negative : (a : ℕ) → a ≢ 0 → sign_digit (neg_ℤ (pos a)) ≡ 0xF
negative zero h = absurd (h refl)
negative (suc a) h = refl

-- the sign digit that is written is the one that was read
sign_kept : (t a : ℕ) (v : ℤ) → with_sign (t / 8 % 2 == 1) a ≡ v → (t ≡ 0) ⊎ (t ≡ 0xF) → (t ≡ 0xF → a ≢ 0) → sign_digit v ≡ t
sign_kept t a v e s h =
    ⊎_elim (λ (z : t ≡ 0). rw (← e, z) (not_negative a)) (λ (f : t ≡ 0xF). rw (← e, f) (negative a (h f))) s

pub law_writes_back : WritesBack
law_writes_back count n v w e =
    let ds : List ℕ = digits 16 count n in
    let t : ℕ = n / 16 ^ count in
    let p = decimal_when (are_decimal ds) (with_sign (is_negative count n) (worth 10 ds)) v e in
    let below : AreBelow 10 ds = decimal_below 10 ds (omega arith) p.0 in
    let l : length ds ≡ count = length-digits 16 count n in
    let fits : worth 10 ds < 10 ^ count = rw l at (worth-below 10 ds below) in
    let abs : unsigned_abs v ≡ worth 10 ds = rw (← p.1) (abs-with_sign (is_negative count n) (worth 10 ds)) in
    let tens : digits 10 count (worth 10 ds) ≡ ds = rw (append-nil ds, l) at (digits-worth 10 ds [] below) in
    let all : t * 16 ^ count + worth 16 ds ≡ n = worth-digits 16 count n in
    let some : t ≡ 0xF → worth 10 ds ≢ 0 =
    λ (f : t ≡ 0xF) (z : worth 10 ds ≡ 0). w.not_minus_zero (sym all ∙ rw (f, worth-zero 10 16 ds (omega arith) z) (omega arith)) in
    let sign : sign_digit v ≡ t = sign_kept t (worth 10 ds) v (rw top_bit at p.1) w.sign some in
    let last : worth 16 (t ∷ []) ≡ t = omega arith in
    let same : worth 16 (ds ++ t ∷ []) ≡ n = worth-append 16 ds (t ∷ []) ∙ rw (last, l) all in
    rw (abs, lt-ltb (worth 10 ds) (10 ^ count) fits, tens, sign) (ap (λ (m : ℕ). Some m) same)

-- Nothing else is written

either : (b : Bool) (s : ℕ) → (if b then 0xF else 0) ≡ s → (s ≡ 0) ⊎ (s ≡ 0xF)
either true s e = inr (sym e)
either false s e = inl (sym e)

zero_sign : (v : ℤ) → unsigned_abs v ≡ 0 → sign_digit v ≡ 0xF → ⊥
zero_sign (pos a) e f = omega (arith, not_negative a, f)
zero_sign (negsuc a) e f = omega arith

fifteen : (q : ℕ) → 0 < q → 0xF * q / q ≡ 0xF
fifteen q h = let e : 0xF * q + 0 ≡ 0xF * q = omega arith in rw e at (div-mul-add 0xF q 0 h)

-- a pattern under the sign digit 15 whose digits say something is not minus zero
not_zero : (n s q rest : ℕ) → n ≡ s * q + rest → n / q ≡ s → 0 < q → n ≡ 0xF * q → (s ≡ 0xF) × (rest ≡ 0)
not_zero n s q rest sum top h z =
    let a : n / q ≡ 0xF = ap (λ (m : ℕ). m / q) z ∙ fifteen q h in
    let e : s ≡ 0xF = sym top ∙ a in
    let f : n ≡ 0xF * q + rest = rw e at sum in
    (e, omega arith)

pub law_writes_no_other : WritesNoOther
law_writes_no_other count n v e =
    let w : Written count n v = written count n v e in
    let ds : List ℕ = digits 10 count (unsigned_abs v) in
    let some : 0 < 16 ^ count = omega (arith, w.parts.below) in
    record {
      sign = rw w.parts.top (either (int_lt v (pos 0)) (sign_digit v) refl);
      not_minus_zero = λ (z : n ≡ 0xF * 16 ^ count).
          let p = not_zero n (sign_digit v) (16 ^ count) (worth 16 ds) w.parts.sum w.parts.top some z in
          let none : worth 10 ds ≡ 0 = worth-zero 16 10 ds (omega arith) p.1 in
          zero_sign v (sym (worth-all_digits 10 count (unsigned_abs v) w.fits) ∙ none) p.0;
    }
