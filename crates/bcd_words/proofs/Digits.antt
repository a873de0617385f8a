-- Digits of a number, and the number that digits say.
use Rattle.std.proofs.Common.{◌≡◌, ℕ, zero, suc, ◌+◌, ◌*◌, ◌/◌, ◌%◌, ◌^◌, ◌<◌, List, [], ◌∷◌, ◌++◌, length, refl, ap, arith, add-one, ◌∙◌}
use Rattle.std.proofs.lemmas.Nat.{div-mul-add, mod-mul-add, mul-add-lt}
use Rattle.std.proofs.Math.Nat.{pow-suc, pow-zero, mul_comm, mod-add-div, div-div-eq-div-mul, div-eq_of_lt}
use Rattle.bcd_words.specs.Bcd.{digits, worth, worth_from}

lifted : (d b q w : ℕ) → d * (q * b) + b * w ≡ b * (d * q + w)
lifted d b q w = omega arith

pow-next : (b p : ℕ) → b ^ (p + 1) ≡ b ^ p * b
pow-next b p = rw add-one (pow-suc b p)

-- one position further up each digit counts the base as much
pub worth_from-next : (b p : ℕ) (ds : List ℕ) → worth_from b (p + 1) ds ≡ b * worth_from b p ds
worth_from-next b p [] = omega arith
worth_from-next b p (d ∷ ds) = rw (worth_from-next b (p + 1) ds, pow-next b p) (lifted d b (b ^ p) (worth_from b (p + 1) ds))

joined : (t q w b r m n : ℕ) → t * q + w ≡ m → r + b * m ≡ n → t * (b * q) + (w * b + r) ≡ n
joined t q w b r m n e f = omega (arith, ap (λ (y : ℕ). b * y) e)

pub worth-cons : (b d : ℕ) (ds : List ℕ) → worth b (d ∷ ds) ≡ worth b ds * b + d
worth-cons b d ds = rw (worth_from-next b 0 ds, pow-zero b) (omega arith)

-- digits of a number say it, but for what stands above them
pub worth-digits : (b count n : ℕ) → n / b ^ count * b ^ count + worth b (digits b count n) ≡ n
worth-digits b zero n = rw pow-zero (omega arith)
worth-digits b (suc count) n =
    rw (worth-cons b (n % b) (digits b count (n / b)), pow-suc b count, mul_comm (b ^ count) b, ← div-div-eq-div-mul n b (b ^ count))
    (joined (n / b / b ^ count) (b ^ count) (worth b (digits b count (n / b))) b (n % b) (n / b) n (worth-digits b count (n / b)) (mod-add-div n b))

pub worth-all_digits : (b count n : ℕ) → n < b ^ count → worth b (digits b count n) ≡ n
worth-all_digits b count n h =
    let e : n / b ^ count ≡ 0 = div-eq_of_lt h in
    let f : n / b ^ count * b ^ count + worth b (digits b count n) ≡ n = worth-digits b count n in
    let g : 0 * b ^ count + worth b (digits b count n) ≡ n = rw e at f in
    omega arith

-- each digit is one to the base
abbrev pub AreBelow : ℕ → List ℕ → Type 0
AreBelow b [] = Unit {0}
AreBelow b (d ∷ ds) = (d < b) × AreBelow b ds

-- digits below the base, and more above them: their number has them
pub digits-worth : (b : ℕ) (ds more : List ℕ) → AreBelow b ds → digits b (length ds) (worth b (ds ++ more)) ≡ ds
digits-worth b [] more h = refl
digits-worth b (d ∷ ds) more h =
    let e : worth b (d ∷ (ds ++ more)) ≡ worth b (ds ++ more) * b + d = worth-cons b d (ds ++ more) in
    rw (e, mod-mul-add (worth b (ds ++ more)) b d h.0, div-mul-add (worth b (ds ++ more)) b d h.0, digits-worth b ds more h.1) refl

next_below : (w p b d : ℕ) → w < p → d < b → w * b + d < p * b
next_below w p b d h k = rw (mul_comm p b) (mul-add-lt w b d p h k)

-- a number of digits below the base is below that power of it
pub worth-below : (b : ℕ) (ds : List ℕ) → AreBelow b ds → worth b ds < b ^ length ds
worth-below b [] h = rw pow-zero (omega arith)
worth-below b (d ∷ ds) h = rw (worth-cons b d ds, pow-suc b (length ds)) (next_below (worth b ds) (b ^ length ds) b d (worth-below b ds h.1) h.0)

carried : (m q w b d : ℕ) → (m * q + w) * b + d ≡ m * (q * b) + (w * b + d)
carried m q w b d = omega arith

-- what stands above the digits counts for as many powers of the base
pub worth-append : (b : ℕ) (ds more : List ℕ) → worth b (ds ++ more) ≡ worth b more * b ^ length ds + worth b ds
worth-append b [] more = rw pow-zero (omega arith)
worth-append b (d ∷ ds) more =
    worth-cons b d (ds ++ more)
    ∙ rw (worth-append b ds more, worth-cons b d ds, pow-suc b (length ds)) (carried (worth b more) (b ^ length ds) (worth b ds) b d)

pub length-digits : (b count n : ℕ) → length (digits b count n) ≡ count
length-digits b zero n = refl
length-digits b (suc count) n = ap suc (length-digits b count (n / b))

none : (w b d : ℕ) → 0 < b → w * b + d ≡ 0 → w ≡ 0
none zero b d h e = refl
none (suc w) b d h e = absurd (omega (arith, e))

-- digits that say 0 to one base say it to each
pub worth-zero : (b c : ℕ) (ds : List ℕ) → 0 < b → worth b ds ≡ 0 → worth c ds ≡ 0
worth-zero b c [] h e = refl
worth-zero b c (d ∷ ds) h e =
    let f : worth b ds * b + d ≡ 0 = rw (worth-cons b d ds) at e in
    let g : worth b ds ≡ 0 = none (worth b ds) b d h f in
    rw (worth-cons c d ds, worth-zero b c ds h g) (omega arith)
