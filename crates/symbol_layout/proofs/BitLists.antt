-- Lists made item by item from the front.
use Rattle.std.specs.Prelude.{◌≡◌, ℕ, zero, suc, ◌+◌, ◌-◌, ◌/◌, ◌%◌, ◌<◌, Bool, true, false, ◌==◌, List, [], ◌∷◌, ◌++◌, length, drop}
use Rattle.std.specs.Int.{next_multiple_of}
use Rattle.std.proofs.Common.{refl, sym, ap, ◌∙◌, arith, append_assoc, length-append}
use Rattle.std.proofs.lemmas.Bool.{eqb-true}
use Rattle.std.proofs.lemmas.List.{append-nil, length-replicate, nil_from_length}
use Rattle.stl_rules.specs.Contents.{byte_of, filled_to, first_bytes, low_bits, times, zeros}

-- One step

pub times_step : {X : Type 0} (n : ℕ) (xs : List X) → 0 < n → times n xs ≡ xs ++ times (n - 1) xs
times_step zero xs h = absurd (omega (arith, h))
times_step (suc n) xs h = let less : suc n - 1 ≡ n = omega arith in ap (λ k. xs ++ times k xs) (sym less)

pub low_step : (n number : ℕ) → 0 < n → low_bits n number ≡ (number % 2 == 1) ∷ low_bits (n - 1) (number / 2)
low_step zero number h = absurd (omega (arith, h))
low_step (suc n) number h =
    let less : suc n - 1 ≡ n = omega arith in ap (λ k. (number % 2 == 1) ∷ low_bits k (number / 2)) (sym less)

pub zero_step : (n : ℕ) → 0 < n → zeros n ≡ false ∷ zeros (n - 1)
zero_step zero h = absurd (omega (arith, h))
zero_step (suc n) h = let less : suc n - 1 ≡ n = omega arith in ap (λ k. false ∷ zeros k) (sym less)

pub byte_step : (n : ℕ) (bits : List Bool) → 0 < n → first_bytes n bits ≡ byte_of bits ∷ first_bytes (n - 1) (drop 8 bits)
byte_step zero bits h = absurd (omega (arith, h))
byte_step (suc n) bits h =
    let less : suc n - 1 ≡ n = omega arith in ap (λ k. byte_of bits ∷ first_bytes k (drop 8 bits)) (sym less)

-- Nothing

pub times_none : {X : Type 0} (n : ℕ) → times {X = X} n [] ≡ []
times_none zero = refl
times_none (suc n) = times_none n

pub times_empty : {X : Type 0} (before more : List X) (n : ℕ) → (length more == 0) ≡ true → before ≡ before ++ times n more
times_empty before more n none =
    sym (ap (λ xs. before ++ times n xs) (nil_from_length more (eqb-true (length more) 0 none)) ∙ ap (λ xs. before ++ xs) (times_none n)
    ∙ append-nil before)

-- What is filled up has its length

pub length_filled : (bits : List Bool) → length (filled_to 16 bits) ≡ next_multiple_of (length bits) 16
length_filled bits =
    let both : length (filled_to 16 bits) ≡ length bits + length (zeros (next_multiple_of (length bits) 16 - length bits))
    = length-append bits (zeros (next_multiple_of (length bits) 16 - length bits)) in
    let more : length (zeros (next_multiple_of (length bits) 16 - length bits)) ≡ next_multiple_of (length bits) 16 - length bits
    = length-replicate (next_multiple_of (length bits) 16 - length bits) false in
    omega (arith, both, more)

pub ruleset times_laws = (times_step, times_none)

pub ruleset low_laws = (low_step, append_assoc)

pub ruleset zero_laws = (zero_step, append_assoc)

pub ruleset byte_laws = (byte_step, append_assoc)
