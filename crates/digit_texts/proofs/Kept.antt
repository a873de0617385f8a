-- Numbers that are kept in 32 bits.
use Rattle.std.proofs.Common.{◌≡◌, ℕ, suc, ◌+◌, ◌-◌, ◌*◌, ◌<◌, ◌≤◌, List, [], ◌∷◌, length, get_or, drop, drop-cons, sym, ap, ◌∙◌, arith}
use Rattle.digit_texts.specs.Digits.{capped_number, written_from}

grows : (value : ℕ) (digits : List ℕ) → value ≤ written_from value digits
grows value [] = omega arith
grows value (d ∷ rest) = let more = grows (value * 10 + (d - 48)) rest in omega arith

-- digits after a number that is kept give what they give after the number
kept_from : (value : ℕ) (digits : List ℕ) → capped_number (written_from (capped_number value) digits) ≡ capped_number (written_from value digits)
kept_from value digits =
    grind (
      arith,
      grows value digits,
      grows (capped_number value) digits,
      λ (same : capped_number value ≡ value). ap (λ v. capped_number (written_from v digits)) same,
    )

-- one digit further
pub digit_further : (value result index whole : ℕ) (digits : List ℕ) → index < length digits
    → result ≡ capped_number (value * 10 + (get_or digits index 0 - 48))
    → capped_number (written_from value (drop index digits)) ≡ whole → capped_number (written_from result (drop (index + 1) digits)) ≡ whole
digit_further value result index whole digits h e w =
    let next : suc index ≡ index + 1 = omega arith in
    let here : drop index digits ≡ get_or digits index 0 ∷ drop (index + 1) digits =
    drop-cons digits index 0 h ∙ ap (λ i. get_or digits index 0 ∷ drop i digits) next in
    ap (λ v. capped_number (written_from v (drop (index + 1) digits))) e
    ∙ kept_from (value * 10 + (get_or digits index 0 - 48)) (drop (index + 1) digits)
    ∙ ap (λ ds. capped_number (written_from value ds)) (sym here)
    ∙ w
