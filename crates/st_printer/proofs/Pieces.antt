-- Levels and digits, taken from their other end.
use Rattle.st_tree.proofs.Common.{◌≡◌, ℕ, zero, suc, ◌+◌, ◌*◌, ◌-◌, ◌++◌, ◌∷◌, [], List, length, take, replicate, Result, Ok, Err, refl, ap, ◌∙◌, arith, ◌/◌, ◌%◌, codes, hex_digit, blanks, hexadecimal}
use Rattle.std.specs.Prelude.{OnOk}
use Rattle.std.proofs.lemmas.List.{take_all}

pub blanks_are : (level : ℕ) → replicate (level * 4) 32 ≡ blanks level
blanks_are zero = refl
blanks_are (suc level) =
    let e : suc level * 4 ≡ suc (suc (suc (suc (level * 4)))) = omega arith in
    ap (λ (n : ℕ). replicate n 32) e ∙ ap (λ (xs : List ℕ). codes "    " ++ xs) (blanks_are level)

-- blanks are put behind bytes by making these longer
pub blanks_behind : (xs : List ℕ) (level : ℕ)
    → take (length xs + level * 4) xs ++ replicate (length xs + level * 4 - length xs) 32 ≡ xs ++ blanks level
blanks_behind xs level =
    let all : take (length xs + level * 4) xs ≡ xs = take_all (length xs + level * 4) xs (omega arith) in
    let more : length xs + level * 4 - length xs ≡ level * 4 = omega arith in
    ap (λ (ys : List ℕ). ys ++ replicate (length xs + level * 4 - length xs) 32) all
    ∙ ap (λ (n : ℕ). xs ++ replicate n 32) more ∙ ap (λ (ys : List ℕ). xs ++ ys) (blanks_are level)

pub hexadecimal_up : (count n : ℕ) → (count ≡ 0 → ⊥) → hexadecimal count n ≡ hexadecimal (count - 1) (n / 16) ++ hex_digit (n % 16) ∷ []
unfolding hexadecimal
hexadecimal_up zero n h = absurd (h refl)
hexadecimal_up (suc count) n h = let e : count ≡ suc count - 1 = omega arith in ap (λ (k : ℕ). hexadecimal k (n / 16) ++ hex_digit (n % 16) ∷ []) e

pub hexadecimal_none : (n : ℕ) → hexadecimal 0 n ≡ []
unfolding hexadecimal
hexadecimal_none n = refl

-- what holds where all went well, from something else that does
pub on_ok : {X E P Q : Type 0} (r : Result X E) → (P → Q) → OnOk r P → OnOk r Q
on_ok (Ok x) f p = f p
on_ok (Err e) f p = tt
