-- One or more digits are some digits, and nothing else.
use Rattle.std.proofs.Common.{◌≡◌, ℕ, ◌<◌, true, List, [], ◌∷◌, length, refl, arith}
use Rattle.std.specs.List.{list_all}
use Rattle.digit_texts.specs.Digits.{are_digits, is_digit}

pub some_digits : (ds : List ℕ) → 0 < length ds → list_all is_digit ds ≡ true → are_digits ds ≡ true
some_digits [] some h = absurd (omega arith)
some_digits (d ∷ ds) some h = h

pub each_digit : (ds : List ℕ) → are_digits ds ≡ true → list_all is_digit ds ≡ true
each_digit [] h = refl
each_digit (d ∷ ds) h = h
