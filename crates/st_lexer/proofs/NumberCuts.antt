-- Numbers at the front of a text, whatever stands after them that does not go on with them.
use Rattle.st_tree.proofs.Common.{◌≡◌, ℕ, ◌+◌, ◌^◌, ◌<◌, Bool, true, false, not, ◌&&◌, ◌==◌, List, [], ◌∷◌, ◌++◌, length, Some, refl, ap, ◌∙◌, arith, nat_eq, decimal, codes, list_all, starts_with, nat_tests, is_word_byte}
use Rattle.st_lexer.proofs.Digits.{Digits, digits_word, begins_digit, number_of_digits, decimal_digits}
use Rattle.st_lexer.proofs.Words.{and_both, not_true, if_true, no_mark}
use Rattle.st_lexer.proofs.Common.{begins_with_digit, digits_behind, base_at, number_to, number_at, ends_word, Base}
use Rattle.st_lexer.specs.declared.number.Base.TheVariants.{Ten, Sixteen}

-- Decimals

none_of_two : (a b : Bool) → b ≡ false → (a && b) ≡ false
none_of_two true b e = e
none_of_two false b e = refl

word_no_mark : (b : ℕ) → is_word_byte b ≡ true → nat_eq 35 b ≡ false
word_no_mark b h = grind (arith, nat_tests)

-- no `#` stands in a word, nor directly after it
no_second : (a : Bool) (w more : List ℕ) → list_all is_word_byte w ≡ true → ends_word more ≡ true → (a && starts_with nat_eq (w ++ more) (codes "#")) ≡ false
no_second a w more h e = none_of_two a _ (by w more h e)
  where
    by : (w more : List ℕ) → list_all is_word_byte w ≡ true → ends_word more ≡ true → starts_with nat_eq (w ++ more) (codes "#") ≡ false
    by [] [] h e = refl
    by [] (b ∷ more) h e = let no : (b == 35) ≡ false = no_mark (b ∷ more) e in let turned : nat_eq 35 b ≡ false = grind (arith, nat_tests) in rw turned refl
    by (b ∷ w) more h e = rw (word_no_mark b (and_both (is_word_byte b) (list_all is_word_byte w) h).0) refl

-- a mark of one byte and `#` does not stand at the front
no_short_mark : (m : ℕ) (w more : List ℕ) → list_all is_word_byte w ≡ true → 0 < length w
    → ends_word more ≡ true → starts_with nat_eq (w ++ more) (m ∷ 35 ∷ []) ≡ false
no_short_mark m [] more h some e = absurd (omega arith)
no_short_mark m (d ∷ w) more h some e = no_second (nat_eq m d) w more (and_both (is_word_byte d) (list_all is_word_byte w) h).1 e

-- nor does `16#`
not_six : (b : ℕ) → is_word_byte b ≡ false → nat_eq 54 b ≡ false
not_six b h = grind (arith, nat_tests)

no_long_mark : (w more : List ℕ) → list_all is_word_byte w ≡ true → 0 < length w → ends_word more ≡ true → starts_with nat_eq (w ++ more) (codes "16#") ≡ false
no_long_mark [] more h some e = absurd (omega arith)
no_long_mark (d ∷ w) more h some e =
    none_of_two (nat_eq 49 d) (starts_with nat_eq (w ++ more) (codes "6#")) (by w more (and_both (is_word_byte d) (list_all is_word_byte w) h).1 e)
  where
    by : (w more : List ℕ) → list_all is_word_byte w ≡ true → ends_word more ≡ true → starts_with nat_eq (w ++ more) (codes "6#") ≡ false
    by [] [] h e = refl
    by [] (b ∷ more) h e = rw (not_six b (not_true (is_word_byte b) (and_both (not (is_word_byte b)) (not (b == 35)) e).0)) refl
    by (b ∷ w) more h e = no_second (nat_eq 54 b) w more (and_both (is_word_byte b) (list_all is_word_byte w) h).1 e

-- a number of digits alone is a decimal
pub decimal_base : (ds more : List ℕ) → list_all is_word_byte ds ≡ true → 0 < length ds → ends_word more ≡ true → base_at (ds ++ more) ≡ Ten
decimal_base ds more h some e = rw (no_long_mark ds more h some e, no_short_mark 56 ds more h some e, no_short_mark 50 ds more h some e) refl

-- the number of a decimal
pub decimal_to : (n : ℕ) (more : List ℕ) → n < 2 ^ 64 → ends_word more ≡ true
    → number_to Ten (decimal n ++ more) ≡ Some (record { value = n; size = length (decimal n) })
decimal_to n more small e =
    let d : Digits Ten n (decimal n) = decimal_digits n small in
    let size : 0 + length (decimal n) ≡ length (decimal n) = omega arith in
    if_true (begins_with_digit Ten (decimal n ++ more)) _ _ (begins_digit Ten (decimal n) more d.digits d.some)
    ∙ ap Some (number_of_digits 0 Ten n (decimal n) more d e)
    ∙ ap (λ (k : ℕ). Some (record { value = n; size = k })) size

pub decimal_at : (n : ℕ) (more : List ℕ) → n < 2 ^ 64 → ends_word more ≡ true
    → (base_at (decimal n ++ more) ≡ Ten) × (number_at (decimal n ++ more) ≡ Some (record { value = n; size = length (decimal n) }))
decimal_at n more small e =
    let d : Digits Ten n (decimal n) = decimal_digits n small in
    let ten : base_at (decimal n ++ more) ≡ Ten = decimal_base (decimal n) more (digits_word Ten (decimal n) d.digits) d.some e in
    (ten, ap (λ (base : Base). number_to base (decimal n ++ more)) ten ∙ decimal_to n more small e)

-- Hexadecimal numbers

-- digits after `16#` are a hexadecimal number
pub marked_at : (n : ℕ) (ds more : List ℕ) → Digits Sixteen n ds → ends_word more ≡ true
    → (base_at (codes "16#" ++ (ds ++ more)) ≡ Sixteen) × (number_at (codes "16#" ++ (ds ++ more)) ≡ Some (record { value = n; size = 3 + length ds }))
marked_at n ds more d e =
    let digit : begins_with_digit Sixteen (ds ++ more) ≡ true = begins_digit Sixteen ds more d.digits d.some in
    let sixteen : base_at (codes "16#" ++ (ds ++ more)) ≡ Sixteen = if_true (begins_with_digit Sixteen (ds ++ more)) _ _ digit in
    let to : number_to Sixteen (codes "16#" ++ (ds ++ more)) ≡ Some (digits_behind 3 Sixteen (ds ++ more)) =
    if_true (begins_with_digit Sixteen (ds ++ more)) _ _ digit in
    (sixteen, ap (λ (base : Base). number_to base (codes "16#" ++ (ds ++ more))) sixteen ∙ to ∙ ap Some (number_of_digits 3 Sixteen n ds more d e))
