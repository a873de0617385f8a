-- A word at the front of a text, whatever stands after it that does not go on with it.
use Rattle.st_tree.proofs.Common.{◌≡◌, ℕ, Bool, true, false, not, ◌&&◌, ◌==◌, List, [], ◌∷◌, ◌++◌, length, drop, Some, None, refl, ap, ◌∙◌, arith, if◌then◌else◌, list_all, nat_tests, drop-append_seam, is_word_byte, begins_with}
use Rattle.st_lexer.proofs.Common.{word_size, type_at, ends_word, is_blank, is_letter, token}
use Rattle.st_lexer.specs.SpellingLaws.{WordsAreTokens}
use Rattle.st_tree.specs.declared.token.StKind.TheVariants as sort

pub and_both : (a b : Bool) → (a && b) ≡ true → (a ≡ true) × (b ≡ true)
and_both true b h = (refl, h)
and_both false b h = absurd cc

pub if_true : {X : Type 0} (b : Bool) (x y : X) → b ≡ true → (if b then x else y) ≡ x
if_true b x y e = rw e refl

pub if_false : {X : Type 0} (b : Bool) (x y : X) → b ≡ false → (if b then x else y) ≡ y
if_false b x y e = rw e refl

pub not_true : (a : Bool) → not a ≡ true → a ≡ false
not_true true h = absurd cc
not_true false h = refl

letter_not_blank : (b : ℕ) → is_letter b ≡ true → is_blank b ≡ false
letter_not_blank b h = grind (arith, nat_tests)

-- a longest run of bytes of words
pub run_size : (w more : List ℕ) → list_all is_word_byte w ≡ true → ends_word more ≡ true → word_size (w ++ more) ≡ length w
run_size [] [] h e = refl
run_size [] (b ∷ more) h e = rw (not_true (is_word_byte b) (and_both (not (is_word_byte b)) (not (b == 35)) e).0) refl
run_size (b ∷ w) more h e =
    let both = and_both (is_word_byte b) (list_all is_word_byte w) h in
    rw both.0 (rw (run_size w more both.1 e) (omega arith))

-- no `#` stands after the end of a word
pub no_mark : (more : List ℕ) → ends_word more ≡ true → begins_with 35 more ≡ false
no_mark [] e = refl
no_mark (b ∷ more) e = not_true (b == 35) (and_both (not (is_word_byte b)) (not (b == 35)) e).1

-- a word or a number without `#` is no type
pub no_type : (w more : List ℕ) → list_all is_word_byte w ≡ true → ends_word more ≡ true → type_at (w ++ more) ≡ None
no_type w more h e =
    let size : word_size (w ++ more) ≡ length w = run_size w more h e in
    let behind : begins_with 35 (drop (word_size (w ++ more)) (w ++ more)) ≡ false =
    ap (λ (n : ℕ). begins_with 35 (drop n (w ++ more))) size ∙ ap (begins_with 35) (drop-append_seam w more) ∙ no_mark more e in
    if_false (begins_with 35 (drop (word_size (w ++ more)) (w ++ more))) _ _ behind

pub letter_word : (b : ℕ) → is_letter b ≡ true → is_word_byte b ≡ true
letter_word b h = grind (arith, nat_tests)

pub word_stands : WordsAreTokens
word_stands b w letter all more ends =
    let whole : list_all is_word_byte (b ∷ w) ≡ true = rw (letter_word b letter, all) refl in
    record {
      found = if_false (is_blank b) _ _ (letter_not_blank b letter) ∙ if_true (is_letter b) _ _ letter
          ∙ rw (no_type (b ∷ w) more whole ends) (ap (λ (n : ℕ). Some (token sort.Word n)) (run_size (b ∷ w) more whole ends));
      size = refl;
    }
