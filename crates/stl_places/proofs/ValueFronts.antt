-- Pointers and other values at the front of tokens, before what ends a value.
use Rattle.std.proofs.Common.{◌≡◌, ℕ, ◌+◌, ◌-◌, Bool, true, false, ◌&&◌, not, cond, List, [], ◌∷◌, ◌++◌, length, take, Option, Some, refl, ap, ◌∙◌, arith}
use Rattle.std.proofs.lemmas.Bool.{and_from, and_left, and_parts}
use Rattle.std.specs.List.{prefix_len}
use Rattle.std.specs.Prelude.{codes}
use Rattle.digit_texts.specs.Digits.{are_digits, kept_number}
use Rattle.s7_base.specs.Tokens.{is_between}
use Rattle.s7_base.specs.declared.token.Token.{Token}
use Rattle.s7_base.specs.declared.word.Width.TheVariants as width
use Rattle.stl_constants.proofs.ConstantLaws.{IsNoConstant, constant_no_word, constant_there, word_is}
use Rattle.stl_constants.proofs.Reading.{if_false, if_true, or_no, or_this, taken}
use Rattle.stl_places.proofs.ConstantFronts.{Stops}
use Rattle.stl_places.proofs.Fronts.{further_read}
use Rattle.stl_places.proofs.NoPlaces.{no_place_begins}
use Rattle.stl_places.proofs.PlaceLaws.{bit_read, glued_before, place_at_read}
use Rattle.stl_places.proofs.PlaceTokens.{begins_place}
use Rattle.stl_statement_grammar.specs.ConstantForms.{IsConstant}
use Rattle.stl_statement_grammar.specs.Constants.{begins_glued, name_behind, truth_at}
use Rattle.stl_statement_grammar.specs.Paths.{number_word}
use Rattle.stl_statement_grammar.specs.Places.{bit_at, is_no_digit, letters_of, place_at}
use Rattle.stl_statement_grammar.specs.PointerForms.{IsOffset, IsPointer, IsPointerConstant}
use Rattle.stl_statement_grammar.specs.PointerForms as pointing
use Rattle.stl_statement_grammar.specs.Pointers.{offset_behind, offset_by, pointer, pointer_at, pointer_behind, pointer_with}
use Rattle.stl_statement_grammar.specs.Readers.{fitting}
use Rattle.stl_statement_grammar.specs.Words.{is_joined, is_word, is_word_kind}
use Rattle.stl_statement_grammar.specs.declared.mnemonic.Read.TheVariants.{Fits, No}
use Rattle.stl_tree.specs.declared.raw.Constant.{Constant}
use Rattle.stl_tree.specs.declared.raw.RawPointer.{RawPointer}

-- Pointers, whatever stands behind them

-- a word that is a number has no letters
number_letters : (word : Token) (n : ℕ) → number_word word ≡ Some n → begins_place (letters_of word.text) ≡ false
number_letters word n e = ap begins_place (none word.text (taken (are_digits word.text) _ n (taken (is_word_kind word.kind) (kept_number word.text) n e).1).0)
  where
    none : (text : List ℕ) → are_digits text ≡ true → letters_of text ≡ []
    none [] h = absurd cc
    none (c ∷ cs) h =
        let digit = (and_parts (is_between 48 57 c) _ h).0 in
        ap (λ (b : Bool). take (cond (not b) (1 + prefix_len is_no_digit cs) 0) (c ∷ cs)) digit

offset_before : (tokens : List Token) (p : RawPointer) → IsOffset tokens p → (rest : List Token) → offset_behind (tokens ++ rest) ≡ Fits p (length tokens)
offset_before tokens p (pointing.offset word more byte bit number is) rest =
    let size : length more + 1 ≡ length (word ∷ more) = omega arith in
    ap (λ (o : Option ℕ). offset_by o (bit_at (more ++ rest))) number
    ∙ ap (offset_by (Some byte)) (bit_read width.Bit more bit is rest)
    ∙ ap (λ (n : ℕ). Fits (pointer 0 byte bit) n) size

offset_no_place : (tokens : List Token) (p : RawPointer) → IsOffset tokens p → (rest : List Token) → place_at (tokens ++ rest) ≡ No
offset_no_place tokens p (pointing.offset word more byte bit number is) rest = no_place_begins word (more ++ rest) (number_letters word byte number)

behind_hash_before : (tokens : List Token) (p : RawPointer) → IsPointer tokens p
    → (rest : List Token) → pointer_behind (tokens ++ rest) ≡ Fits p (length tokens)
behind_hash_before tokens p (pointing.in_area ts place q is to) rest =
    or_this (pointer_with (place_at (ts ++ rest))) _ q (length ts) (ap pointer_with (place_at_read ts place is rest) ∙ ap (fitting (length ts)) to)
behind_hash_before tokens p (pointing.alone ts q is) rest =
    or_no (pointer_with (place_at (ts ++ rest))) _ (ap pointer_with (offset_no_place ts q is rest)) ∙ offset_before ts q is rest

pub pointer_before : (tokens : List Token) (p : RawPointer) → IsPointerConstant tokens p
    → (rest : List Token) → pointer_at (tokens ++ rest) ≡ Fits p (length tokens)
pointer_before tokens p (pointing.behind word hash more q is joined glued such) rest =
    if_true (is_word (codes "P") word && is_joined (codes "#") hash && begins_glued (more ++ rest)) _ No
    (and_from _ _ (and_from _ _ is joined) (glued_before more rest glued))
    ∙ further_read (word ∷ hash ∷ []) more (pointer_behind (more ++ rest)) q (behind_hash_before more q such rest)

-- What a value is not

pub no_truth : (tokens : List Token) → word_is (codes "TRUE") tokens ≡ false → word_is (codes "FALSE") tokens ≡ false → truth_at tokens ≡ No
no_truth [] one two = refl
no_truth (first ∷ rest) one two = ap (fitting 1) (if_false (is_word (codes "TRUE") first) _ _ one ∙ if_false (is_word (codes "FALSE") first) _ _ two)

pub constant_other : (tokens : List Token) (c : Constant) (word : List ℕ) → IsConstant tokens c
    → IsNoConstant word → (rest : List Token) → word_is word (tokens ++ rest) ≡ false
constant_other [] c word is none rest = absurd (constant_there [] c is refl)
constant_other (first ∷ more) c word is none rest = constant_no_word (first ∷ more) c word is none

pub name_none : (front rest : List Token) → name_behind front ≡ No → Stops rest → name_behind (front ++ rest) ≡ No
name_none [] [] none stop = absurd stop
name_none [] (sign ∷ rest) none stop = if_false (is_joined (codes "#") sign) _ _ (and_left _ _ stop.hash)
name_none (first ∷ front) rest none stop = none
