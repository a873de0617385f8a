-- With what an operand in a bracket begins: with the bracket, or with a word before it. No other operand begins so.
use Rattle.std.proofs.Common.{◌≡◌, ℕ, zero, suc, Bool, true, false, not, ◌&&◌, ◌||◌, if◌then◌else◌, List, [], ◌∷◌, length, drop, Option, Some, None, refl, sym, ap, ◌∙◌}
use Rattle.std.proofs.lemmas.Bool.{and_left, and_parts, and_right, not-false, not-true, or_from, or_left}
use Rattle.std.specs.Char.{to_ascii_lowercase}
use Rattle.std.specs.List.{list_all, list_any}
use Rattle.std.specs.Prelude.{codes}
use Rattle.std.specs.Str.{bytes_eq, str_to_ascii_lowercase}
use Rattle.s7_base.specs.Tokens.{is_between, is_same_word}
use Rattle.s7_base.specs.declared.token.Token.{Token}
use Rattle.s7_base.specs.declared.word.Width.{Width}
use Rattle.s7_base.specs.declared.word.Width.TheVariants as width
use Rattle.stl_statement_grammar.specs.ConstantForms.{IsAmong}
use Rattle.stl_statement_grammar.specs.Constants.{constant_at, marked_at, plain_at, prefixes, text_at}
use Rattle.digit_texts.specs.Digits.{are_digits}
use Rattle.stl_statement_grammar.specs.Paths.{named_at}
use Rattle.stl_statement_grammar.specs.Places.{PlaceWord, digits_of, is_no_digit, letters_of, number_behind, numbered_at, place_at, place_words}
use Rattle.stl_statement_grammar.specs.PointerForms.{IsCrossing, IsIndirect, IsRegister}
use Rattle.stl_statement_grammar.specs.PointerForms as form
use Rattle.stl_statement_grammar.specs.Pointers.{has_word, indirect_at, indirect_by, width_named}
use Rattle.stl_statement_grammar.specs.Readers.{fitting, further}
use Rattle.stl_statement_grammar.specs.LocatedOperands.{NamedForm, has_form, left_out_at, left_out_by, left_out_forms, place_operand}
use Rattle.stl_statement_grammar.specs.Words.{is_quoted_kind, is_sign, is_word, is_word_kind}
use Rattle.stl_statement_grammar.specs.declared.mnemonic.Read.TheVariants.{No}
use Rattle.stl_tree.specs.declared.raw.RawOperand.{RawOperand}
use Rattle.stl_tree.specs.declared.raw.RawOperand.TheVariants.{Crossing}
use Rattle.stl_constants.proofs.ConstantLaws.{AreUnmarked, no_mark, plain_none, starts_late, unmarked_no_text, word_is}
use Rattle.stl_constants.proofs.ConstantLaws as are
use Rattle.stl_instructions.proofs.LeftOutLaws.{no_place}
use Rattle.stl_places.proofs.PlaceLaws.{no_place_at}
use Rattle.stl_places.proofs.PlaceTokens.{digit_low, itself, no_digits, text_is}
use Rattle.stl_places.proofs.PointerLaws.{register_word}
use Rattle.stl_constants.proofs.Reading.{alike, if_false, if_true, no_sign, no_word, or_no, other_sign, same_letters, sign_no_quoted, word_no_quoted}
use Rattle.stl_constants.proofs.Tables.{any_at, none_among, none_at}

-- texts, in lower case, with which an operand in a bracket begins
abbrev pub is_opening : List ℕ → Bool
is_opening low =
    list_any (λ (row : PlaceWord). bytes_eq low (str_to_ascii_lowercase row.word)) place_words
    || list_any (bytes_eq low) (codes "b" ∷ codes "w" ∷ codes "d" ∷ codes "[" ∷ [])

-- a text that begins with a letter and has no digit
abbrev pub are_letters : List ℕ → Bool
are_letters low = starts_late low && list_all is_no_digit low

-- a word before a bracket
pub record IsBefore (word : Token) : Type 0 where
  pub kind : is_word_kind word.kind ≡ true
  pub known : is_opening (str_to_ascii_lowercase word.text) ≡ true
  pub letters : are_letters (str_to_ascii_lowercase word.text) ≡ true

-- a bracket, or a word and a bracket
pub data IsBracketed : List Token → Type 0 where
  bracket : (first : Token) (rest : List Token) → is_sign (codes "[") first ≡ true → IsBracketed (first ∷ rest)
  word_before : (first before : Token) (rest : List Token) → IsBefore first → is_sign (codes "[") before ≡ true → IsBracketed (first ∷ before ∷ rest)

-- Operands begin so

before_by : (word : Token) (name : List ℕ) → is_word name word ≡ true → is_opening (str_to_ascii_lowercase name) ≡ true
    → are_letters (str_to_ascii_lowercase name) ≡ true → IsBefore word
before_by word name is known letters =
    let p = and_parts (is_word_kind word.kind) (is_same_word word.text name) is in
    let same = same_letters word.text name p.1 in
    record { kind = p.0; known = ap is_opening same ∙ known; letters = ap are_letters same ∙ letters }

row_before : (word : Token) (row : PlaceWord) → IsAmong row place_words → has_word word row ≡ true → IsBefore word
row_before word row among is =
    before_by word row.word is
    (or_left _ _
    (any_at (λ (other : PlaceWord). bytes_eq (str_to_ascii_lowercase row.word) (str_to_ascii_lowercase other.word)) place_words row among
    (itself (str_to_ascii_lowercase row.word))))
    (not-false _ (none_at (λ (other : PlaceWord). not (are_letters (str_to_ascii_lowercase other.word))) place_words row among refl))

-- the words of widths
data IsWidthWord (word : Token) : Type 0 where
  named : (name : List ℕ) → is_word name word ≡ true → is_opening (str_to_ascii_lowercase name) ≡ true → are_letters (str_to_ascii_lowercase name) ≡ true →
      list_any (λ (row : PlaceWord). is_same_word row.word name) place_words ≡ false → IsWidthWord word

width_word : (word : Token) (w : Width) → width_named word ≡ Some w → IsWidthWord word
width_word word w e = by (is_word (codes "B") word) refl (is_word (codes "W") word) refl (is_word (codes "D") word) refl e
  where
    by : (b : Bool) → is_word (codes "B") word ≡ b → (c : Bool) → is_word (codes "W") word ≡ c → (d : Bool) → is_word (codes "D") word ≡ d →
        (if b then Some width.Byte else if c then Some width.Word else if d then Some width.Dword else None) ≡ Some w → IsWidthWord word
    by true is c no_c d no_d e = named (codes "B") is refl refl refl
    by false no_b true is d no_d e = named (codes "W") is refl refl refl
    by false no_b false no_c true is e = named (codes "D") is refl refl refl
    by false no_b false no_c false no_d e = absurd cc

width_before : (word : Token) → IsWidthWord word → IsBefore word
width_before word (named name is known letters other) = before_by word name is known letters

pub indirect_bracketed : (tokens : List Token) (operand : RawOperand) → IsIndirect tokens operand → IsBracketed tokens
indirect_bracketed tokens operand (form.by_memory first before rest row o among is sign held) =
    word_before first before rest (row_before first row among is) sign
indirect_bracketed tokens operand (form.by_register first before rest row o among is sign offset) =
    word_before first before rest (row_before first row among is) sign

pub crossing_bracketed : (tokens : List Token) (operand : RawOperand) → IsCrossing tokens operand → IsBracketed tokens
crossing_bracketed tokens operand (form.bit before rest o sign is) = bracket before rest sign
crossing_bracketed tokens operand (form.wide first before rest w o is_width sign is) =
    word_before first before rest (width_before first (width_word first w is_width)) sign

-- an operand that has its area from the pointer names none
pub crossing_no_indirect : (tokens : List Token) (operand : RawOperand) → IsCrossing tokens operand → indirect_at tokens ≡ No
crossing_no_indirect tokens operand (form.bit before rest o sign is) = by rest o is
  where
    by : (rest : List Token) (o : RawOperand) → IsRegister (Crossing width.Bit) rest o → indirect_at (before ∷ rest) ≡ No
    by rest o (form.register word comma front close r p is_named comma_is offset closes) =
        if_false (is_sign (codes "[") word) _ No (no_sign (codes "[") word (register_word word r is_named).0)
crossing_no_indirect tokens operand (form.wide first before rest w o is_width sign is) =
    if_true (is_sign (codes "[") before) _ No sign
    ∙ ap (λ (found : Option PlaceWord). further 2 (indirect_by found rest)) (none_among (has_word first) place_words (no_row (width_word first w is_width)))
  where
    no_row : IsWidthWord first → (row : PlaceWord) → IsAmong row place_words → has_word first row ≡ false
    no_row (named name is known letters other) row among = by (has_word first row) refl
      where
        by : (b : Bool) → has_word first row ≡ b → b ≡ false
        by true e =
            let p = and_parts (is_word_kind first.kind) (is_same_word first.text row.word) e in
            let q = and_parts (is_word_kind first.kind) (is_same_word first.text name) is in
            let clash : true ≡ false =
            sym (alike first.text name row.word q.1 p.1) ∙ none_at (λ (other_row : PlaceWord). is_same_word other_row.word name) place_words row among other in
            absurd cc
        by false e = refl

-- No other operand begins so

other_text : (text word : List ℕ) → is_opening (str_to_ascii_lowercase text) ≡ true
    → is_opening (str_to_ascii_lowercase word) ≡ false → is_same_word text word ≡ false
other_text text word known other = by (is_same_word text word) refl
  where
    by : (b : Bool) → is_same_word text word ≡ b → b ≡ false
    by true s = let clash : true ≡ false = sym known ∙ ap is_opening (same_letters text word s) ∙ other in absurd cc
    by false s = refl

pub bracketed_no_text : (tokens : List Token) (word : List ℕ) → IsBracketed tokens
    → is_opening (str_to_ascii_lowercase word) ≡ false → text_is word tokens ≡ false
bracketed_no_text tokens other (bracket first rest sign) none =
    other_text first.text other (ap is_opening (same_letters first.text (codes "[") (and_parts _ (is_same_word first.text (codes "[")) sign).1)) none
bracketed_no_text tokens other (word_before first before rest is sign) none = other_text first.text other is.known none

pub bracketed_no_word : (tokens : List Token) (word : List ℕ) → IsBracketed tokens
    → is_opening (str_to_ascii_lowercase word) ≡ false → word_is word tokens ≡ false
bracketed_no_word tokens word is none = by tokens (bracketed_no_text tokens word is none)
  where
    by : (tokens : List Token) → text_is word tokens ≡ false → word_is word tokens ≡ false
    by [] h = refl
    by (first ∷ rest) h = and_right _ _ h

pub bracketed_unmarked : (tokens : List Token) → IsBracketed tokens → AreUnmarked tokens
bracketed_unmarked tokens (bracket first rest sign) = are.bracket first rest sign
bracketed_unmarked tokens (word_before first before rest is sign) = are.before_bracket first before rest is.kind sign

pub bracketed_no_constant : (tokens : List Token) → IsBracketed tokens → constant_at tokens ≡ No
bracketed_no_constant tokens is =
    or_no (text_at tokens) _ (unmarked_no_text tokens unmarked) ∙ or_no (marked_at prefixes tokens) _ (no_mark prefixes tokens unmarked) ∙ no_plain tokens is
  where
    unmarked : AreUnmarked tokens
    unmarked = bracketed_unmarked tokens is

    no_plain : (tokens : List Token) → IsBracketed tokens → plain_at tokens ≡ No
    no_plain tokens (bracket first rest sign) =
        plain_none first rest (other_sign (codes "[") (codes "-") first sign refl) (λ kind. let clash : true ≡ false =
        sym kind ∙ no_word (codes "[") first sign in absurd cc)
    no_plain tokens (word_before first before rest is sign) =
        plain_none first (before ∷ rest) (no_sign (codes "-") first is.kind)
        (λ kind. (and_parts (starts_late (str_to_ascii_lowercase first.text)) _ is.letters).0)

pub bracketed_no_named : (tokens : List Token) → IsBracketed tokens → named_at tokens ≡ No
bracketed_no_named tokens (bracket first rest sign) =
    if_false (is_quoted_kind first.kind) _ _ (sign_no_quoted (codes "[") first sign)
    ∙ if_false (is_sign (codes "#") first) _ No (other_sign (codes "[") (codes "#") first sign refl)
bracketed_no_named tokens (word_before first before rest is sign) =
    if_false (is_quoted_kind first.kind) _ _ (word_no_quoted first is.kind) ∙ if_false (is_sign (codes "#") first) _ No (no_sign (codes "#") first is.kind)

-- behind letters a bracket is no number
pub no_number_before : (first before : Token) (rest : List Token) → is_word_kind first.kind ≡ true
    → digits_of first.text ≡ [] → is_word_kind before.kind ≡ false
    → numbered_at (first ∷ before ∷ rest) ≡ No
no_number_before first before rest kind digits none =
    if_true (is_word_kind first.kind) _ No kind
    ∙ ap (λ (ds : List ℕ). number_behind (letters_of first.text) ds (before ∷ rest)) digits
    ∙ ap (fitting 2) (if_false (is_word_kind before.kind) _ None none)

-- none of the forms that are left out, which are named by other words
no_form : (first before : Token) (rest : List Token) → IsBefore first → (form : NamedForm)
    → IsAmong form left_out_forms → has_form (first ∷ before ∷ rest) form ≡ false
no_form first before rest is form among =
    or_from _ _ (and_left _ _ (and_right _ _
    (other_text first.text form.word is.known (none_at (λ (f : NamedForm). is_opening (str_to_ascii_lowercase f.word)) left_out_forms form among refl))))
    (and_right _ _ (no_rest (length form.word) first.text (and_parts (starts_late (str_to_ascii_lowercase first.text)) _ is.letters).1))
  where
    no_rest : (n : ℕ) (text : List ℕ) → list_all is_no_digit (str_to_ascii_lowercase text) ≡ true → are_digits (drop n text) ≡ false
    no_rest zero [] h = refl
    no_rest zero (c ∷ cs) h =
        let digit = not-true (is_between 48 57 c) (sym (digit_low c) ∙ (and_parts (is_no_digit (to_ascii_lowercase c)) _ h).0) in and_left _ _ digit
    no_rest (suc n) [] h = refl
    no_rest (suc n) (c ∷ cs) h = no_rest n cs (and_parts (is_no_digit (to_ascii_lowercase c)) _ h).1

pub bracketed_no_place : (tokens : List Token) → IsBracketed tokens → place_operand tokens ≡ No
bracketed_no_place tokens (bracket first rest sign) = no_place first rest (no_word (codes "[") first sign)
bracketed_no_place tokens (word_before first before rest is sign) =
    or_no (place_at (first ∷ before ∷ rest)) (left_out_at left_out_forms (first ∷ before ∷ rest))
    (no_place_at (first ∷ before ∷ rest)
    (no_number_before first before rest is.kind
    (no_digits first.text (and_parts (starts_late (str_to_ascii_lowercase first.text)) _ is.letters).1) (no_word (codes "[") before sign)))
    ∙ ap left_out_by (none_among (has_form (first ∷ before ∷ rest)) left_out_forms (no_form first before rest is))

pub bracketed_there : (tokens : List Token) → IsBracketed tokens → tokens ≡ [] → ⊥
bracketed_there tokens (bracket first rest sign) e = absurd cc
bracketed_there tokens (word_before first before rest is sign) e = absurd cc
