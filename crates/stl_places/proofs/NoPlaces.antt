-- Words and signs with which no place begins.
use Rattle.std.proofs.Common.{◌≡◌, ℕ, Bool, true, false, List, [], ◌∷◌, drop, Option, Some, None, refl, ap, ◌∙◌, if◌then◌else◌}
use Rattle.std.proofs.lemmas.Bool.{or_parts}
use Rattle.std.specs.List.{find, list_any}
use Rattle.std.specs.Prelude.{codes, option_map}
use Rattle.std.specs.Str.{bytes_eq, str_to_ascii_lowercase}
use Rattle.s7_base.specs.Tokens.{is_same_word}
use Rattle.s7_base.specs.declared.token.Token.{Token}
use Rattle.digit_texts.specs.Digits.{kept_number}
use Rattle.stl_statement_grammar.specs.Places.{Numbered, PlaceWord, block_place_at, digits_of, has_letters, letters_of, number_behind, numbered_at, place_at, place_behind, place_by, place_in, place_words, with_number}
use Rattle.stl_statement_grammar.specs.Readers.{and_then, fitting, further}
use Rattle.stl_statement_grammar.specs.Words.{is_word_kind}
use Rattle.stl_statement_grammar.specs.declared.mnemonic.Read.{Read}
use Rattle.stl_statement_grammar.specs.declared.mnemonic.Read.TheVariants.{Fits, LeftOut, No}
use Rattle.stl_places.proofs.PlaceTokens.{begins_place}
use Rattle.stl_constants.proofs.Reading.{if_false, or_no}
use Rattle.stl_constants.proofs.Tables.{find_unlisted}

-- A sign

-- no number stands where no word does
pub no_numbered : (first : Token) (rest : List Token) → is_word_kind first.kind ≡ false → numbered_at (first ∷ rest) ≡ No
no_numbered first rest h = if_false (is_word_kind first.kind) _ No h

-- A word with other letters

-- what was found has these letters
abbrev HasLetters : List ℕ → Read Numbered → Type 0
HasLetters letters No = Unit {0}
HasLetters letters (LeftOut kind) = ⊥
HasLetters letters (Fits found size) = found.letters ≡ letters

numbered_letters : (word : Token) (rest : List Token) → HasLetters (letters_of word.text) (numbered_at (word ∷ rest))
numbered_letters word rest = by (is_word_kind word.kind)
  where
    number : (letters : List ℕ) (size : ℕ) (o : Option ℕ) → HasLetters letters (fitting size (option_map (λ n. record { letters = letters; number = n }) o))
    number letters size None = tt
    number letters size (Some n) = refl

    in_next : (letters : List ℕ) (next : Token) (b : Bool) → HasLetters letters (fitting 2 (if b then with_number letters next.text else None))
    in_next letters next true = number letters 2 (kept_number next.text)
    in_next letters next false = tt

    behind : (letters digits : List ℕ) (rest : List Token) → HasLetters letters (number_behind letters digits rest)
    behind letters (d ∷ ds) rest = number letters 1 (kept_number (d ∷ ds))
    behind letters [] [] = tt
    behind letters [] (next ∷ rest) = in_next letters next (is_word_kind next.kind)

    by : (b : Bool) → HasLetters (letters_of word.text) (if b then number_behind (letters_of word.text) (digits_of word.text) rest else No)
    by true = behind (letters_of word.text) (digits_of word.text) rest
    by false = tt

-- where nothing stands behind these letters, nothing does behind what was found
none_behind : {B : Type 0} (tokens : List Token) (letters : List ℕ) (r : Read Numbered) (next : Numbered → List Token → Read B) → HasLetters letters r →
    ((found : Numbered) (rest : List Token) → found.letters ≡ letters → next found rest ≡ No) → and_then tokens r next ≡ No
none_behind tokens letters No next h none = refl
none_behind tokens letters (LeftOut kind) next h none = elim h [ ]
none_behind tokens letters (Fits found size) next h none = ap (further size) (none found (drop size tokens) h)

-- a word has other letters than those of places
pub no_place_begins : (word : Token) (rest : List Token) → begins_place (letters_of word.text) ≡ false → place_at (word ∷ rest) ≡ No
no_place_begins word rest h =
    let letters = letters_of word.text in
    let p = or_parts (list_any (λ (row : PlaceWord). bytes_eq (str_to_ascii_lowercase letters) (str_to_ascii_lowercase row.word)) place_words)
    (bytes_eq (str_to_ascii_lowercase letters) (codes "db")) h in
    or_no (place_in place_words None (word ∷ rest)) (block_place_at (word ∷ rest))
    (none_behind (word ∷ rest) letters (numbered_at (word ∷ rest))
    (λ found more. place_by None (find (has_letters found.letters) place_words) found.number more)
    (numbered_letters word rest)
    (λ found more same.
    ap (λ (ls : List ℕ). place_by None (find (has_letters ls) place_words) found.number more) same
    ∙ ap (λ (o : Option PlaceWord). place_by None o found.number more) (find_unlisted (has_letters letters) place_words p.0)))
    ∙ none_behind (word ∷ rest) letters (numbered_at (word ∷ rest))
    (λ found more. if is_same_word found.letters (codes "DB") then place_behind found.number more else No)
    (numbered_letters word rest)
    (λ found more same. if_false (is_same_word found.letters (codes "DB")) _ No (ap (λ (ls : List ℕ). is_same_word ls (codes "DB")) same ∙ p.1))
