-- Written places, form by form.
use Rattle.std.specs.Prelude.{◌≡◌, ℕ, true, List, [], ◌∷◌, ◌++◌, codes, Option, Some, None}
use Rattle.s7_base.specs.Tokens.{is_same_word}
use Rattle.s7_base.specs.declared.token.Token.{Token}
use Rattle.s7_base.specs.declared.word.Width.{Width}
use Rattle.s7_base.specs.declared.word.Width.TheVariants as width
use Rattle.stl_statement_grammar.specs.ConstantForms.{IsAmong}
use Rattle.stl_statement_grammar.specs.Constants.{begins_glued}
use Rattle.digit_texts.specs.Digits.{kept_number}
use Rattle.stl_statement_grammar.specs.Places.{PlaceWord, db_words, digits_of, letters_of, place_of, place_words}
use Rattle.stl_statement_grammar.specs.Words.{is_joined, is_joined_word, is_word_kind}
use Rattle.stl_tree.specs.declared.raw.RawPlace.{RawPlace}

-- letters and a number: `MB5` or `MB 5`
pub data IsNumbered : List Token → List ℕ → ℕ → Type 0 where
  in_one : (word : Token) (n : ℕ) →
      is_word_kind word.kind ≡ true → kept_number (digits_of word.text) ≡ Some n
      → IsNumbered (word ∷ []) (letters_of word.text) n
  in_two : (word number : Token) (n : ℕ) →
      is_word_kind word.kind ≡ true → digits_of word.text ≡ []
      → is_word_kind number.kind ≡ true → kept_number number.text ≡ Some n
      → IsNumbered (word ∷ number ∷ []) (letters_of word.text) n

-- the number of a bit after that of a byte: for a bit a point and its number, without a blank, else nothing
pub data IsBitBehind : Width → List Token → ℕ → Type 0 where
  bit : (point number : Token) (x : ℕ) →
      is_joined (codes ".") point ≡ true → is_joined_word number ≡ true → kept_number number.text ≡ Some x
      → IsBitBehind width.Bit (point ∷ number ∷ []) x
  byte : IsBitBehind width.Byte [] 0
  word : IsBitBehind width.Word [] 0
  dword : IsBitBehind width.Dword [] 0

-- a place with a word of a table: `M 0.0`, `DBX0.0`, `MW 4`
pub data IsPlaceIn : List PlaceWord → Option ℕ → List Token → RawPlace → Type 0 where
  placed : (table : List PlaceWord) (block : Option ℕ) (front rest : List Token) (letters : List ℕ)
      (word : PlaceWord) (byte bit : ℕ) →
      IsNumbered front letters byte → IsAmong word table → is_same_word letters word.word ≡ true
      → IsBitBehind word.width rest bit
      → IsPlaceIn table block (front ++ rest) (place_of block word byte bit)

-- a written place; in a data block that is named by its number no blank is around the point: `DB5.DBW 4`
pub data IsPlace : List Token → RawPlace → Type 0 where
  alone : (tokens : List Token) (place : RawPlace) → IsPlaceIn place_words None tokens place → IsPlace tokens place
  in_block : (front : List Token) (letters : List ℕ) (block : ℕ) (point : Token) (rest : List Token) (place : RawPlace)
      → IsNumbered front letters block → is_same_word letters (codes "DB") ≡ true
      → is_joined (codes ".") point ≡ true → begins_glued rest ≡ true → IsPlaceIn db_words (Some block) rest place
      → IsPlace (front ++ point ∷ rest) place
