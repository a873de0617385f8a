-- Places as they are written. The word of an area and a width, the number of a byte and, of a bit, its number; before
-- a place of DB the number of its block may be written. Numbers are of any size: whether a place is in its area is
-- judged later.
-- Held against: the manual's chapters 'Bit Logic', 'Load and Transfer' and 'Data Block'.
use Rattle.std.specs.Prelude.{ℕ, Bool, not, ◌&&◌, if◌then◌else◌, List, [], ◌∷◌, ◌++◌, take, drop, codes, Option, Some, None, option_map}
use Rattle.std.specs.List.{find, prefix_len}
use Rattle.memory_areas.specs.declared.place.AreaName.{AreaName}
use Rattle.memory_areas.specs.declared.place.AreaName.TheVariants as area
use Rattle.s7_base.specs.Tokens.{is_same_word}
use Rattle.s7_base.specs.declared.token.Token.{Token}
use Rattle.s7_base.specs.declared.word.Width.{Width}
use Rattle.s7_base.specs.declared.word.Width.TheVariants as width
use Rattle.stl_statement_grammar.specs.Constants.{begins_glued}
use Rattle.digit_texts.specs.Digits.{is_digit, kept_number}
use Rattle.stl_statement_grammar.specs.Readers.{and_then, fitting, further, or_else, read_as}
use Rattle.stl_statement_grammar.specs.Words.{is_joined, is_joined_word, is_word_kind}
use Rattle.stl_statement_grammar.specs.declared.mnemonic.Read.{Read}
use Rattle.stl_statement_grammar.specs.declared.mnemonic.Read.TheVariants.{Fits, No}
use Rattle.stl_tree.specs.declared.raw.RawPlace.{RawPlace}

-- Letters and a number

-- letters with a number after them
pub record Numbered : Type 0 where
  pub letters : List ℕ
  pub number : ℕ

-- a byte is no digit
abbrev pub is_no_digit : ℕ → Bool
is_no_digit b = not (is_digit b)

-- the bytes of a word before its first digit
abbrev pub letters_of : List ℕ → List ℕ
letters_of text = take (prefix_len is_no_digit text) text

-- the bytes of a word from its first digit on
abbrev pub digits_of : List ℕ → List ℕ
digits_of text = drop (prefix_len is_no_digit text) text

-- letters, with the number of these digits
abbrev pub with_number : List ℕ → List ℕ → Option Numbered
with_number letters digits = option_map (λ n. record { letters = letters; number = n }) (kept_number digits)

-- letters, with the number in a token
abbrev pub with_word : List ℕ → Token → Option Numbered
with_word letters token = if is_word_kind token.kind then with_number letters token.text else None

-- letters with the digits after them in their word, or with the number in the next one
abbrev pub number_behind : List ℕ → List ℕ → List Token → Read Numbered
number_behind letters (digit ∷ digits) rest = fitting 1 (with_number letters (digit ∷ digits))
number_behind letters [] [] = No
number_behind letters [] (next ∷ rest) = fitting 2 (with_word letters next)

-- letters and a number: `MB5` or `MB 5`
abbrev pub numbered_at : List Token → Read Numbered
numbered_at [] = No
numbered_at (first ∷ rest) =
    if is_word_kind first.kind then number_behind (letters_of first.text) (digits_of first.text) rest else No

-- Places

-- the word of an area and a width
pub record PlaceWord : Type 0 where
  pub word : List ℕ
  pub area : AreaName
  pub width : Width

abbrev pub word_of : AreaName → Width → List ℕ → PlaceWord
word_of name w word = record { word = word; area = name; width = w }

-- the words of DB
abbrev pub db_words : List PlaceWord
db_words =
    word_of area.Db width.Bit (codes "DBX") ∷ word_of area.Db width.Byte (codes "DBB")
    ∷ word_of area.Db width.Word (codes "DBW") ∷ word_of area.Db width.Dword (codes "DBD") ∷ []

-- the words of all areas
abbrev pub place_words : List PlaceWord
place_words =
    db_words
    ++ (word_of area.I width.Bit (codes "I") ∷ word_of area.I width.Byte (codes "IB")
    ∷ word_of area.I width.Word (codes "IW") ∷ word_of area.I width.Dword (codes "ID")
    ∷ word_of area.Q width.Bit (codes "Q") ∷ word_of area.Q width.Byte (codes "QB")
    ∷ word_of area.Q width.Word (codes "QW") ∷ word_of area.Q width.Dword (codes "QD")
    ∷ word_of area.M width.Bit (codes "M") ∷ word_of area.M width.Byte (codes "MB")
    ∷ word_of area.M width.Word (codes "MW") ∷ word_of area.M width.Dword (codes "MD")
    ∷ word_of area.L width.Bit (codes "L") ∷ word_of area.L width.Byte (codes "LB")
    ∷ word_of area.L width.Word (codes "LW") ∷ word_of area.L width.Dword (codes "LD")
    ∷ word_of area.Di width.Bit (codes "DIX") ∷ word_of area.Di width.Byte (codes "DIB")
    ∷ word_of area.Di width.Word (codes "DIW") ∷ word_of area.Di width.Dword (codes "DID") ∷ [])

-- the letters are those of a word, in any case
abbrev pub has_letters : List ℕ → PlaceWord → Bool
has_letters letters row = is_same_word letters row.word

-- a point and the number of a bit, with no blank before either
abbrev pub bit_number : Token → Token → Option ℕ
bit_number point bit = if is_joined (codes ".") point && is_joined_word bit then kept_number bit.text else None

abbrev pub bit_at : List Token → Read ℕ
bit_at [] = No
bit_at (a ∷ []) = No
bit_at (point ∷ bit ∷ rest) = fitting 2 (bit_number point bit)

-- the number of a bit after that of a byte: a point and a number where the width is a bit, else 0 of no tokens
abbrev pub bit_behind : Width → List Token → Read ℕ
bit_behind width.Bit tokens = bit_at tokens
bit_behind other tokens = Fits 0 0

-- the place of a word, by its byte and its bit
abbrev pub place_of : Option ℕ → PlaceWord → ℕ → ℕ → RawPlace
place_of block word byte bit = record { block = block; area = word.area; width = word.width; byte = byte; bit = bit }

-- a place by its word, the number of its byte and what follows it
abbrev pub place_by : Option ℕ → Option PlaceWord → ℕ → List Token → Read RawPlace
place_by block None byte tokens = No
place_by block (Some word) byte tokens = read_as (place_of block word byte) (bit_behind word.width tokens)

-- a place with a word of a table; in a data block where its number comes before it
abbrev pub place_in : List PlaceWord → Option ℕ → List Token → Read RawPlace
place_in table block tokens =
    and_then tokens (numbered_at tokens)
    (λ found rest. place_by block (find (has_letters found.letters) table) found.number rest)

-- a place of DB after the number of its data block: a point and the place, with no blank before either
abbrev pub place_behind : ℕ → List Token → Read RawPlace
place_behind block [] = No
place_behind block (point ∷ rest) =
    if is_joined (codes ".") point && begins_glued rest then further 1 (place_in db_words (Some block) rest) else No

-- Data blocks

-- the area that `DB` or `DI` opens
abbrev pub opened_area : List ℕ → Option AreaName
opened_area letters =
    if is_same_word letters (codes "DB") then Some area.Db
    else if is_same_word letters (codes "DI") then Some area.Di
    else None

-- a place in a data block, by the number before it: `DB5.DBW 4`
abbrev pub block_place_at : List Token → Read RawPlace
block_place_at tokens =
    and_then tokens (numbered_at tokens)
    (λ found rest. if is_same_word found.letters (codes "DB") then place_behind found.number rest else No)

-- a written place
abbrev pub place_at : List Token → Read RawPlace
place_at tokens = or_else (place_in place_words None tokens) (block_place_at tokens)
