-- The names of blocks. A block is named by its kind and its number, or by a name in quotes.
-- Held against: this project's own source form.
use Rattle.std.specs.Prelude.{ℕ, Bool, false, ◌&&◌, ◌||◌, if◌then◌else◌, List, [], ◌∷◌, length, take, drop, codes, Option, None, option_map}
use Rattle.digit_texts.specs.Digits.{are_digits, kept_number}
use Rattle.s7_base.specs.Tokens.{is_same_word}
use Rattle.s7_base.specs.declared.token.Token.{Token}
use Rattle.stl_statement_grammar.specs.Paths.{number_word}
use Rattle.stl_statement_grammar.specs.Readers.{fitting}
use Rattle.stl_statement_grammar.specs.Words.{is_quoted_kind, is_word, is_word_kind}
use Rattle.stl_statement_grammar.specs.declared.mnemonic.Read.{Read}
use Rattle.stl_statement_grammar.specs.declared.mnemonic.Read.TheVariants as read
use Rattle.stl_tree.specs.declared.raw.BlockKind.{BlockKind}
use Rattle.stl_tree.specs.declared.raw.BlockKind.TheVariants as block
use Rattle.stl_tree.specs.declared.raw.RawName.{RawName}
use Rattle.stl_tree.specs.declared.raw.RawName.TheVariants.{Name, Number}

-- the word before the number of a block
abbrev pub kind_word : BlockKind → List ℕ
kind_word block.Ob = codes "OB"
kind_word block.Fc = codes "FC"
kind_word block.Fb = codes "FB"
kind_word block.Db = codes "DB"

-- the token is this word and a number, without a blank
abbrev pub is_numbered : List ℕ → Token → Bool
is_numbered word token =
    is_word_kind token.kind && is_same_word (take (length word) token.text) word
    && are_digits (drop (length word) token.text)

-- the tokens begin with a number
abbrev pub begins_with_number : List Token → Bool
begins_with_number [] = false
begins_with_number (first ∷ rest) = is_word_kind first.kind && are_digits first.text

-- the tokens are a word with a number, `UDT 5` or `UDT5`
abbrev pub has_number : List ℕ → Token → List Token → Bool
has_number word first rest = (is_word word first && begins_with_number rest) || is_numbered word first

-- the number after the word of a kind
abbrev pub number_behind : List Token → Option ℕ
number_behind [] = None
number_behind (number ∷ rest) = number_word number

-- the number in a word that begins with the word of a kind
abbrev pub number_within : List ℕ → Token → Option ℕ
number_within kind word = if is_numbered kind word then kept_number (drop (length kind) word.text) else None

-- a block by its number: `OB 1` or `OB1`
abbrev pub number_named : List ℕ → Token → List Token → Read RawName
number_named kind first rest =
    if is_word kind first
    then fitting 2 (option_map Number (number_behind rest))
    else fitting 1 (option_map Number (number_within kind first))

-- the name at a place where a block of this kind is named: its number, or a name in quotes
abbrev pub name_at : List ℕ → List Token → Read RawName
name_at kind [] = read.No
name_at kind (first ∷ rest) =
    if is_quoted_kind first.kind then read.Fits (Name first.text) 1 else number_named kind first rest
