-- The constants that are built, form by form, each as it is written and with its value.
use Rattle.std.specs.Prelude.{◌≡◌, ℕ, ◌+◌, ◌-◌, ◌*◌, ◌^◌, ◌⊎◌, true, List, [], ◌∷◌, codes, Some}
use Rattle.s7_base.specs.declared.token.Token.{Token}
use Rattle.s7_base.specs.declared.word.Width.{Width}
use Rattle.s7_base.specs.declared.word.Width.TheVariants as width
use Rattle.memory_areas.specs.Access.{bits_wide}
use Rattle.stl_statement_grammar.specs.Constants.{Prefixed, addend_prefixes, binary, constant, half, negative, plain, prefixes, text_of, with_byte}
use Rattle.digit_texts.specs.Digits.{number_up_to}
use Rattle.stl_statement_grammar.specs.Numbers.{bits_of, hex_number}
use Rattle.stl_statement_grammar.specs.Words.{is_joined, is_joined_word, is_sign, is_text_kind, is_word, is_word_kind}
use Rattle.stl_statement_grammar.specs.declared.mnemonic.Prefix.{Prefix}
use Rattle.stl_statement_grammar.specs.declared.mnemonic.Prefix.TheVariants as prefix
use Rattle.stl_statement_grammar.specs.declared.number.Bits.{Bits}
use Rattle.stl_tree.specs.declared.raw.Constant.{Constant}

-- the item is one of a list
abbrev pub IsAmong : {A : Type 0} → A → List A → Type 0
IsAmong a [] = ⊥
IsAmong a (first ∷ rest) = (a ≡ first) ⊎ IsAmong a rest

-- the token is a word that is a number of at most `most`
pub record IsNumberIn (most : ℕ) (word : Token) (n : ℕ) : Type 0 where
  pub kind : is_word_kind word.kind ≡ true
  pub number : number_up_to most word.text ≡ Some n

-- a number with its sign, and its pattern: `5`, or `-5` without a blank
pub data IsSigned : Width → List Token → ℕ → Type 0 where
  positive : (w : Width) (word : Token) (n : ℕ) → IsNumberIn (half w - 1) word n → IsSigned w (word ∷ []) n
  minus : (w : Width) (sign word : Token) (n : ℕ) →
      is_sign (codes "-") sign ≡ true → word.glued ≡ true → IsNumberIn (half w) word n
      → IsSigned w (sign ∷ word ∷ []) (negative w n)

-- `16#` and digits, with no blank inside: a number that fits the width
pub record IsHex (w : Width) (base hash digits : Token) (value : ℕ) : Type 0 where
  pub base_is : is_word (codes "16") base ≡ true
  pub base_glued : base.glued ≡ true
  pub hash_is : is_joined (codes "#") hash ≡ true
  pub word : is_joined_word digits ≡ true
  pub number : hex_number (2 ^ bits_wide w - 1) digits.text ≡ Some value

-- two numbers from 0 to 255 with a comma between them, to the base 256
pub record IsPair (high comma low : Token) (value : ℕ) : Type 0 where
  pub a : ℕ
  pub b : ℕ
  pub comma_is : is_sign (codes ",") comma ≡ true
  pub high_is : IsNumberIn 255 high a
  pub low_is : IsNumberIn 255 low b
  pub value_is : with_byte a b ≡ value

-- the tokens after a prefix, and the constant that they are: `L#-5`, `W#16#00FF`, `B#(1,2)`, `B#(1,2,3,4)`,
-- `2#1010_0101`
pub data IsBehind : Prefix → List Token → Constant → Type 0 where
  long : (first : Token) (rest : List Token) (value : ℕ) →
      first.glued ≡ true → IsSigned width.Dword (first ∷ rest) value
      → IsBehind prefix.Long (first ∷ rest) (constant width.Dword value)
  hex : (w : Width) (base hash digits : Token) (value : ℕ) →
      IsHex w base hash digits value → IsBehind (prefix.Hex w) (base ∷ hash ∷ digits ∷ []) (constant w value)
  one_byte : (base hash digits : Token) (value : ℕ) →
      IsHex width.Byte base hash digits value
      → IsBehind prefix.Bytes (base ∷ hash ∷ digits ∷ []) (constant width.Byte value)
  two_bytes : (before a comma b behind : Token) (value : ℕ) →
      is_joined (codes "(") before ≡ true → IsPair a comma b value → is_sign (codes ")") behind ≡ true
      → IsBehind prefix.Bytes (before ∷ a ∷ comma ∷ b ∷ behind ∷ []) (constant width.Word value)
  four_bytes : (before a first b comma c second d behind : Token) (high low : ℕ) →
      is_joined (codes "(") before ≡ true → IsPair a first b high → is_sign (codes ",") comma ≡ true
      → IsPair c second d low → is_sign (codes ")") behind ≡ true
      → IsBehind prefix.Bytes (before ∷ a ∷ first ∷ b ∷ comma ∷ c ∷ second ∷ d ∷ behind ∷ [])
      (constant width.Dword (high * 2 ^ 16 + low))
  digits : (word : Token) (bits : Bits) →
      is_joined_word word ≡ true → bits_of word.text ≡ Some bits → IsBehind prefix.Binary (word ∷ []) (binary bits)

-- a constant with a prefix of a table, with no blank before its `#`
pub data IsPrefixed : List Prefixed → List Token → Constant → Type 0 where
  behind : (table : List Prefixed) (row : Prefixed) (first hash : Token) (rest : List Token) (c : Constant) →
      IsAmong row table → is_word row.word first ≡ true → is_joined (codes "#") hash ≡ true
      → IsBehind row.what rest c → IsPrefixed table (first ∷ hash ∷ rest) c

-- a number that is added: `5` or `L#5`
pub data IsAddend : List Token → Constant → Type 0 where
  word : (tokens : List Token) (value : ℕ) → IsSigned width.Word tokens value → IsAddend tokens (plain value)
  dword : (tokens : List Token) (c : Constant) → IsPrefixed addend_prefixes tokens c → IsAddend tokens c

-- a constant: a plain number, one with a prefix, or one to four characters in quotes
pub data IsConstant : List Token → Constant → Type 0 where
  number : (tokens : List Token) (value : ℕ) → IsSigned width.Word tokens value → IsConstant tokens (plain value)
  prefixed_word : (tokens : List Token) (c : Constant) → IsPrefixed prefixes tokens c → IsConstant tokens c
  text : (token : Token) (c : Constant) →
      is_text_kind token.kind ≡ true → text_of token.text ≡ Some c → IsConstant (token ∷ []) c

-- a number from 0 to a greatest one as it is written: `5`, or `-0` without a blank
pub data IsUpTo : ℕ → List Token → ℕ → Type 0 where
  unsigned : (most : ℕ) (word : Token) (n : ℕ) → IsNumberIn most word n → IsUpTo most (word ∷ []) n
  minus_zero : (most : ℕ) (sign zero : Token) (n : ℕ) →
      is_sign (codes "-") sign ≡ true → zero.glued ≡ true → IsNumberIn 0 zero n → IsUpTo most (sign ∷ zero ∷ []) n
