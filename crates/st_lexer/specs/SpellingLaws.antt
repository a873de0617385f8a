-- What a canonical text writes for a word, a literal or a place is one token, whatever stands after it
-- that does not go on with it, and stands for what it was written for.
use Rattle.std.specs.Prelude.{◌≡◌, ℕ, ℤ, pos, unsigned_abs, int_lt, Bool, true, false, List, ◌∷◌, ◌++◌, codes, decimal, length, drop, Option, Some, None}
use Rattle.std.specs.List.{list_all}
use Rattle.memory_areas.specs.declared.place.AreaName.{AreaName}
use Rattle.s7_base.specs.Tokens.{is_word_byte}
use Rattle.s7_base.specs.declared.word.Width.{Width}
use Rattle.st_lexer.specs.Direct.{direct_of}
use Rattle.st_lexer.specs.Literals.{base_at, begins_with_digit, literal_at}
use Rattle.st_lexer.specs.Spelled.{ends_word, has_value, is_byte, is_decimal, is_place}
use Rattle.st_tree.specs.Naming.{is_letter}
use Rattle.st_lexer.specs.StTokens.{token}
use Rattle.st_lexer.specs.TokenGrammar.{Stands}
use Rattle.st_lexer.specs.declared.number.Base.TheVariants as base
use Rattle.st_tree.specs.declared.token.StKind.{StKind}
use Rattle.st_tree.specs.declared.token.StKind.TheVariants as sort
use Rattle.st_tree.specs.Spelling.{byte_text, literal_text, place_text}
use Rattle.st_tree.specs.Words.{area_word}
use Rattle.st_tree.specs.declared.expr.StType.{StType}
use Rattle.st_tree.specs.declared.expr.StType.TheVariants as type

-- a text is one token of a sort, whatever comes after it that does not continue it
abbrev pub IsToken : StKind → List ℕ → Type 0
IsToken kind text = (more : List ℕ) → ends_word more ≡ true → Stands (token kind (length text)) text more

-- a letter or `_` and more bytes of a word are a word
abbrev pub WordsAreTokens : Type 0
WordsAreTokens = (b : ℕ) (w : List ℕ) → is_letter b ≡ true → list_all is_word_byte w ≡ true → IsToken sort.Word (b ∷ w)

-- the text of a literal other than TRUE and FALSE has its type and its value
pub record IsLiteral (text : List ℕ) (ty : StType) (n : ℤ) : Type 0 where
  pub is_token : IsToken sort.Literal text
  pub found : literal_at text
      ≡ Some (record { kind = ty; minus = int_lt n (pos 0); number = unsigned_abs n; size = length text })

-- the types with numbers
abbrev pub is_number : StType → Bool
is_number type.Bool = false
is_number other = true

-- a literal of a canonical text is one token with its type and its value: one with its type in front, a
-- plain DINT from 0 on, and a byte of a data block as `16#0A`, which is a DWORD to the base 16 with two
-- digits
pub record LiteralsAreTokens : Type 0 where
  pub typed : (ty : StType) (n : ℤ) → is_number ty ≡ true → has_value ty n ≡ true → IsLiteral (literal_text ty n) ty n
  pub plain : (n : ℕ) → is_decimal n ≡ true → IsLiteral (decimal n) type.Dint (pos n)
  pub in_plain : (n : ℕ) → is_decimal n ≡ true
      → (base_at (decimal n) ≡ base.Ten) × (begins_with_digit base.Ten (decimal n) ≡ true)
  pub byte : (b : ℕ) → is_byte b ≡ true → IsLiteral (byte_text b) type.Dword (pos b)
  pub in_byte : (b : ℕ) → is_byte b ≡ true
      → (base_at (byte_text b) ≡ base.Sixteen) × (length (drop 3 (byte_text b)) ≡ 2)

-- the text of a place after `%` and the letters of its area, or of a data block with its number
abbrev pub place_in : AreaName → Option ℕ → Width → ℕ → ℕ → List ℕ
place_in a None w byte bit = codes "%" ++ area_word a ++ place_text w byte bit
place_in a (Some n) w byte bit = codes "%DB" ++ decimal n ++ codes ".DB" ++ place_text w byte bit

-- the text of a place is a direct variable of it
pub record IsDirect (a : AreaName) (block : Option ℕ) (w : Width) (byte bit : ℕ) : Type 0 where
  pub is_token : IsToken sort.Direct (place_in a block w byte bit)
  pub found : direct_of (place_in a block w byte bit)
      ≡ Some (record {
        area = a;
        block = block;
        width = w;
        byte = byte;
        bit = bit;
        size = length (place_in a block w byte bit);
      })

-- the text of each place with numbers of 32 bits is one token, a direct variable of that place
abbrev pub PlacesAreTokens : Type 0
PlacesAreTokens =
    (a : AreaName) (block : Option ℕ) (w : Width) (byte bit : ℕ) → is_place a block w byte bit ≡ true
    → IsDirect a block w byte bit
