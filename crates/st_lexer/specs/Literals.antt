-- Numbers and literals in a text. Their bases, digits, types and values, at the front of a text.
-- Held against: IEC 61131-3, 'Literals'.
use Rattle.std.specs.Prelude.{ℕ, ◌+◌, ◌-◌, ◌*◌, ◌^◌, min, ℤ, pos, neg_ℤ, Bool, true, false, ◌==◌, ◌&&◌, ◌||◌, nat_lt, nat_le, nat_eq, if◌then◌else◌, List, [], ◌∷◌, length, take, drop, codes, Option, Some, None, option_map}
use Rattle.std.specs.List.{prefix_len, starts_with}
use Rattle.s7_base.specs.Tokens.{is_between, is_word_byte, is_same_word, begins_with}
use Rattle.st_lexer.specs.declared.number.Base.{Base}
use Rattle.st_lexer.specs.declared.number.Base.TheVariants.{Two, Eight, Ten, Sixteen}
use Rattle.st_lexer.specs.declared.number.Number.{Number}
use Rattle.st_lexer.specs.declared.literal.Literal.{Literal}
use Rattle.st_tree.specs.declared.expr.StType.{StType}
use Rattle.st_tree.specs.declared.expr.StType.TheVariants.{Bool as Truth, Byte, Word, Dword, Int, Dint, Lint}

-- Digits

-- the value of a character as a digit: 0 to 9, A to F in any case; 16 for one that is no digit
abbrev pub digit_value : ℕ → ℕ
digit_value b =
    if is_between 48 57 b then b - 48
    else if is_between 65 70 b then b - 55
    else if is_between 97 102 b then b - 87
    else 16

-- how many digits a base has
abbrev pub radix : Base → ℕ
radix Two = 2
radix Eight = 8
radix Ten = 10
radix Sixteen = 16

-- a character is a digit of a base, as 0 to 7 to the base 8; A to F, in any case, to the base 16 alone
abbrev pub is_digit_to : Base → ℕ → Bool
is_digit_to base b = nat_lt (digit_value b) (radix base)

-- a text begins with a digit of a base
abbrev pub begins_with_digit : Base → List ℕ → Bool
begins_with_digit base [] = false
begins_with_digit base (first ∷ rest) = is_digit_to base first

-- how many bytes at the front are digits, or a `_` that a digit follows
abbrev pub digits_size : Base → List ℕ → ℕ
digits_size base [] = 0
digits_size base (first ∷ rest) =
    if is_digit_to base first || (first == 95 && begins_with_digit base rest) then digits_size base rest + 1 else 0

-- a number with one more digit; `_` says nothing, and a number above the greatest of 64 bits is kept as that
abbrev pub with_digit : Base → ℕ → ℕ → ℕ
with_digit base value digit = if digit == 95 then value else min (value * radix base + digit_value digit) (2 ^ 64 - 1)

-- the number of digits after those of `value`
abbrev pub value_from : Base → ℕ → List ℕ → ℕ
value_from base value [] = value
value_from base value (digit ∷ rest) = value_from base (with_digit base value digit) rest

-- Numbers

-- what is written before the digits of a number
abbrev pub mark : Base → List ℕ
mark Two = codes "2#"
mark Eight = codes "8#"
mark Ten = []
mark Sixteen = codes "16#"

-- a text begins with a number to this base: its mark, and a digit after it
abbrev pub stands_to : Base → List ℕ → Bool
stands_to base bytes = starts_with nat_eq bytes (mark base) && begins_with_digit base (drop (length (mark base)) bytes)

-- the base of the number at the front
abbrev pub base_at : List ℕ → Base
base_at bytes =
    if stands_to Sixteen bytes then Sixteen
    else if stands_to Eight bytes then Eight
    else if stands_to Two bytes then Two
    else Ten

-- digits after their mark, and their number
abbrev pub digits_behind : ℕ → Base → List ℕ → Number
digits_behind before base digits =
    let size = digits_size base digits in
    record { value = value_from base 0 (take size digits); size = before + size }

-- the longest number to this base at the front
abbrev pub number_to : Base → List ℕ → Option Number
number_to base bytes =
    if stands_to base bytes then Some (digits_behind (length (mark base)) base (drop (length (mark base)) bytes))
    else None

-- the longest number at the front
abbrev pub number_at : List ℕ → Option Number
number_at bytes = number_to (base_at bytes) bytes

-- Types

-- the greatest number of a type, and that after a `-`
abbrev pub greatest : StType → Bool → ℕ
greatest Truth minus = 1
greatest Byte minus = 255
greatest Word minus = 65535
greatest Dword minus = 4294967295
greatest Int minus = if minus then 32768 else 32767
greatest Dint minus = if minus then 2147483648 else 2147483647
greatest Lint minus = if minus then 9223372036854775808 else 9223372036854775807

-- a `-` may come before a number of the type
abbrev pub is_signed : StType → Bool
is_signed Truth = false
is_signed Byte = false
is_signed Word = false
is_signed Dword = false
is_signed Int = true
is_signed Dint = true
is_signed Lint = true

-- the types of integers, by their words in any case
abbrev pub integer_named : List ℕ → Option StType
integer_named word =
    if is_same_word word (codes "INT") then Some Int
    else if is_same_word word (codes "DINT") then Some Dint
    else if is_same_word word (codes "LINT") then Some Lint
    else None

-- the types, by their words in any case
abbrev pub type_named : List ℕ → Option StType
type_named word =
    if is_same_word word (codes "BOOL") then Some Truth
    else if is_same_word word (codes "BYTE") then Some Byte
    else if is_same_word word (codes "WORD") then Some Word
    else if is_same_word word (codes "DWORD") then Some Dword
    else integer_named word

-- Literals

-- how many bytes the word at the front has
abbrev pub word_size : List ℕ → ℕ
word_size bytes = prefix_len is_word_byte bytes

-- a literal of a type, whose number comes after this many bytes
abbrev pub literal_of_number : StType → Bool → ℕ → Number → Literal
literal_of_number type minus before number =
    record { kind = type; minus = minus; number = number.value; size = before + number.size }

-- a truth value, 1 or 0, by its word after this many bytes of its type
abbrev pub truth_literal : ℕ → List ℕ → ℕ → Literal
truth_literal before word n = record { kind = Truth; minus = false; number = n; size = before + length word }

-- the literal of a word that comes after this many bytes of its type: TRUE or FALSE in any case
abbrev pub truth_named : ℕ → List ℕ → Option Literal
truth_named before word =
    if is_same_word word (codes "TRUE") then Some (truth_literal before word 1)
    else if is_same_word word (codes "FALSE") then Some (truth_literal before word 0)
    else None

-- the first literal, or the second where there is none
abbrev pub or_else : Option Literal → Option Literal → Option Literal
or_else (Some found) other = Some found
or_else None other = other

-- the value of BOOL after this many bytes: TRUE, FALSE or a decimal
abbrev pub truth_behind : ℕ → List ℕ → Option Literal
truth_behind before bytes =
    or_else (truth_named before (take (word_size bytes) bytes))
    (option_map (literal_of_number Truth false before) (number_to Ten bytes))

-- the value of another type: a number with its mark or without one, or a `-` and a decimal
abbrev pub number_behind : StType → ℕ → List ℕ → Option Literal
number_behind type before bytes =
    if is_signed type && begins_with 45 bytes
    then option_map (literal_of_number type true (before + 1)) (number_to Ten (drop 1 bytes))
    else option_map (literal_of_number type false before) (number_at bytes)

-- the value of a type after this many bytes
abbrev pub value_behind : StType → ℕ → List ℕ → Option Literal
value_behind Truth before bytes = truth_behind before bytes
value_behind type before bytes = number_behind type before bytes

-- the type with whose word and `#` a text begins
abbrev pub type_at : List ℕ → Option StType
type_at bytes =
    if begins_with 35 (drop (word_size bytes) bytes) then type_named (take (word_size bytes) bytes) else None

-- the type of a number without a type: a decimal is a DINT, a number with a mark a DWORD
abbrev pub type_of_base : Base → StType
type_of_base Ten = Dint
type_of_base Two = Dword
type_of_base Eight = Dword
type_of_base Sixteen = Dword

-- the literal at the front after a type, or without one
abbrev pub literal_behind : Option StType → List ℕ → Option Literal
literal_behind (Some type) bytes = value_behind type (word_size bytes + 1) (drop (word_size bytes + 1) bytes)
literal_behind None bytes = option_map (literal_of_number (type_of_base (base_at bytes)) false 0) (number_at bytes)

-- the longest literal at the front of a text, whether or not its type has the number
abbrev pub literal_at : List ℕ → Option Literal
literal_at bytes = literal_behind (type_at bytes) bytes

-- the type of a literal has its number
abbrev pub is_in_range : Literal → Bool
is_in_range literal = nat_le literal.number (greatest literal.kind literal.minus)

-- the value of a literal
abbrev pub signed_value : Literal → ℤ
signed_value literal = if literal.minus then neg_ℤ (pos literal.number) else pos literal.number

-- the type and the value of a literal's text
abbrev pub literal_value : List ℕ → Option (StType × ℤ)
literal_value text = option_map (λ literal. (literal.kind, signed_value literal)) (literal_at text)
