-- Constants as they are written. Their forms with widths and values, and the forms that are left out.
-- Held against: the manual's chapter 'Load and Transfer'.
use Rattle.std.specs.Prelude.{ℕ, ◌+◌, ◌-◌, ◌*◌, ◌^◌, pos, neg_ℤ, Bool, true, false, ◌==◌, ◌&&◌, ◌||◌, nat_lt, nat_le, if◌then◌else◌, List, [], ◌∷◌, map, drop, codes, Option, Some, None, option_and_then, option_map}
use Rattle.std.specs.Char.{to_ascii_uppercase}
use Rattle.std.specs.List.{find}
use Rattle.s7_base.specs.SignedNumbers.{pattern}
use Rattle.s7_base.specs.declared.reason.Kind.TheVariants as kind
use Rattle.s7_base.specs.declared.token.Token.{Token}
use Rattle.s7_base.specs.declared.word.Width.{Width}
use Rattle.s7_base.specs.declared.word.Width.TheVariants as width
use Rattle.memory_areas.specs.Access.{bits_wide}
use Rattle.stl_tree.specs.Accumulators.{signed_part}
use Rattle.digit_texts.specs.Digits.{are_digits, digits_size}
use Rattle.stl_statement_grammar.specs.Numbers.{bits_of, hex_number}
use Rattle.stl_statement_grammar.specs.Readers.{fitting, number_in, or_else, read_as}
use Rattle.stl_statement_grammar.specs.Words.{is_joined, is_joined_word, is_sign, is_text_kind, is_word, is_word_kind}
use Rattle.stl_statement_grammar.specs.declared.mnemonic.Prefix.{Prefix}
use Rattle.stl_statement_grammar.specs.declared.mnemonic.Prefix.TheVariants as prefix
use Rattle.stl_statement_grammar.specs.declared.mnemonic.Read.{Read}
use Rattle.stl_statement_grammar.specs.declared.mnemonic.Read.TheVariants.{LeftOut, No}
use Rattle.stl_statement_grammar.specs.declared.number.Bits.{Bits}
use Rattle.stl_tree.specs.declared.raw.Constant.{Constant}

-- a constant of a width
abbrev pub constant : Width → ℕ → Constant
constant w value = record { width = w; signed = false; binary = false; value = value }

-- a plain number, by its pattern
abbrev pub plain : ℕ → Constant
plain value = record { width = width.Word; signed = true; binary = false; value = value }

-- Numbers with a sign

-- half of the number of patterns of a width: numbers with a sign go from -half to half - 1
abbrev pub half : Width → ℕ
half w = 2 ^ (bits_wide w - 1)

-- the pattern of a negative number
abbrev pub negative : Width → ℕ → ℕ
negative w n = pattern (bits_wide w) (neg_ℤ (pos n))

-- the pattern of a negative number after a minus, with no blank before its digits
abbrev pub negative_behind : Width → List Token → Option ℕ
negative_behind w [] = None
negative_behind w (token ∷ rest) = if token.glued then option_map (negative w) (number_in (half w) token) else None

-- the pattern of a number with its sign, after this many tokens
abbrev pub signed_at : ℕ → Width → List Token → Read ℕ
signed_at before w [] = No
signed_at before w (first ∷ rest) =
    if is_sign (codes "-") first
    then fitting (before + 2) (negative_behind w rest)
    else fitting (before + 1) (number_in (half w - 1) first)

-- Hexadecimal numbers and bytes in brackets

-- `16#` and digits, with no blank inside: a number that fits the width
abbrev pub hex_of : Width → Token → Token → Token → Option Constant
hex_of w base hash digits =
    if is_word (codes "16") base && base.glued && is_joined (codes "#") hash && is_joined_word digits
    then option_map (constant w) (hex_number (2 ^ bits_wide w - 1) digits.text)
    else None

abbrev pub hex_behind : Width → List Token → Read Constant
hex_behind w [] = No
hex_behind w (a ∷ []) = No
hex_behind w (a ∷ b ∷ []) = No
hex_behind w (base ∷ hash ∷ digits ∷ rest) = fitting 5 (hex_of w base hash digits)

-- a number to the base 256 with one digit more
abbrev pub with_byte : ℕ → ℕ → ℕ
with_byte value b = value * 256 + b

-- two numbers from 0 to 255 with a comma between them, to the base 256
abbrev pub pair_of : Token → Token → Token → Option ℕ
pair_of high comma low =
    if is_sign (codes ",") comma
    then option_and_then (λ a. option_map (λ b. with_byte a b) (number_in 255 low)) (number_in 255 high)
    else None

-- two bytes in brackets, `(a,b)`
abbrev pub two_bytes : Token → Token → Token → Token → Token → Option Constant
two_bytes before a comma b behind =
    if is_joined (codes "(") before && is_sign (codes ")") behind
    then option_map (constant width.Word) (pair_of a comma b)
    else None

abbrev pub two_behind : List Token → Read Constant
two_behind (before ∷ a ∷ comma ∷ b ∷ behind ∷ rest) = fitting 7 (two_bytes before a comma b behind)
two_behind fewer = No

-- four bytes in brackets, `(a,b,c,d)`, by its two halves
abbrev pub four_bytes : Token → Option ℕ → Token → Option ℕ → Token → Option Constant
four_bytes before high comma low behind =
    if is_joined (codes "(") before && is_sign (codes ",") comma && is_sign (codes ")") behind
    then option_and_then (λ h. option_map (λ l. constant width.Dword (h * 2 ^ 16 + l)) low) high
    else None

abbrev pub four_behind : List Token → Read Constant
four_behind (before ∷ a ∷ comma ∷ b ∷ second ∷ c ∷ third ∷ d ∷ behind ∷ rest) =
    fitting 11 (four_bytes before (pair_of a comma b) second (pair_of c third d) behind)
four_behind fewer = No

-- Binary numbers

-- the least width that has room for this many digits
abbrev pub room_for : ℕ → Width
room_for count = if nat_le count 8 then width.Byte else if nat_le count 16 then width.Word else width.Dword

-- a binary constant, by its digits
abbrev pub binary : Bits → Constant
binary bits = record { width = room_for bits.count; signed = false; binary = true; value = bits.value }

-- binary digits, with no blank before them
abbrev pub binary_of : Token → Option Constant
binary_of digits = if is_joined_word digits then option_map binary (bits_of digits.text) else None

abbrev pub binary_behind : List Token → Read Constant
binary_behind [] = No
binary_behind (digits ∷ rest) = fitting 3 (binary_of digits)

-- Prefixes

-- the constant after `L#`
abbrev pub long_behind : List Token → Read Constant
long_behind [] = No
long_behind (first ∷ rest) =
    if first.glued then read_as (constant width.Dword) (signed_at 2 width.Dword (first ∷ rest)) else No

-- the tokens after `P#`: with another `#` they are a pointer to a name, which is not supported
abbrev pub name_behind : List Token → Read Constant
name_behind [] = No
name_behind (hash ∷ rest) = if is_joined (codes "#") hash then LeftOut kind.NamePointer else No

-- the constant after a prefix
abbrev pub behind_prefix : Prefix → List Token → Read Constant
behind_prefix prefix.Long rest = long_behind rest
behind_prefix (prefix.Hex w) rest = hex_behind w rest
behind_prefix prefix.Bytes rest = or_else (hex_behind width.Byte rest) (or_else (two_behind rest) (four_behind rest))
behind_prefix prefix.Binary rest = binary_behind rest
behind_prefix prefix.Pointer rest = name_behind rest
behind_prefix (prefix.LeftOut kind) rest = LeftOut kind

-- a word before a `#`, and what follows the `#`
pub record Prefixed : Type 0 where
  pub word : List ℕ
  pub what : Prefix

abbrev pub prefixed_word : Prefix → List ℕ → Prefixed
prefixed_word what word = record { word = word; what = what }

-- the prefixes of constants that are not supported: counts, pointers to names, times and dates; other pointers are
-- read apart
abbrev pub left_out_prefixes : List Prefixed
left_out_prefixes =
    prefixed_word (prefix.LeftOut kind.Counter) (codes "C") ∷ prefixed_word prefix.Pointer (codes "P")
    ∷ map (prefixed_word (prefix.LeftOut kind.DateTime))
    (codes "T" ∷ codes "TIME" ∷ codes "S5T" ∷ codes "S5TIME" ∷ codes "D" ∷ codes "DATE" ∷ codes "TOD" ∷ codes "DT" ∷ [])

-- the prefix of constants that can be added: that of a double word
abbrev pub addend_prefixes : List Prefixed
addend_prefixes = prefixed_word prefix.Long (codes "L") ∷ left_out_prefixes

-- all prefixes
abbrev pub prefixes : List Prefixed
prefixes =
    prefixed_word prefix.Bytes (codes "B") ∷ prefixed_word (prefix.Hex width.Word) (codes "W")
    ∷ prefixed_word (prefix.Hex width.Dword) (codes "DW") ∷ prefixed_word prefix.Binary (codes "2") ∷ addend_prefixes

-- the tokens begin with the prefix, with no blank before its `#`
abbrev pub has_prefix : List Token → Prefixed → Bool
has_prefix [] row = false
has_prefix (first ∷ []) row = false
has_prefix (first ∷ hash ∷ rest) row = is_word row.word first && is_joined (codes "#") hash

abbrev pub prefixed_by : Option Prefixed → List Token → Read Constant
prefixed_by None tokens = No
prefixed_by (Some row) tokens = behind_prefix row.what (drop 2 tokens)

-- a constant with a prefix of a table
abbrev pub prefixed_at : List Prefixed → List Token → Read Constant
prefixed_at table tokens = prefixed_by (find (has_prefix tokens) table) tokens

-- Real constants

-- the tokens are a sign and the digits of an exponent, with no blank before either
abbrev pub is_signed_exponent : List Token → Bool
is_signed_exponent (sign ∷ digits ∷ rest) =
    (is_joined (codes "+") sign || is_joined (codes "-") sign) && is_joined_word digits && are_digits digits.text
is_signed_exponent fewer = false

-- the digits of an exponent follow, in the word of its E, or after a sign
abbrev pub is_exponent : List ℕ → List Token → Bool
is_exponent [] rest = is_signed_exponent rest
is_exponent (digit ∷ digits) rest = are_digits (digit ∷ digits)

-- a real constant may end after these digits after its point: nothing or an exponent follows
abbrev pub ends_real : List ℕ → List Token → Bool
ends_real [] rest = true
ends_real (letter ∷ more) rest = to_ascii_uppercase letter == 69 && is_exponent more rest

-- a text is digits after a point, with or without an exponent
abbrev pub is_fraction : List ℕ → List Token → Bool
is_fraction text rest =
    let size = digits_size text in nat_lt 0 size && ends_real (drop size text) rest

-- the tokens are digits, a point and digits, with no blank inside
abbrev pub is_real : List Token → Bool
is_real (whole ∷ point ∷ part ∷ rest) =
    is_word_kind whole.kind && are_digits whole.text && is_joined (codes ".") point && is_joined_word part
    && is_fraction part.text rest
is_real fewer = false

-- there is a first token, with no blank before it
abbrev pub begins_glued : List Token → Bool
begins_glued [] = false
begins_glued (first ∷ rest) = first.glued

-- the tokens begin with a real constant; a minus may come before it
abbrev pub begins_real : List Token → Bool
begins_real [] = false
begins_real (first ∷ rest) =
    if is_sign (codes "-") first then begins_glued rest && is_real rest else is_real (first ∷ rest)

abbrev pub real_at : List Token → Read Constant
real_at tokens = if begins_real tokens then LeftOut kind.Real else No

-- Constants

-- characters in quotes, as a number to the base 256
abbrev pub text_of : List ℕ → Option Constant
text_of (a ∷ []) = Some (constant width.Byte a)
text_of (a ∷ b ∷ []) = Some (constant width.Word (with_byte a b))
text_of (a ∷ b ∷ c ∷ []) = Some (constant width.Dword (with_byte (with_byte a b) c))
text_of (a ∷ b ∷ c ∷ d ∷ []) = Some (constant width.Dword (with_byte (with_byte (with_byte a b) c) d))
text_of other = None

-- characters in single quotes, as a token
abbrev pub text_in : Token → Option Constant
text_in token = if is_text_kind token.kind then text_of token.text else None

abbrev pub text_at : List Token → Read Constant
text_at [] = No
text_at (first ∷ rest) = fitting 1 (text_in first)

-- a plain number
abbrev pub plain_at : List Token → Read Constant
plain_at tokens = read_as plain (signed_at 0 width.Word tokens)

-- a constant with a prefix of a table, or a real one
abbrev pub marked_at : List Prefixed → List Token → Read Constant
marked_at table tokens = or_else (prefixed_at table tokens) (real_at tokens)

-- the constant at a place where any constant may be written
abbrev pub constant_at : List Token → Read Constant
constant_at tokens = or_else (text_at tokens) (or_else (marked_at prefixes tokens) (plain_at tokens))

-- the constant at a place where `+` takes a number
abbrev pub addend_at : List Token → Read Constant
addend_at tokens = or_else (marked_at addend_prefixes tokens) (plain_at tokens)

-- the number 0 after a minus, with no blank between them
abbrev pub zero_behind : List Token → Option ℕ
zero_behind [] = None
zero_behind (token ∷ rest) = if token.glued then number_in 0 token else None

-- a number from 0 to a greatest one; `-0` is 0
abbrev pub up_to : ℕ → List Token → Read ℕ
up_to most [] = No
up_to most (first ∷ rest) =
    if is_sign (codes "-") first then fitting 2 (zero_behind rest) else fitting 1 (number_in most first)

-- the constant at a place where a number from 0 to a greatest one may be written
abbrev pub number_at : ℕ → List Token → Read Constant
number_at most tokens = or_else (marked_at left_out_prefixes tokens) (read_as plain (up_to most tokens))

-- a truth value by its word
abbrev pub truth : Token → Option Constant
truth word =
    if is_word (codes "TRUE") word then Some (constant width.Bit 1)
    else if is_word (codes "FALSE") word then Some (constant width.Bit 0)
    else None

-- the constant `TRUE` or `FALSE`
abbrev pub truth_at : List Token → Read Constant
truth_at [] = No
truth_at (first ∷ rest) = fitting 1 (truth first)

-- a constant of a width fits another one: a binary one each greater width, a plain number a double word
abbrev pub fits_as : Width → Width → Constant → Bool
fits_as width.Byte width.Byte c = true
fits_as width.Word width.Word c = true
fits_as width.Dword width.Dword c = true
fits_as width.Word width.Byte c = c.binary
fits_as width.Dword width.Byte c = c.binary
fits_as width.Dword width.Word c = c.binary || c.signed
fits_as other its c = false

-- a constant fits a width
abbrev pub fits : Width → Constant → Bool
fits w c = fits_as w c.width c

-- the value of a constant in a width: a plain number in a double word has its sign extended
abbrev pub value_in : Width → Constant → ℕ
value_in width.Dword c = if c.signed then pattern 32 (signed_part width.Word c.value) else c.value
value_in w c = c.value
