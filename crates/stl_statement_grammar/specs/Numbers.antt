-- Hexadecimal and binary numbers. Their digits in a text, and the number that these write.
-- Held against: the manual's chapter 'Load and Transfer'.
use Rattle.std.specs.Prelude.{ℕ, ◌+◌, ◌*◌, ◌-◌, Bool, false, ◌==◌, ◌&&◌, nat_le, nat_lt, if◌then◌else◌, List, [], ◌∷◌, length, get_or, Option, Some, None, option_and_then}
use Rattle.digit_texts.specs.Digits.{hex_value}
use Rattle.s7_base.specs.Tokens.{is_between}
use Rattle.stl_statement_grammar.specs.declared.number.Bits.{Bits}

-- Hexadecimal numbers

-- a number, where it is at most `most`
abbrev pub at_most : ℕ → ℕ → Option ℕ
at_most most value = if nat_le value most then Some value else None

-- a hexadecimal number with one digit more, where it is at most `most`
abbrev pub with_hex_digit : ℕ → ℕ → ℕ → Option ℕ
with_hex_digit most value digit = option_and_then (λ d. at_most most (value * 16 + d)) (hex_value digit)

-- the number of hexadecimal digits after those of `value`, where it is at most `most`
abbrev pub hex_from : ℕ → ℕ → List ℕ → Option ℕ
hex_from most value [] = Some value
hex_from most value (digit ∷ rest) = option_and_then (λ more. hex_from most more rest) (with_hex_digit most value digit)

-- a hexadecimal number of at most `most`; leading zeros are allowed
abbrev pub hex_number : ℕ → List ℕ → Option ℕ
hex_number most [] = None
hex_number most (digit ∷ rest) = hex_from most 0 (digit ∷ rest)

-- Binary numbers

-- a character is 0 or 1
abbrev pub is_bit : ℕ → Bool
is_bit b = is_between 48 49 b

-- binary digits with one more, of which there are at most 32; `_` says nothing
abbrev pub with_next : Bits → ℕ → Option Bits
with_next bits b =
    if b == 95 then Some bits
    else if is_bit b && nat_lt bits.count 32
    then Some (record { count = bits.count + 1; value = bits.value * 2 + (b - 48) })
    else None

-- binary digits with more of them after those before
abbrev pub bits_from : Bits → List ℕ → Option Bits
bits_from bits [] = Some bits
bits_from bits (b ∷ rest) = option_and_then (λ more. bits_from more rest) (with_next bits b)

-- a text begins and ends with a binary digit
abbrev pub has_bits_at_ends : List ℕ → Bool
has_bits_at_ends [] = false
has_bits_at_ends (b ∷ rest) = is_bit b && is_bit (get_or (b ∷ rest) (length rest) 0)

-- at most 32 binary digits; one or more `_` may be between two of them
abbrev pub bits_of : List ℕ → Option Bits
bits_of text = if has_bits_at_ends text then bits_from (record { count = 0; value = 0 }) text else None
