-- Digits in texts and their numbers. Digits are decimal or hexadecimal; a number is kept within 32 bits, or has a
-- bound.
-- Held against: this project's own digits.
use Rattle.std.specs.Prelude.{ℕ, ◌+◌, ◌*◌, ◌-◌, ◌^◌, min, Bool, false, ◌&&◌, nat_le, nat_lt, if◌then◌else◌, List, [], ◌∷◌, Option, Some, None}
use Rattle.std.specs.List.{list_all, prefix_len}
use Rattle.s7_base.specs.Tokens.{is_between}

-- Decimal digits

-- a byte is a decimal digit
abbrev pub is_digit : ℕ → Bool
is_digit b = is_between 48 57 b

-- one or more digits, and nothing else
abbrev pub are_digits : List ℕ → Bool
are_digits [] = false
are_digits (digit ∷ rest) = list_all is_digit (digit ∷ rest)

-- how many digits a text begins with
abbrev pub digits_size : List ℕ → ℕ
digits_size text = prefix_len is_digit text

-- Decimal numbers

-- the number that digits write after those of a number
abbrev pub written_from : ℕ → List ℕ → ℕ
written_from before [] = before
written_from before (digit ∷ rest) = written_from (before * 10 + (digit - 48)) rest

-- a number that is kept in 32 bits; one above 4,294,967,295 is kept as that number
abbrev pub capped_number : ℕ → ℕ
capped_number n = min n (2 ^ 32 - 1)

-- a number of any size, kept in 32 bits; leading zeros are allowed
abbrev pub kept_number : List ℕ → Option ℕ
kept_number digits = if are_digits digits then Some (capped_number (written_from 0 digits)) else None

-- the number that digits write after those of a number, where it is at most `most`
abbrev pub bounded_from : ℕ → ℕ → List ℕ → Option ℕ
bounded_from most before [] = Some before
bounded_from most before (digit ∷ rest) =
    let more = before * 10 + (digit - 48) in
    if is_digit digit && nat_le more most then bounded_from most more rest else None

-- a number of at most `most`; leading zeros are allowed
abbrev pub number_up_to : ℕ → List ℕ → Option ℕ
number_up_to most [] = None
number_up_to most (digit ∷ rest) = bounded_from most 0 (digit ∷ rest)

-- Hexadecimal digits

-- the value of a hexadecimal digit, A to F in either case
abbrev pub hex_value : ℕ → Option ℕ
hex_value b =
    if is_digit b then Some (b - 48)
    else if is_between 65 70 b then Some (b - 55)
    else if is_between 97 102 b then Some (b - 87)
    else None

-- the hexadecimal digit of a value, a capital
abbrev pub hex_digit : ℕ → ℕ
hex_digit n = if nat_lt n 10 then 48 + n else 55 + n
