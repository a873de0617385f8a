-- Numbers in binary-coded decimal. Each has decimal digits of four bits, under a sign digit.
-- Held against: the manual's chapter 'Conversion'.
use Rattle.std.specs.Prelude.{ℕ, zero, suc, ◌+◌, ◌*◌, ◌/◌, ◌%◌, ◌^◌, Bool, ◌==◌, nat_lt, nat_le, if◌then◌else◌, List, [], ◌∷◌, ◌++◌, ℤ, pos, neg_ℤ, int_lt, unsigned_abs, Option, Some, None, Result, Ok, Err}
use Rattle.std.specs.List.{list_all}
use Rattle.s7_base.specs.declared.outcome.Fault.{Fault}
use Rattle.s7_base.specs.declared.outcome.Fault.TheVariants.{BcdDigit}

-- the lowest digits of n to a base, as many as `count` says, the lowest first
abbrev pub digits : ℕ → ℕ → ℕ → List ℕ
digits base zero n = []
digits base (suc count) n = n % base ∷ digits base count (n / base)

-- the sum of each digit times the power of the base that its position says, the first at `position`
abbrev pub worth_from : ℕ → ℕ → List ℕ → ℕ
worth_from base position [] = 0
worth_from base position (digit ∷ rest) = digit * base ^ position + worth_from base (position + 1) rest

-- the number that digits say to a base, the lowest first
abbrev pub worth : ℕ → List ℕ → ℕ
worth base ds = worth_from base 0 ds

-- each digit is at most 9
abbrev pub are_decimal : List ℕ → Bool
are_decimal ds = list_all (λ digit. nat_le digit 9) ds

-- the top bit of the sign digit, which comes above `count` digits of four bits, is set
abbrev pub is_negative : ℕ → ℕ → Bool
is_negative count n = n / 2 ^ (4 * count + 3) % 2 == 1

-- an amount with its sign
abbrev pub with_sign : Bool → ℕ → ℤ
with_sign negative amount = if negative then neg_ℤ (pos amount) else pos amount

-- the number that a pattern with this many digits says; a fault where a digit is above 9
abbrev pub bcd_value : ℕ → ℕ → Result ℤ Fault
bcd_value count n =
    if are_decimal (digits 16 count n) then Ok (with_sign (is_negative count n) (worth 10 (digits 16 count n)))
    else Err BcdDigit

-- the sign digit that is written for a number
abbrev pub sign_digit : ℤ → ℕ
sign_digit v = if int_lt v (pos 0) then 0xF else 0

-- the pattern of a number in this many digits: those of its amount, and above them the sign digit; none where the
-- amount has more digits
abbrev pub bcd_of : ℕ → ℤ → Option ℕ
bcd_of count v =
    if nat_lt (unsigned_abs v) (10 ^ count) then Some (worth 16 (digits 10 count (unsigned_abs v) ++ sign_digit v ∷ []))
    else None
