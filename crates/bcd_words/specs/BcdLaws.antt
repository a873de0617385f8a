-- Laws of numbers in binary-coded decimal: reading and writing undo each other, for every count of digits.
use Rattle.std.specs.Prelude.{◌≡◌, ◌≢◌, ℕ, ◌*◌, ◌/◌, ◌^◌, ◌⊎◌, ℤ, Some, Ok}
use Rattle.bcd_words.specs.Bcd.{bcd_value, bcd_of}

-- a pattern has a sign that may be written: its sign digit is 0 or 15, and it is not minus zero
pub record HasWrittenSign (count n : ℕ) : Type 0 where
  pub sign : (n / 16 ^ count ≡ 0) ⊎ (n / 16 ^ count ≡ 0xF)
  pub not_minus_zero : n ≢ 0xF * 16 ^ count

-- the pattern that is written for a number reads as the number
abbrev pub ReadsBack : Type 0
ReadsBack = (count n : ℕ) (v : ℤ) → bcd_of count v ≡ Some n → bcd_value count n ≡ Ok v

-- a pattern with a sign that may be written is the one that is written for the number that it reads as
abbrev pub WritesBack : Type 0
WritesBack = (count n : ℕ) (v : ℤ) → HasWrittenSign count n → bcd_value count n ≡ Ok v → bcd_of count v ≡ Some n

-- each pattern that is written has a sign that may be written
abbrev pub WritesNoOther : Type 0
WritesNoOther = (count n : ℕ) (v : ℤ) → bcd_of count v ≡ Some n → HasWrittenSign count n
