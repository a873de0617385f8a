-- Status bits after a result. What calculations, comparisons, conversions, shifts and word logic make of the bits of
-- the status word.
-- Held against: the manual's chapters 'Integer Math', 'Comparison', 'Conversion', 'Shift and Rotate' and 'Word
-- Logic'.
use Rattle.std.specs.Prelude.{ℤ, pos, int_lt, Bool, true, false, ◌||◌}
use Rattle.status_word.specs.StatusBits.{StatusBits}

-- the sign flags of a value, CC1 before CC0: 10 where it is greater than zero, 01 where less, 00 where zero
abbrev pub with_sign : ℤ → StatusBits → StatusBits
with_sign v s = record s { cc1 = int_lt (pos 0) v; cc0 = int_lt v (pos 0) }

-- the status bits after a calculation: an overflow sets OV and OS; without one OV is 0 and OS is kept
abbrev pub with_overflow : Bool → StatusBits → StatusBits
with_overflow over s = record s { ov = over; os = s.os || over }

-- the status bits after a calculation, by the value whose sign is shown, and whether it overflowed
abbrev pub after_signed : ℤ → Bool → StatusBits → StatusBits
after_signed v over s = with_overflow over (with_sign v s)

-- the status bits after a division by 0
abbrev pub after_zero_divisor : StatusBits → StatusBits
after_zero_divisor s = record s { cc1 = true; cc0 = true; ov = true; os = true }

-- the status bits after ITB or DTB, by whether the number is out of range
abbrev pub after_converted : Bool → StatusBits → StatusBits
after_converted over s = with_overflow over s

-- the status bits after a comparison of the number a in ACCU2 with b in ACCU1, by its result; CC1 before CC0: 10
-- where a is greater, 01 where less, 00 where they are equal
abbrev pub after_compared : ℤ → ℤ → Bool → StatusBits → StatusBits
after_compared a b holds s =
    record s { rlo = holds; cc1 = int_lt b a; cc0 = int_lt a b; ov = false; orb = false; sta = holds; nfc = true }

-- the status bits after a shift or a rotation by one bit or more, by the last bit that was shifted out
abbrev pub after_shifted : Bool → StatusBits → StatusBits
after_shifted out s = record s { cc1 = out; cc0 = false; ov = false }

-- the status bits after word logic, by whether its result is other than zero
abbrev pub after_logic : Bool → StatusBits → StatusBits
after_logic nonzero s = record s { cc1 = nonzero; cc0 = false; ov = false }
