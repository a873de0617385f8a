-- The parts of pointers of 32 bits. A pointer has an area code, a byte and a bit; sums of pointers count on in byte
-- and bit alone.
-- Held against: the manual's chapters 'Load and Transfer' and 'Accumulator Instructions'.
use Rattle.std.specs.Prelude.{ℕ, ◌+◌, ◌*◌, ◌/◌, ◌%◌, ◌^◌, ℤ, pos, ◌+ℤ◌, unsigned_abs}
use Rattle.std.specs.Int.{int_rem_euclid}

-- the bit number of a pointer, 0 to 7: its bits 0 to 2
abbrev pub bit_of_pointer : ℕ → ℕ
bit_of_pointer p = p % 8

-- the byte number of a pointer, 0 to 65,535: its bits 3 to 18; bits 19 to 23 say nothing
abbrev pub byte_of_pointer : ℕ → ℕ
byte_of_pointer p = p / 8 % 2 ^ 16

-- the area code of a pointer of 32 bits: its bits 24 to 31
abbrev pub code_of_pointer : ℕ → ℕ
code_of_pointer p = p / 2 ^ 24

-- the pointer of an access with an offset: the byte and bit number, which are the lowest 19 bits, are increased
-- without a carry into the bits above, which stay
abbrev pub with_offset : ℕ → ℕ → ℕ
with_offset p offset = p / 2 ^ 19 * 2 ^ 19 + (p % 2 ^ 19 + offset) % 2 ^ 19

-- the pointer after an amount is added to an address register: the lowest 24 bits are the sum modulo
-- 2 ^ 24, and the area code stays
abbrev pub pointer_plus : ℕ → ℤ → ℕ
pointer_plus p amount = p / 2 ^ 24 * 2 ^ 24 + unsigned_abs (int_rem_euclid (pos (p % 2 ^ 24) +ℤ amount) (pos (2 ^ 24)))
