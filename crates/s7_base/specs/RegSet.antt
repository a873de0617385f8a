-- The numbers of registers. A set of registers is a number too, in which each register has the bit of its own number.
-- Held against: this project's own register variables.
use Rattle.std.specs.Prelude.{◌≡◌, ℕ, Bool, ◌==◌}
use Rattle.std.specs.Int.{bit_at}
use Rattle.s7_base.specs.declared.register.Reg.{Reg}
use Rattle.s7_base.specs.declared.register.Reg.TheVariants as reg
use Rattle.s7_base.specs.declared.register.RegSet.{RegSet}

-- the number of a register, which is also the place of its bit in a set
abbrev pub place : Reg → ℕ
place reg.Accu1 = 0
place reg.Accu2 = 1
place reg.Ar1 = 2
place reg.Ar2 = 3
place reg.DbNo = 4
place reg.DiNo = 5
place reg.Nfc = 6
place reg.Rlo = 7
place reg.Sta = 8
place reg.Orb = 9
place reg.Os = 10
place reg.Ov = 11
place reg.Cc0 = 12
place reg.Cc1 = 13
place reg.Br = 14

-- whether the bits of a set have that of a register
unfoldable pub has_bit : ℕ → Reg → Bool
has_bit bits r = bit_at bits (place r) == 1

-- whether a set has a register
abbrev pub has_reg : RegSet → Reg → Bool
has_reg s r = has_bit s.bits r

-- sets with the same registers are equal
abbrev pub SameRegistersAreEqual : Type 0
SameRegistersAreEqual = (s t : RegSet) → ((r : Reg) → has_reg s r ≡ has_reg t r) → s ≡ t
