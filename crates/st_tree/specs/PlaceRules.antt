-- Places that a text may name. Their bytes lie in their area, and a bit has a number from 0 to 7.
-- Held against: IEC 61131-3, 'Directly represented variables', and this project's own bounds.
use Rattle.std.specs.Prelude.{ℕ, Bool, false, ◌&&◌, ◌==◌, nat_le}
use Rattle.memory_areas.specs.Access.{is_byte_in}
use Rattle.memory_areas.specs.declared.place.Area.{Area}
use Rattle.memory_areas.specs.declared.place.Area.TheVariants as place
use Rattle.memory_areas.specs.declared.place.AreaName.{AreaName}
use Rattle.memory_areas.specs.declared.place.AreaName.TheVariants as area
use Rattle.s7_base.specs.declared.word.Width.{Width}
use Rattle.s7_base.specs.declared.word.Width.TheVariants as width

-- a bit number that a width has: 0 to 7 for a bit, 0 for a byte or more
abbrev pub is_bit_of : Width → ℕ → Bool
is_bit_of width.Bit bit = nat_le bit 7
is_bit_of width.Byte bit = bit == 0
is_bit_of width.Word bit = bit == 0
is_bit_of width.Dword bit = bit == 0

-- a place that a text may name: its bytes lie in its area, where that has a length of its own
abbrev pub is_place : AreaName → Width → ℕ → ℕ → Bool
is_place a w byte bit = is_byte_in a w byte && is_bit_of w bit

-- a data block has a number from 1 to 65,535
abbrev pub is_block_number : ℕ → Bool
is_block_number n = nat_le 1 n && nat_le n 65535

-- a global is on I, Q or M
abbrev pub is_located : Area → Width → ℕ → ℕ → Bool
is_located place.I w byte bit = is_place area.I w byte bit
is_located place.Q w byte bit = is_place area.Q w byte bit
is_located place.M w byte bit = is_place area.M w byte bit
is_located (place.Local d) w byte bit = false
is_located (place.Cell d) w byte bit = false
is_located (place.Db n) w byte bit = false
