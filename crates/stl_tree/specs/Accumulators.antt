-- Instructions on the accumulators. The accumulators and their parts; what L, T, TAK, PUSH, POP, INC, DEC and adding
-- a constant make of them.
-- Held against: the manual's chapters 'Load and Transfer', 'Integer Math' and 'Accumulator Instructions'.
use Rattle.std.specs.Prelude.{ℕ, ◌+◌, ◌-◌, ◌*◌, ◌/◌, ◌%◌, ◌^◌, ◌==◌, ℤ, ◌+ℤ◌, Result, Ok}
use Rattle.std.specs.Int.{from_bool}
use Rattle.memory_areas.specs.Access.{and_then, bits_wide, read_bit, read_byte, read_word, read_dword, write_bit, write_byte, write_word, write_dword}
use Rattle.memory_areas.specs.Areas.{Contents}
use Rattle.memory_areas.specs.declared.place.Place.{Place}
use Rattle.s7_base.specs.SignedNumbers.{number, pattern}
use Rattle.s7_base.specs.declared.outcome.Fault.{Fault}
use Rattle.s7_base.specs.declared.word.Width.{Width}
use Rattle.s7_base.specs.declared.word.Width.TheVariants as width
use Rattle.status_word.specs.Flags.{bits_of, from_word, word_of}
use Rattle.stl_tree.specs.Registers.{RegisterValues}

-- Parts

-- the lowest bits of an accumulator, as many as a width has
abbrev pub part : Width → ℕ → ℕ
part w a = a % 2 ^ bits_wide w

-- an accumulator with other lowest bits
abbrev pub with_part : Width → ℕ → ℕ → ℕ
with_part w a p = a / 2 ^ bits_wide w * 2 ^ bits_wide w + p

-- the number of the lowest bits of an accumulator, the highest of them being the sign
abbrev pub signed_part : Width → ℕ → ℤ
signed_part w a = number (bits_wide w) (part w a)

-- an accumulator whose lowest bits are the pattern of a number
abbrev pub with_number : Width → ℕ → ℤ → ℕ
with_number w a z = with_part w a (pattern (bits_wide w) z)

-- Loading and storing

-- L: ACCU2 takes ACCU1, and ACCU1 takes the value, extended by zeros
abbrev pub after_load : ℕ → RegisterValues → RegisterValues
after_load v r = record r { accu1 = v; accu2 = r.accu1 }

-- the number at a place, of a width
abbrev pub read_number : Width → Place → Contents → Result ℕ Fault
read_number width.Bit p m = and_then (read_bit p m) (λ b. Ok (from_bool b))
read_number width.Byte p m = read_byte p m
read_number width.Word p m = read_word p m
read_number width.Dword p m = read_dword p m

-- the memory after a number was written at a place, in a width
abbrev pub write_number : Width → Place → ℕ → Contents → Result Contents Fault
write_number width.Bit p v m = write_bit p (v == 1) m
write_number width.Byte p v m = write_byte p v m
write_number width.Word p v m = write_word p v m
write_number width.Dword p v m = write_dword p v m

-- L STW: loads the status word
abbrev pub status_loaded : RegisterValues → RegisterValues
status_loaded r = after_load (word_of r.status) r

-- T STW: six bits of the status word from ACCU1, each from the bit at its place
abbrev pub status_stored : RegisterValues → RegisterValues
status_stored r = record r { status = from_word (bits_of r.accu1) r.status }

-- Moving

-- TAK: ACCU1 and ACCU2 exchange their values
abbrev pub accus_exchanged : RegisterValues → RegisterValues
accus_exchanged r = record r { accu1 = r.accu2; accu2 = r.accu1 }

-- PUSH: ACCU2 takes the value of ACCU1
abbrev pub accu_pushed : RegisterValues → RegisterValues
accu_pushed r = record r { accu2 = r.accu1 }

-- POP: ACCU1 takes the value of ACCU2
abbrev pub accu_popped : RegisterValues → RegisterValues
accu_popped r = record r { accu1 = r.accu2 }

-- Adding a constant

-- + n and + L#n: a part of ACCU1 takes the sum of itself and a number, wrapped; no bit of the status word shows it
abbrev pub after_addition : Width → ℤ → RegisterValues → RegisterValues
after_addition w n r = record r { accu1 = with_number w r.accu1 (signed_part w r.accu1 +ℤ n) }

-- INC and DEC: the lowest byte of ACCU1, from 0 to 255, plus or minus a number from 0 to 255, wrapped
abbrev pub counted_up : ℕ → RegisterValues → RegisterValues
counted_up n r = record r { accu1 = with_part width.Byte r.accu1 ((part width.Byte r.accu1 + n) % 256) }

abbrev pub counted_down : ℕ → RegisterValues → RegisterValues
counted_down n r = record r { accu1 = with_part width.Byte r.accu1 ((part width.Byte r.accu1 + 256 - n % 256) % 256) }
