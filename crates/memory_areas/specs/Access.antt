-- Access to a place in memory. Which place a written address or a pointer names; the tests of an access in their
-- order, each with its fault; and what is read or written at a place.
-- Held against: the manual's chapters 'Load and Transfer' and 'Data Block'.
use Rattle.std.specs.Prelude.{ℕ, ◌+◌, ◌<◌, Bool, false, ◌==◌, nat_lt, nat_le, if◌then◌else◌, List, [], ◌∷◌, length, All, Option, Some, None, is_none, Result, Ok, Err}
use Rattle.s7_base.specs.declared.outcome.Fault.{Fault}
use Rattle.s7_base.specs.declared.outcome.Fault.TheVariants.{DbNotOpen, DbMissing, AreaCode, Alignment, AreaLength}
use Rattle.s7_base.specs.declared.word.Width.{Width}
use Rattle.s7_base.specs.declared.word.Width.TheVariants as width
use Rattle.memory_areas.specs.Areas.{Contents, block_of, bytes_of, with_bytes, byte_at, word_at, dword_at, bit_of_byte, byte_with, bytes_of_word, bytes_of_dword, overwrite}
use Rattle.memory_areas.specs.Pointers.{bit_of_pointer, byte_of_pointer, code_of_pointer}
use Rattle.memory_areas.specs.declared.sizes.TheConstants.{INPUT_BYTES, OUTPUT_BYTES, MARKER_BYTES, LOCAL_BYTES}
use Rattle.memory_areas.specs.declared.place.Area.{Area}
use Rattle.memory_areas.specs.declared.place.Area.TheVariants as area
use Rattle.memory_areas.specs.declared.place.AreaName.{AreaName}
use Rattle.memory_areas.specs.declared.place.AreaName.TheVariants as name
use Rattle.memory_areas.specs.declared.place.Place.{Place}

-- What an access names

-- the area of a name, with the numbers in the DB and the DI register and that of the running activation
abbrev pub area_named : AreaName → ℕ → ℕ → ℕ → Area
area_named name.I db di activation = area.I
area_named name.Q db di activation = area.Q
area_named name.M db di activation = area.M
area_named name.L db di activation = area.Local activation
area_named name.Db db di activation = area.Db db
area_named name.Di db di activation = area.Db di

-- how many bytes a width reaches
abbrev pub bytes_wide : Width → ℕ
bytes_wide width.Bit = 1
bytes_wide width.Byte = 1
bytes_wide width.Word = 2
bytes_wide width.Dword = 4

-- how many bits a width has
abbrev pub bits_wide : Width → ℕ
bits_wide width.Bit = 1
bits_wide width.Byte = 8
bits_wide width.Word = 16
bits_wide width.Dword = 32

-- the bytes that an operand of this width names, from this one on, lie in its area; the length of a data block is
-- judged at run time, so there the byte number alone must be at most 65,535, whatever the width
abbrev pub is_byte_in : AreaName → Width → ℕ → Bool
is_byte_in name.I w byte = nat_le (byte + bytes_wide w) INPUT_BYTES
is_byte_in name.Q w byte = nat_le (byte + bytes_wide w) OUTPUT_BYTES
is_byte_in name.M w byte = nat_le (byte + bytes_wide w) MARKER_BYTES
is_byte_in name.L w byte = nat_le (byte + bytes_wide w) LOCAL_BYTES
is_byte_in name.Db w byte = nat_le byte 65535
is_byte_in name.Di w byte = nat_le byte 65535

-- the name of the area that has a code in pointers; no other code has one
abbrev pub name_of_code : ℕ → Option AreaName
name_of_code code =
    if code == 129 then Some name.I
    else if code == 130 then Some name.Q
    else if code == 131 then Some name.M
    else if code == 132 then Some name.Db
    else if code == 133 then Some name.Di
    else if code == 134 then Some name.L
    else None

-- the code in pointers of the area of a name
abbrev pub code_of : AreaName → ℕ
code_of name.I = 129
code_of name.Q = 130
code_of name.M = 131
code_of name.Db = 132
code_of name.Di = 133
code_of name.L = 134

-- the aim of an access: an area, if there is one of that code, a byte and a bit
pub record Aim : Type 0 where
  pub area : Option Area
  pub byte : ℕ
  pub bit : ℕ

-- the aim of an operand that is written, `M 4.0` or `DBW 2`
abbrev pub aim_of_operand : AreaName → ℕ → ℕ → ℕ → ℕ → ℕ → Aim
aim_of_operand a byte x db di activation = record { area = Some (area_named a db di activation); byte = byte; bit = x }

-- the area of a name, if there is one
abbrev pub area_if_named : Option AreaName → ℕ → ℕ → ℕ → Option Area
area_if_named None db di activation = None
area_if_named (Some a) db di activation = Some (area_named a db di activation)

-- the aim of an operand that names its area, with the byte and the bit of a pointer, `M [MD 4]` or `M [AR1,P#2.0]`;
-- the area code of the pointer says nothing
abbrev pub pointed_in : AreaName → ℕ → ℕ → ℕ → ℕ → Aim
pointed_in a p db di activation = aim_of_operand a (byte_of_pointer p) (bit_of_pointer p) db di activation

-- the aim of an operand through a pointer that names its area by a code, `[AR1,P#2.0]`
abbrev pub aim_of_pointer : ℕ → ℕ → ℕ → ℕ → Aim
aim_of_pointer p db di activation =
    record {
      area = area_if_named (name_of_code (code_of_pointer p)) db di activation;
      byte = byte_of_pointer p;
      bit = bit_of_pointer p;
    }

-- the aim of an access to a place
abbrev pub aim_of_place : Place → Aim
aim_of_place p = record { area = Some p.area; byte = p.byte; bit = p.bit }

-- The tests of an access

-- no data block is open
abbrev pub is_closed : Option Area → Bool
is_closed (Some (area.Db n)) = n == 0
is_closed other = false

-- the data block does not exist
abbrev pub is_missing : Option Area → Contents → Bool
is_missing (Some (area.Db n)) m = is_none (block_of n m.areas.blocks)
is_missing other m = false

-- a bit number that the width does not have: one above 7, and for a byte or more any but 0
abbrev pub is_unaligned : Width → ℕ → Bool
is_unaligned width.Bit x = nat_lt 7 x
is_unaligned width.Byte x = nat_lt 0 x
is_unaligned width.Word x = nat_lt 0 x
is_unaligned width.Dword x = nat_lt 0 x

-- some bytes, or none
abbrev pub or_none : Option (List ℕ) → List ℕ
or_none None = []
or_none (Some bytes) = bytes

-- the bytes of an area, none where it does not exist
abbrev pub bytes_there : Option Area → Contents → List ℕ
bytes_there None m = []
bytes_there (Some a) m = or_none (bytes_of a m)

-- each area holds bytes, 0 to 255
abbrev pub HoldsBytes : Contents → Type 0
HoldsBytes m = (a : Area) → All (λ b. b < 256) (bytes_there (Some a) m)

-- the tests of an access in their order, each with its fault
abbrev pub tests : Aim → Width → Contents → List (Bool × Fault)
tests aim w m =
    (is_closed aim.area, DbNotOpen) ∷ (is_missing aim.area m, DbMissing) ∷ (is_none aim.area, AreaCode)
    ∷ (is_unaligned w aim.bit, Alignment)
    ∷ (nat_lt (length (bytes_there aim.area m)) (aim.byte + bytes_wide w), AreaLength) ∷ []

-- the fault of the first test that is true
abbrev pub first_fault : List (Bool × Fault) → Option Fault
first_fault [] = None
first_fault (test ∷ rest) = if test.0 then Some test.1 else first_fault rest

-- the fault of an access, or none
abbrev pub fault_of : Aim → Width → Contents → Option Fault
fault_of aim w m = first_fault (tests aim w m)

-- the value of an access, or its fault
abbrev pub unless : {A : Type 0} → Option Fault → A → Result A Fault
unless None x = Ok x
unless (Some f) x = Err f

-- the result of continuing with a value, or the fault or refusal instead of it
abbrev pub and_then : {A B E : Type 0} → Result A E → (A → Result B E) → Result B E
and_then (Ok x) next = next x
and_then (Err f) next = Err f

-- the place in an area, where there is one of the code
abbrev pub place_if_named : Option Area → ℕ → ℕ → Result Place Fault
place_if_named None byte x = Err AreaCode
place_if_named (Some a) byte x = Ok (record { area = a; byte = byte; bit = x })

-- the place that an access is aimed at, or the fault that its code has no area; nothing else is tested
abbrev pub place_aimed : Aim → Result Place Fault
place_aimed aim = place_if_named aim.area aim.byte aim.bit

-- the place that an access reaches, or its fault
abbrev pub located : Aim → Width → Contents → Result Place Fault
located aim w m = and_then (unless (fault_of aim w m) aim) place_aimed

-- Reading and writing at a place

-- the bytes of the area that an access to a place reaches, or its fault
abbrev pub bytes_for_access : Place → Width → Contents → Result (List ℕ) Fault
bytes_for_access p w m = unless (fault_of (aim_of_place p) w m) (bytes_there (Some p.area) m)

-- the bit at a place, or the fault of the access
abbrev pub read_bit : Place → Contents → Result Bool Fault
read_bit p m = and_then (bytes_for_access p width.Bit m) (λ bytes. Ok (bit_of_byte (byte_at bytes p.byte) p.bit))

-- the byte at a place, 0 to 255, or the fault of the access
abbrev pub read_byte : Place → Contents → Result ℕ Fault
read_byte p m = and_then (bytes_for_access p width.Byte m) (λ bytes. Ok (byte_at bytes p.byte))

-- the word that begins at a place, its first byte the high one, or the fault of the access
abbrev pub read_word : Place → Contents → Result ℕ Fault
read_word p m = and_then (bytes_for_access p width.Word m) (λ bytes. Ok (word_at bytes p.byte))

-- the double word that begins at a place, its first byte the highest, or the fault of the access
abbrev pub read_dword : Place → Contents → Result ℕ Fault
read_dword p m = and_then (bytes_for_access p width.Dword m) (λ bytes. Ok (dword_at bytes p.byte))

-- the memory after a write of these bytes at a place: they are replaced, and nothing else
abbrev pub write_bytes : Place → List ℕ → List ℕ → Contents → Contents
write_bytes p bytes new m = with_bytes p.area (overwrite bytes p.byte new) m

-- the memory after a write of one bit, the other seven of its byte as they were, or the fault of the
-- access
abbrev pub write_bit : Place → Bool → Contents → Result Contents Fault
write_bit p v m =
    and_then (bytes_for_access p width.Bit m)
    (λ bytes. Ok (write_bytes p bytes (byte_with (byte_at bytes p.byte) p.bit v ∷ []) m))

-- the memory after a write of a byte, or the fault of the access
abbrev pub write_byte : Place → ℕ → Contents → Result Contents Fault
write_byte p v m = and_then (bytes_for_access p width.Byte m) (λ bytes. Ok (write_bytes p bytes (v ∷ []) m))

-- the memory after a write of a word into two bytes, the high one first, or the fault of the access
abbrev pub write_word : Place → ℕ → Contents → Result Contents Fault
write_word p v m = and_then (bytes_for_access p width.Word m) (λ bytes. Ok (write_bytes p bytes (bytes_of_word v) m))

-- the memory after a write of a double word into four bytes, the highest first, or the fault of the
-- access
abbrev pub write_dword : Place → ℕ → Contents → Result Contents Fault
write_dword p v m = and_then (bytes_for_access p width.Dword m) (λ bytes. Ok (write_bytes p bytes (bytes_of_dword v) m))
