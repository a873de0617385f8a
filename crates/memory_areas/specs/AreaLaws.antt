-- Laws of writing: what was written is read back, and nothing else has changed.
use Rattle.std.specs.Prelude.{◌≡◌, ◌≢◌, ◌⊎◌, ℕ, ◌+◌, ◌^◌, ◌<◌, ◌≤◌, Bool, List, length, Some, Result, Ok}
use Rattle.s7_base.specs.declared.outcome.Fault.{Fault}
use Rattle.s7_base.specs.declared.word.Width.{Width}
use Rattle.memory_areas.specs.Access.{Aim, bytes_there, bytes_wide, fault_of, read_bit, read_byte, write_bit}
use Rattle.memory_areas.specs.Areas.{Contents, IsMemoryOf}
use Rattle.memory_areas.specs.declared.data_block.DataBlock.{DataBlock}
use Rattle.memory_areas.specs.declared.place.Area.{Area}
use Rattle.memory_areas.specs.declared.place.Place.{Place}

-- a read at a place of a memory: the value, or the fault of the access
abbrev pub Reading : Type 0 → Type 0
Reading V = Place → Contents → Result V Fault

-- a write of a value at a place of a memory: the memory after it, or the fault of the access
abbrev pub Writing : Type 0 → Type 0
Writing V = Place → V → Contents → Result Contents Fault

-- what was written is read back
abbrev pub ReadsBack : {V : Type 0} → Reading V → Writing V → Type 0
ReadsBack {V = V} read write =
    (p : Place) (v : V) (before after : Contents) → write p v before ≡ Ok after → read p after ≡ Ok v

-- every other bit reads as before
abbrev pub OtherBitsStay : Type 0
OtherBitsStay =
    (p q : Place) (v : Bool) (before after : Contents) → q ≢ p → write_bit p v before ≡ Ok after
    → read_bit q after ≡ read_bit q before

-- a byte lies outside the bytes that are written at a place: in another area, before them or after them
abbrev pub IsOutside : Place → Width → Place → Type 0
IsOutside p w q = q.area ≡ p.area → (q.byte < p.byte) ⊎ (p.byte + bytes_wide w ≤ q.byte)

-- every byte outside those that are written reads as before
abbrev pub OtherBytesStay : {V : Type 0} → Width → Writing V → Type 0
OtherBytesStay {V = V} w write =
    (p q : Place) (v : V) (before after : Contents) → IsOutside p w q → write p v before ≡ Ok after
    → read_byte q after ≡ read_byte q before

-- each area keeps its length, and each access its fault
abbrev pub SizesStay : {V : Type 0} → Writing V → Type 0
SizesStay {V = V} write =
    (p : Place) (v : V) (before after : Contents) → write p v before ≡ Ok after
    → ((a : Area) → length (bytes_there (Some a) after) ≡ length (bytes_there (Some a) before))
    × ((aim : Aim) (w : Width) → fault_of aim w after ≡ fault_of aim w before)

-- after a write, a memory of some data blocks is still one of these, where the value fits its width
abbrev pub MemoriesStay : {V : Type 0} → (V → Type 0) → Writing V → Type 0
MemoriesStay {V = V} Fits write =
    (p : Place) (v : V) (before after : Contents) (blocks : List DataBlock) → Fits v
    → IsMemoryOf blocks before.areas → write p v before ≡ Ok after
    → IsMemoryOf blocks after.areas

-- a value fits a bit: both do
abbrev pub AnyBit : Bool → Type 0
AnyBit v = Unit {0}

-- a value fits a byte: 0 to 255, so that a memory keeps only bytes
abbrev pub IsByte : ℕ → Type 0
IsByte v = v < 2 ^ 8

-- a value fits a word: 0 to 65,535
abbrev pub IsWord : ℕ → Type 0
IsWord v = v < 2 ^ 16

-- a value fits a double word: 0 to 4,294,967,295
abbrev pub IsDword : ℕ → Type 0
IsDword v = v < 2 ^ 32
