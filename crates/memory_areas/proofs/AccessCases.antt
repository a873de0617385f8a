-- Accesses, held against worked rows by computing them.
use Rattle.std.proofs.Common.{◌≡◌, refl, ℕ, ◌+◌, ◌*◌, ◌^◌, true, false, List, [], ◌∷◌, Some, None, Ok, Err}
use Rattle.s7_base.specs.declared.outcome.Fault.TheVariants.{DbNotOpen, DbMissing, AreaCode, Alignment, AreaLength}
use Rattle.s7_base.specs.declared.word.Width.TheVariants as width
use Rattle.memory_areas.specs.Access.{aim_of_place, area_named, fault_of, is_byte_in, located, name_of_code, aim_of_pointer, pointed_in, read_bit, read_byte, read_dword, read_word, aim_of_operand, write_bit, write_byte, write_dword, write_word}
use Rattle.memory_areas.specs.Areas.{Contents}
use Rattle.memory_areas.specs.Pointers.{bit_of_pointer, byte_of_pointer, code_of_pointer}
use Rattle.memory_areas.specs.declared.data_block.DataBlock.{DataBlock}
use Rattle.memory_areas.specs.declared.place.Area.{Area}
use Rattle.memory_areas.specs.declared.place.Area.TheVariants as area
use Rattle.memory_areas.specs.declared.place.AreaName.TheVariants as name
use Rattle.memory_areas.specs.declared.place.Place.{Place}

abbrev block : ℕ → List ℕ → DataBlock
block n bytes = record { number = n; bytes = bytes }

abbrev contents_of : List ℕ → List ℕ → List ℕ → List DataBlock → List (List ℕ) → List (List ℕ) → Contents
contents_of inputs outputs markers blocks locals cells =
    record {
      areas = record { inputs = inputs; outputs = outputs; markers = markers; blocks = blocks };
      locals = locals;
      cells = cells;
    }

-- four bytes of inputs, two of outputs, three of bit memory, the data blocks 3 and 10, and local data and
-- constant actuals of two activations
abbrev with_inputs : List ℕ → Contents
with_inputs inputs =
    contents_of inputs (5 ∷ 6 ∷ []) (7 ∷ 8 ∷ 9 ∷ []) (block 3 (18 ∷ 52 ∷ []) ∷ block 10 (0 ∷ 5 ∷ 255 ∷ 128 ∷ []) ∷ [])
    ((11 ∷ []) ∷ (12 ∷ []) ∷ []) ((21 ∷ []) ∷ (22 ∷ []) ∷ [])

abbrev memory : Contents
memory = with_inputs (4 ∷ 18 ∷ 52 ∷ 255 ∷ [])

abbrev place : Area → ℕ → ℕ → Place
place a byte x = record { area = a; byte = byte; bit = x }

-- The tests in their order. The DB register is 3, the DI register 10, and the activation 1, if not said otherwise

-- no block is open, and no block has the number 0
not_open_before_missing : fault_of (aim_of_place (place (area.Db 0) 0 0)) width.Byte memory ≡ Some DbNotOpen
not_open_before_missing = refl

closed_instance : fault_of (aim_of_operand name.Di 0 0 3 0 1) width.Byte memory ≡ Some DbNotOpen
closed_instance = refl

closed_through_a_pointer : fault_of (aim_of_pointer (132 * 2 ^ 24) 0 10 1) width.Byte memory ≡ Some DbNotOpen
closed_through_a_pointer = refl

-- the block 4 is not there
missing_before_alignment : fault_of (aim_of_place (place (area.Db 4) 0 1)) width.Byte memory ≡ Some DbMissing
missing_before_alignment = refl

missing_before_length : fault_of (aim_of_place (place (area.Db 4) 9 0)) width.Bit memory ≡ Some DbMissing
missing_before_length = refl

-- the code 16#80 names no area
code_before_alignment : fault_of (aim_of_pointer (128 * 2 ^ 24 + 1) 3 10 1) width.Word memory ≡ Some AreaCode
code_before_alignment = refl

code_before_length : fault_of (aim_of_pointer (135 * 2 ^ 24 + 9 * 8) 3 10 1) width.Bit memory ≡ Some AreaCode
code_before_length = refl

-- and no data block is looked for there
code_is_no_block : fault_of (aim_of_pointer 0 0 0 1) width.Byte memory ≡ Some AreaCode
code_is_no_block = refl

alignment_before_length : fault_of (aim_of_place (place area.I 4 1)) width.Byte memory ≡ Some Alignment
alignment_before_length = refl

bit_before_length : fault_of (aim_of_place (place area.I 4 8)) width.Bit memory ≡ Some Alignment
bit_before_length = refl

no_fault : fault_of (aim_of_place (place area.I 0 0)) width.Byte memory ≡ None
no_fault = refl

-- Bit numbers: 0 to 7 at a bit, 0 alone at a byte or more

bit_7 : fault_of (aim_of_place (place area.I 0 7)) width.Bit memory ≡ None
bit_7 = refl

bit_8 : fault_of (aim_of_place (place area.I 0 8)) width.Bit memory ≡ Some Alignment
bit_8 = refl

byte_at_bit_1 : fault_of (aim_of_place (place area.I 0 1)) width.Byte memory ≡ Some Alignment
byte_at_bit_1 = refl

word_at_bit_1 : fault_of (aim_of_place (place area.I 0 1)) width.Word memory ≡ Some Alignment
word_at_bit_1 = refl

dword_at_bit_1 : fault_of (aim_of_place (place area.I 0 1)) width.Dword memory ≡ Some Alignment
dword_at_bit_1 = refl

-- The last bit, byte, word and double word of four bytes, and one further

last_bit : fault_of (aim_of_place (place area.I 3 7)) width.Bit memory ≡ None
last_bit = refl

bit_past_the_end : fault_of (aim_of_place (place area.I 4 0)) width.Bit memory ≡ Some AreaLength
bit_past_the_end = refl

last_byte : fault_of (aim_of_place (place area.I 3 0)) width.Byte memory ≡ None
last_byte = refl

byte_past_the_end : fault_of (aim_of_place (place area.I 4 0)) width.Byte memory ≡ Some AreaLength
byte_past_the_end = refl

last_word : fault_of (aim_of_place (place area.I 2 0)) width.Word memory ≡ None
last_word = refl

word_past_the_end : fault_of (aim_of_place (place area.I 3 0)) width.Word memory ≡ Some AreaLength
word_past_the_end = refl

last_dword : fault_of (aim_of_place (place area.I 0 0)) width.Dword memory ≡ None
last_dword = refl

dword_past_the_end : fault_of (aim_of_place (place area.I 1 0)) width.Dword memory ≡ Some AreaLength
dword_past_the_end = refl

-- each area by its own length
outputs_end : fault_of (aim_of_place (place area.Q 2 0)) width.Byte memory ≡ Some AreaLength
outputs_end = refl

markers_end : fault_of (aim_of_place (place area.M 2 0)) width.Byte memory ≡ None
markers_end = refl

block_end : fault_of (aim_of_place (place (area.Db 3) 1 0)) width.Word memory ≡ Some AreaLength
block_end = refl

longer_block_end : fault_of (aim_of_place (place (area.Db 10) 0 0)) width.Dword memory ≡ None
longer_block_end = refl

-- What operands and pointers name

local_data_of_the_activation : area_named name.L 3 10 5 ≡ area.Local 5
local_data_of_the_activation = refl

block_of_the_db_register : area_named name.Db 3 10 5 ≡ area.Db 3
block_of_the_db_register = refl

block_of_the_di_register : area_named name.Di 3 10 5 ≡ area.Db 10
block_of_the_di_register = refl

inputs_are_inputs : area_named name.I 3 10 5 ≡ area.I
inputs_are_inputs = refl

outputs_are_outputs : area_named name.Q 3 10 5 ≡ area.Q
outputs_are_outputs = refl

markers_are_markers : area_named name.M 3 10 5 ≡ area.M
markers_are_markers = refl

last_bytes :
    (is_byte_in name.I width.Bit 2047 ∷ is_byte_in name.Q width.Word 2046 ∷ is_byte_in name.M width.Dword 8188 ∷ is_byte_in name.L width.Byte 255
    ∷ is_byte_in name.Db width.Dword 65535 ∷ is_byte_in name.Di width.Bit 65535 ∷ [])
    ≡ true ∷ true ∷ true ∷ true ∷ true ∷ true ∷ []
last_bytes = refl

bytes_past_the_end :
    (is_byte_in name.I width.Bit 2048 ∷ is_byte_in name.Q width.Word 2047 ∷ is_byte_in name.M width.Dword 8189 ∷ is_byte_in name.L width.Byte 256
    ∷ is_byte_in name.Db width.Bit 65536 ∷ is_byte_in name.Di width.Word 65536 ∷ [])
    ≡ false ∷ false ∷ false ∷ false ∷ false ∷ false ∷ []
bytes_past_the_end = refl

-- the area codes 16#81 to 16#86, and none beside them
area_codes :
    (name_of_code 128 ∷ name_of_code 129 ∷ name_of_code 130 ∷ name_of_code 131 ∷ name_of_code 132 ∷ name_of_code 133 ∷ name_of_code 134 ∷ name_of_code 135 ∷ [])
    ≡ None ∷ Some name.I ∷ Some name.Q ∷ Some name.M ∷ Some name.Db ∷ Some name.Di ∷ Some name.L ∷ None ∷ []
area_codes = refl

code_zero : name_of_code 0 ≡ None
code_zero = refl

-- 16#84000015 is DBX 2.5, by the DB register
pointer_to_a_bit : located (aim_of_pointer 2214592533 10 3 1) width.Bit memory ≡ Ok (place (area.Db 10) 2 5)
pointer_to_a_bit = refl

pointer_by_the_di_register : located (aim_of_pointer (133 * 2 ^ 24 + 8) 10 3 1) width.Byte memory ≡ Ok (place (area.Db 3) 1 0)
pointer_by_the_di_register = refl

pointer_to_local_data : located (aim_of_pointer (134 * 2 ^ 24) 10 3 1) width.Byte memory ≡ Ok (place (area.Local 1) 0 0)
pointer_to_local_data = refl

pointer_is_refused : located (aim_of_pointer (129 * 2 ^ 24 + 32) 10 3 1) width.Byte memory ≡ Err AreaLength
pointer_is_refused = refl

-- a named area takes byte and bit of a pointer, whatever area that names
area_of_the_pointer_is_ignored : pointed_in name.I (132 * 2 ^ 24 + 2 * 8 + 5) 0 0 1 ≡ aim_of_operand name.I 2 5 0 0 1
area_of_the_pointer_is_ignored = refl

code_of_the_pointer_is_ignored : located (pointed_in name.Db 13 10 3 1) width.Bit memory ≡ Ok (place (area.Db 10) 1 5)
code_of_the_pointer_is_ignored = refl

bit_of_the_pointer_counts : located (pointed_in name.M (8 + 1) 10 3 1) width.Byte memory ≡ Err Alignment
bit_of_the_pointer_counts = refl

operand_is_located : located (aim_of_operand name.M 2 6 3 10 1) width.Bit memory ≡ Ok (place area.M 2 6)
operand_is_located = refl

-- the byte number has 16 bits: 16#8707FFFF is byte 65535, bit 7
largest_byte_number : byte_of_pointer 2265448447 ≡ 65535
largest_byte_number = refl

largest_bit_number : bit_of_pointer 2265448447 ≡ 7
largest_bit_number = refl

code_of_a_pointer : code_of_pointer 2265448447 ≡ 135
code_of_a_pointer = refl

-- bits 19 to 23 are ignored: 16#81F8000B is I 1.3
bits_between_are_ignored : located (aim_of_pointer 2180513803 3 10 1) width.Bit memory ≡ Ok (place area.I 1 3)
bits_between_are_ignored = refl

-- Reading: highest byte first, and bits counted from the lowest

reads_a_set_bit : read_bit (place area.I 0 2) memory ≡ Ok true
reads_a_set_bit = refl

reads_a_clear_bit : read_bit (place area.I 0 3) memory ≡ Ok false
reads_a_clear_bit = refl

reads_a_byte : read_byte (place area.I 3 0) memory ≡ Ok 255
reads_a_byte = refl

reads_a_word : read_word (place area.I 1 0) memory ≡ Ok 4660
reads_a_word = refl

reads_a_dword : read_dword (place (area.Db 10) 0 0) memory ≡ Ok 393088
reads_a_dword = refl

reads_local_data : read_byte (place (area.Local 1) 0 0) memory ≡ Ok 12
reads_local_data = refl

reads_a_cell : read_byte (place (area.Cell 1) 0 0) memory ≡ Ok 22
reads_a_cell = refl

read_is_refused : read_word (place area.Q 1 0) memory ≡ Err AreaLength
read_is_refused = refl

-- Writing: these bytes and no other

sets_a_bit : write_bit (place area.I 1 0) true memory ≡ Ok (with_inputs (4 ∷ 19 ∷ 52 ∷ 255 ∷ []))
sets_a_bit = refl

clears_a_bit : write_bit (place area.I 3 7) false memory ≡ Ok (with_inputs (4 ∷ 18 ∷ 52 ∷ 127 ∷ []))
clears_a_bit = refl

writes_a_byte : write_byte (place area.I 2 0) 7 memory ≡ Ok (with_inputs (4 ∷ 18 ∷ 7 ∷ 255 ∷ []))
writes_a_byte = refl

-- 16#0102
writes_a_word : write_word (place area.I 1 0) 258 memory ≡ Ok (with_inputs (4 ∷ 1 ∷ 2 ∷ 255 ∷ []))
writes_a_word = refl

writes_a_dword : write_dword (place area.I 0 0) 393088 memory ≡ Ok (with_inputs (0 ∷ 5 ∷ 255 ∷ 128 ∷ []))
writes_a_dword = refl

writes_a_word_of_a_block :
    write_word (place (area.Db 10) 2 0) 4660 memory
    ≡ Ok (contents_of (4 ∷ 18 ∷ 52 ∷ 255 ∷ []) (5 ∷ 6 ∷ []) (7 ∷ 8 ∷ 9 ∷ [])
    (block 3 (18 ∷ 52 ∷ []) ∷ block 10 (0 ∷ 5 ∷ 18 ∷ 52 ∷ []) ∷ []) ((11 ∷ []) ∷ (12 ∷ []) ∷ []) ((21 ∷ []) ∷ (22 ∷ []) ∷ []))
writes_a_word_of_a_block = refl

writes_a_cell :
    write_byte (place (area.Cell 1) 0 0) 1 memory
    ≡ Ok (contents_of (4 ∷ 18 ∷ 52 ∷ 255 ∷ []) (5 ∷ 6 ∷ []) (7 ∷ 8 ∷ 9 ∷ [])
    (block 3 (18 ∷ 52 ∷ []) ∷ block 10 (0 ∷ 5 ∷ 255 ∷ 128 ∷ []) ∷ []) ((11 ∷ []) ∷ (12 ∷ []) ∷ []) ((21 ∷ []) ∷ (1 ∷ []) ∷ []))
writes_a_cell = refl

write_past_the_end : write_dword (place area.I 1 0) 0 memory ≡ Err AreaLength
write_past_the_end = refl

write_to_a_missing_block : write_bit (place (area.Db 4) 0 0) true memory ≡ Err DbMissing
write_to_a_missing_block = refl
