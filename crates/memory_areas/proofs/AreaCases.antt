-- The areas of a memory, held against worked rows by computing them.
use Rattle.std.proofs.Common.{◌≡◌, refl, sym, ◌∙◌, ℕ, ◌<◌, Bool, true, false, List, [], ◌∷◌, Some, None, replicate, arith, lit<}
use Rattle.std.proofs.lemmas.List.{length-replicate}
use Rattle.std.proofs.lemmas.List.Elements.{All-cons, All-nil, All-replicate}
use Rattle.memory_areas.specs.Areas.{AreBlocks, Areas, Ascend, Contents, IsArea, IsMemoryOf, IsSized, Match, block_of, bit_of_byte, bytes_of, bytes_of_dword, bytes_of_word, byte_at, byte_with, with_zero_activation, dword_at, fresh, numbers_of, overwrite, with_block, with_bytes, word_at}
use Rattle.memory_areas.specs.inner.Stored.{data_blocks_of, position_of}
use Rattle.memory_areas.specs.declared.data_block.DataBlock.{DataBlock}
use Rattle.memory_areas.specs.declared.place.Area.TheVariants as area

-- Words and double words: bytes 16#12 16#34 are the word 16#1234, bytes 00 05 FF 80 the double word 16#0005FF80

word_is_high_byte_first : word_at (18 ∷ 52 ∷ []) 0 ≡ 4660
word_is_high_byte_first = refl

word_at_the_end : word_at (1 ∷ 2 ∷ 18 ∷ 52 ∷ []) 2 ≡ 4660
word_at_the_end = refl

dword_is_high_byte_first : dword_at (0 ∷ 5 ∷ 255 ∷ 128 ∷ []) 0 ≡ 393088
dword_is_high_byte_first = refl

-- 16#01020304
dword_from_byte_one : dword_at (9 ∷ 1 ∷ 2 ∷ 3 ∷ 4 ∷ 9 ∷ []) 1 ≡ 16909060
dword_from_byte_one = refl

word_into_bytes : bytes_of_word 4660 ≡ 18 ∷ 52 ∷ []
word_into_bytes = refl

largest_word_into_bytes : bytes_of_word 65535 ≡ 255 ∷ 255 ∷ []
largest_word_into_bytes = refl

dword_into_bytes : bytes_of_dword 393088 ≡ 0 ∷ 5 ∷ 255 ∷ 128 ∷ []
dword_into_bytes = refl

-- 16#81020304
large_dword_into_bytes : bytes_of_dword 2164392708 ≡ 129 ∷ 2 ∷ 3 ∷ 4 ∷ []
large_dword_into_bytes = refl

byte_by_its_number : byte_at (7 ∷ 8 ∷ 9 ∷ []) 2 ≡ 9
byte_by_its_number = refl

-- Bits are counted from the lowest: the byte 4 has bit 2 set and no other

abbrev bits_of : ℕ → List Bool
bits_of b =
    bit_of_byte b 0 ∷ bit_of_byte b 1 ∷ bit_of_byte b 2 ∷ bit_of_byte b 3
    ∷ bit_of_byte b 4 ∷ bit_of_byte b 5 ∷ bit_of_byte b 6 ∷ bit_of_byte b 7 ∷ []

bits_of_four : bits_of 4 ≡ false ∷ false ∷ true ∷ false ∷ false ∷ false ∷ false ∷ false ∷ []
bits_of_four = refl

bits_of_129 : bits_of 129 ≡ true ∷ false ∷ false ∷ false ∷ false ∷ false ∷ false ∷ true ∷ []
bits_of_129 = refl

bit_is_set : byte_with 0 2 true ≡ 4
bit_is_set = refl

set_bit_stays_set : byte_with 255 7 true ≡ 255
set_bit_stays_set = refl

bit_is_cleared : byte_with 255 2 false ≡ 251
bit_is_cleared = refl

clear_bit_stays_clear : byte_with 170 0 false ≡ 170
clear_bit_stays_clear = refl

lowest_bit_is_set : byte_with 170 0 true ≡ 171
lowest_bit_is_set = refl

highest_bit_is_cleared : byte_with 129 7 false ≡ 1
highest_bit_is_cleared = refl

-- Bytes in the place of others, and no more and no fewer

one_byte_replaced : overwrite (1 ∷ 2 ∷ 3 ∷ 4 ∷ []) 1 (9 ∷ []) ≡ 1 ∷ 9 ∷ 3 ∷ 4 ∷ []
one_byte_replaced = refl

two_bytes_replaced : overwrite (1 ∷ 2 ∷ 3 ∷ 4 ∷ []) 2 (8 ∷ 9 ∷ []) ≡ 1 ∷ 2 ∷ 8 ∷ 9 ∷ []
two_bytes_replaced = refl

all_bytes_replaced : overwrite (1 ∷ 2 ∷ 3 ∷ 4 ∷ []) 0 (6 ∷ 7 ∷ 8 ∷ 9 ∷ []) ≡ 6 ∷ 7 ∷ 8 ∷ 9 ∷ []
all_bytes_replaced = refl

-- Data blocks

abbrev block : ℕ → List ℕ → DataBlock
block n bytes = record { number = n; bytes = bytes }

abbrev two_blocks : List DataBlock
two_blocks = block 3 (5 ∷ 6 ∷ []) ∷ block 10 (7 ∷ 8 ∷ []) ∷ []

block_by_its_number : block_of 10 two_blocks ≡ Some (block 10 (7 ∷ 8 ∷ []))
block_by_its_number = refl

no_block_of_that_number : block_of 1 two_blocks ≡ None
no_block_of_that_number = refl

numbers_of_blocks : numbers_of two_blocks ≡ 3 ∷ 10 ∷ []
numbers_of_blocks = refl

first_block_changes_alone : with_block 3 (1 ∷ 2 ∷ []) two_blocks ≡ block 3 (1 ∷ 2 ∷ []) ∷ block 10 (7 ∷ 8 ∷ []) ∷ []
first_block_changes_alone = refl

second_block_changes_alone : with_block 10 (1 ∷ 2 ∷ []) two_blocks ≡ block 3 (5 ∷ 6 ∷ []) ∷ block 10 (1 ∷ 2 ∷ []) ∷ []
second_block_changes_alone = refl

missing_block_changes_none : with_block 4 (1 ∷ 2 ∷ []) two_blocks ≡ two_blocks
missing_block_changes_none = refl

-- Areas by their names

abbrev contents_of : List ℕ → List ℕ → List ℕ → List DataBlock → List (List ℕ) → List (List ℕ) → Contents
contents_of inputs outputs markers blocks locals cells =
    record {
      areas = record { inputs = inputs; outputs = outputs; markers = markers; blocks = blocks };
      locals = locals;
      cells = cells;
    }

-- a byte or two in each area, and local data and constant actuals of two activations
abbrev small : Contents
small = contents_of (1 ∷ []) (2 ∷ []) (3 ∷ 4 ∷ []) two_blocks ((11 ∷ []) ∷ (12 ∷ []) ∷ []) ((21 ∷ []) ∷ (22 ∷ []) ∷ [])

bytes_of_inputs : bytes_of area.I small ≡ Some (1 ∷ [])
bytes_of_inputs = refl

bytes_of_outputs : bytes_of area.Q small ≡ Some (2 ∷ [])
bytes_of_outputs = refl

bytes_of_markers : bytes_of area.M small ≡ Some (3 ∷ 4 ∷ [])
bytes_of_markers = refl

bytes_of_locals : bytes_of (area.Local 1) small ≡ Some (12 ∷ [])
bytes_of_locals = refl

bytes_of_cells : bytes_of (area.Cell 0) small ≡ Some (21 ∷ [])
bytes_of_cells = refl

bytes_of_block : bytes_of (area.Db 3) small ≡ Some (5 ∷ 6 ∷ [])
bytes_of_block = refl

bytes_of_no_block : bytes_of (area.Db 4) small ≡ None
bytes_of_no_block = refl

other_inputs : with_bytes area.I (9 ∷ []) small
    ≡ contents_of (9 ∷ []) (2 ∷ []) (3 ∷ 4 ∷ []) two_blocks ((11 ∷ []) ∷ (12 ∷ []) ∷ []) ((21 ∷ []) ∷ (22 ∷ []) ∷ [])
other_inputs = refl

other_outputs : with_bytes area.Q (9 ∷ []) small
    ≡ contents_of (1 ∷ []) (9 ∷ []) (3 ∷ 4 ∷ []) two_blocks ((11 ∷ []) ∷ (12 ∷ []) ∷ []) ((21 ∷ []) ∷ (22 ∷ []) ∷ [])
other_outputs = refl

other_markers : with_bytes area.M (9 ∷ 9 ∷ []) small
    ≡ contents_of (1 ∷ []) (2 ∷ []) (9 ∷ 9 ∷ []) two_blocks ((11 ∷ []) ∷ (12 ∷ []) ∷ []) ((21 ∷ []) ∷ (22 ∷ []) ∷ [])
other_markers = refl

other_locals : with_bytes (area.Local 1) (9 ∷ []) small
    ≡ contents_of (1 ∷ []) (2 ∷ []) (3 ∷ 4 ∷ []) two_blocks ((11 ∷ []) ∷ (9 ∷ []) ∷ []) ((21 ∷ []) ∷ (22 ∷ []) ∷ [])
other_locals = refl

other_cells : with_bytes (area.Cell 0) (9 ∷ []) small
    ≡ contents_of (1 ∷ []) (2 ∷ []) (3 ∷ 4 ∷ []) two_blocks ((11 ∷ []) ∷ (12 ∷ []) ∷ []) ((9 ∷ []) ∷ (22 ∷ []) ∷ [])
other_cells = refl

other_block :
    with_bytes (area.Db 10) (9 ∷ 9 ∷ []) small
    ≡ contents_of (1 ∷ []) (2 ∷ []) (3 ∷ 4 ∷ []) (block 3 (5 ∷ 6 ∷ []) ∷ block 10 (9 ∷ 9 ∷ []) ∷ []) ((11 ∷ []) ∷ (12 ∷ []) ∷ []) ((21 ∷ []) ∷ (22 ∷ []) ∷ [])
other_block = refl

-- a call clears the local data and the constant actuals of one activation
abbrev zeros : ℕ → List ℕ
zeros count = replicate count 0

activation_is_cleared_alone : with_zero_activation 1 small
    ≡ contents_of (1 ∷ []) (2 ∷ []) (3 ∷ 4 ∷ []) two_blocks ((11 ∷ []) ∷ zeros 256 ∷ []) ((21 ∷ []) ∷ zeros 256 ∷ [])
activation_is_cleared_alone = refl

-- Numbers that ascend

ascending : Ascend 1 (1 ∷ 2 ∷ 65535 ∷ [])
ascending = (omega arith, (omega arith, (omega arith, tt)))

no_numbers : Ascend 1 []
no_numbers = tt

zero_is_no_number : Ascend 1 (0 ∷ []) → ⊥
zero_is_no_number a = let first = a.0 in omega arith

twice_the_same : Ascend 1 (7 ∷ 7 ∷ []) → ⊥
twice_the_same a = let second = a.1.0 in omega arith

falling : Ascend 1 (7 ∷ 6 ∷ []) → ⊥
falling a = let second = a.1.0 in omega arith

-- Blocks that match given ones: the same numbers, as many bytes each, and each of them a byte

two_bytes : (b c : ℕ) → b < 256 → c < 256 → IsArea 2 (b ∷ c ∷ [])
two_bytes b c h k = record { sized = refl; bytes = All-cons (λ n. n < 256) b (c ∷ []) h (All-cons (λ n. n < 256) c [] k (All-nil (λ n. n < 256))) }

other_bytes_match : Match (block 3 (255 ∷ 0 ∷ []) ∷ block 10 (1 ∷ 2 ∷ []) ∷ []) two_blocks
other_bytes_match = (refl, two_bytes 255 0 (omega arith) (omega arith), (refl, two_bytes 1 2 (omega arith) (omega arith), tt))

other_number : Match (block 4 (5 ∷ 6 ∷ []) ∷ []) (block 3 (5 ∷ 6 ∷ []) ∷ []) → ⊥
other_number m = let same : ◌≡◌ {A = ℕ} 4 3 = m.0 in omega arith

block_is_longer : Match (block 3 (5 ∷ 6 ∷ 7 ∷ []) ∷ []) (block 3 (5 ∷ 6 ∷ []) ∷ []) → ⊥
block_is_longer m = let same : ◌≡◌ {A = ℕ} 3 2 = m.1.sized in omega arith

block_is_shorter : Match (block 3 (5 ∷ []) ∷ []) (block 3 (5 ∷ 6 ∷ []) ∷ []) → ⊥
block_is_shorter m = let same : ◌≡◌ {A = ℕ} 1 2 = m.1.sized in omega arith

no_byte : Match (block 3 (5 ∷ 256 ∷ []) ∷ []) (block 3 (5 ∷ 6 ∷ []) ∷ []) → ⊥
no_byte m = let second : 256 < 256 = m.1.bytes 1 0 (lit< tt) in omega arith

block_is_missing : Match (block 3 (5 ∷ 6 ∷ []) ∷ []) two_blocks → ⊥
block_is_missing m = m.2

block_too_many : Match two_blocks (block 3 (5 ∷ 6 ∷ []) ∷ []) → ⊥
block_too_many m = m.2

blocks_in_another_order : Match (block 10 (7 ∷ 8 ∷ []) ∷ block 3 (5 ∷ 6 ∷ []) ∷ []) two_blocks → ⊥
blocks_in_another_order m = let same : ◌≡◌ {A = ℕ} 10 3 = m.0 in omega arith

-- Memories with these data blocks: 2,048 bytes of inputs and of outputs and 8,192 of bit memory

filled : (count b : ℕ) → b < 256 → IsArea count (replicate count b)
filled count b h = record { sized = length-replicate count b; bytes = All-replicate (λ n. n < 256) count b h }

abbrev areas_of : ℕ → ℕ → ℕ → List DataBlock → Areas
areas_of inputs outputs markers blocks = record { inputs = replicate inputs 255; outputs = replicate outputs 0; markers = replicate markers 1; blocks = blocks }

full_memory : IsMemoryOf two_blocks (areas_of 2048 2048 8192 (block 3 (0 ∷ 0 ∷ []) ∷ block 10 (0 ∷ 0 ∷ []) ∷ []))
full_memory =
    record {
      inputs = filled 2048 255 (omega arith);
      outputs = filled 2048 0 (omega arith);
      markers = filled 8192 1 (omega arith);
      matching = (refl, two_bytes 0 0 (omega arith) (omega arith), (refl, two_bytes 0 0 (omega arith) (omega arith), tt));
    }

too_few_inputs : IsMemoryOf [] (areas_of 2047 2048 8192 []) → ⊥
too_few_inputs m = let sized : ◌≡◌ {A = ℕ} 2047 2048 = sym (length-replicate {A = ℕ} 2047 255) ∙ m.inputs.sized in omega arith

too_many_outputs : IsMemoryOf [] (areas_of 2048 2049 8192 []) → ⊥
too_many_outputs m = let sized : ◌≡◌ {A = ℕ} 2049 2048 = sym (length-replicate {A = ℕ} 2049 0) ∙ m.outputs.sized in omega arith

too_few_markers : IsMemoryOf [] (areas_of 2048 2048 2048 []) → ⊥
too_few_markers m = let sized : ◌≡◌ {A = ℕ} 2048 8192 = sym (length-replicate {A = ℕ} 2048 1) ∙ m.markers.sized in omega arith

memory_without_its_block : IsMemoryOf (block 3 (5 ∷ 6 ∷ []) ∷ []) (areas_of 2048 2048 8192 []) → ⊥
memory_without_its_block m = m.matching

-- Data blocks that a memory may have: ascending, from 2 bytes to 16,384

blocks_may_be : AreBlocks two_blocks
blocks_may_be = record {
  ascend = (omega arith, (omega arith, tt));
  few = omega arith;
  sized =
      All-cons IsSized (block 3 (5 ∷ 6 ∷ [])) (block 10 (7 ∷ 8 ∷ []) ∷ []) (omega arith, omega arith)
      (All-cons IsSized (block 10 (7 ∷ 8 ∷ [])) [] (omega arith, omega arith) (All-nil IsSized));
}

one_byte_is_too_few : AreBlocks (block 1 (0 ∷ []) ∷ []) → ⊥
one_byte_is_too_few b = let least = (b.sized 0 (block 0 []) (lit< tt)).0 in omega arith

block_0_is_none : AreBlocks (block 0 (0 ∷ 0 ∷ []) ∷ []) → ⊥
block_0_is_none b = let first = b.ascend.0 in omega arith

most_bytes : IsSized (block 1 (replicate 16384 0))
most_bytes = let size = length-replicate {A = ℕ} 16384 0 in (omega arith, omega arith)

one_byte_is_too_many : IsSized (block 1 (replicate 16385 0)) → ⊥
one_byte_is_too_many s = let size = length-replicate {A = ℕ} 16385 0 in let most = s.1 in omega arith

-- A new memory: zeros, but for its data blocks, with local data and constant actuals of eight activations

new_inputs : bytes_of area.I (fresh two_blocks) ≡ Some (replicate 2048 0)
new_inputs = refl

new_outputs : bytes_of area.Q (fresh two_blocks) ≡ Some (replicate 2048 0)
new_outputs = refl

new_markers : bytes_of area.M (fresh two_blocks) ≡ Some (replicate 8192 0)
new_markers = refl

new_block : bytes_of (area.Db 10) (fresh two_blocks) ≡ Some (7 ∷ 8 ∷ [])
new_block = refl

last_locals : bytes_of (area.Local 7) (fresh two_blocks) ≡ Some (replicate 256 0)
last_locals = refl

no_ninth_locals : bytes_of (area.Local 8) (fresh two_blocks) ≡ None
no_ninth_locals = refl

last_cells : bytes_of (area.Cell 7) (fresh two_blocks) ≡ Some (replicate 256 0)
last_cells = refl

no_ninth_cells : bytes_of (area.Cell 8) (fresh two_blocks) ≡ None
no_ninth_cells = refl

-- Data blocks as a memory stores them: the numbers, and the bytes in their order

blocks_are_joined : data_blocks_of (3 ∷ 10 ∷ []) ((5 ∷ 6 ∷ []) ∷ (7 ∷ 8 ∷ []) ∷ []) ≡ two_blocks
blocks_are_joined = refl

place_of_a_number : position_of 10 (3 ∷ 10 ∷ []) ≡ Some 1
place_of_a_number = refl

no_place_of_a_number : position_of 4 (3 ∷ 10 ∷ []) ≡ None
no_place_of_a_number = refl
