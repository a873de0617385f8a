-- The memory of a controller, in bytes. It has the inputs, the outputs, the bit memory, the data blocks, and the
-- local data and constant actuals of each activation. Words and double words have their highest byte first.
-- Held against: the manual's chapter 'Load and Transfer', and this project's own bounds.
use Rattle.std.specs.Prelude.{◌≡◌, ℕ, ◌+◌, ◌*◌, ◌/◌, ◌%◌, ◌^◌, ◌<◌, ◌≤◌, Bool, ◌==◌, nat_lt, if◌then◌else◌, List, [], ◌∷◌, ◌++◌, length, map, find, take, drop, get_or, slice_get, slice_set, replicate, All, Option, Some, option_map}
use Rattle.memory_areas.specs.declared.data_block.DataBlock.{DataBlock}
use Rattle.memory_areas.specs.declared.place.Area.{Area}
use Rattle.memory_areas.specs.declared.place.Area.TheVariants as area
use Rattle.memory_areas.specs.declared.sizes.TheConstants.{INPUT_BYTES, OUTPUT_BYTES, MARKER_BYTES, ACTIVATIONS, LOCAL_BYTES, MOST_BLOCKS, LEAST_BLOCK_BYTES, MOST_BLOCK_BYTES}

-- the areas that all activations share: the process images of the inputs and of the outputs, the bit memory, and the
-- data blocks in ascending order of their numbers
pub record Areas : Type 0 where
  pub inputs : List ℕ
  pub outputs : List ℕ
  pub markers : List ℕ
  pub blocks : List DataBlock

-- a memory: its areas, and the local data and the constant actuals of each activation
pub record Contents : Type 0 where
  pub areas : Areas
  pub locals : List (List ℕ)
  pub cells : List (List ℕ)

-- Sizes

-- the numbers ascend, and none is less than the first one allowed
abbrev pub Ascend : ℕ → List ℕ → Type 0
Ascend least [] = Unit {0}
Ascend least (n ∷ ns) = (least ≤ n) × Ascend (n + 1) ns

-- the numbers of some data blocks
abbrev pub numbers_of : List DataBlock → List ℕ
numbers_of blocks = map (λ (b : DataBlock). b.number) blocks

-- a data block has as many bytes as one may have
abbrev pub IsSized : DataBlock → Type 0
IsSized block = (LEAST_BLOCK_BYTES ≤ length block.bytes) × (length block.bytes ≤ MOST_BLOCK_BYTES)

-- the data blocks that a memory may have
pub record AreBlocks (blocks : List DataBlock) : Type 0 where
  pub ascend : Ascend 1 (numbers_of blocks)
  pub few : length blocks ≤ MOST_BLOCKS
  pub sized : All IsSized blocks

-- an area holds as many items as its size says, each a byte
pub record IsArea (size : ℕ) (items : List ℕ) : Type 0 where
  pub sized : length items ≡ size
  pub bytes : All (λ b. b < 256) items

-- the blocks of a memory match given ones: the same numbers with as many bytes each
abbrev pub Match : List DataBlock → List DataBlock → Type 0
Match [] [] = Unit {0}
Match [] (given ∷ more) = ⊥
Match (block ∷ rest) [] = ⊥
Match (block ∷ rest) (given ∷ more) =
    (block.number ≡ given.number) × IsArea (length given.bytes) block.bytes × Match rest more

-- a memory whose areas have their sizes, and that has exactly these data blocks
pub record IsMemoryOf (blocks : List DataBlock) (areas : Areas) : Type 0 where
  pub inputs : IsArea INPUT_BYTES areas.inputs
  pub outputs : IsArea OUTPUT_BYTES areas.outputs
  pub markers : IsArea MARKER_BYTES areas.markers
  pub matching : Match areas.blocks blocks

-- the local data, or the constant actuals, of an activation, all zero
abbrev pub zero_locals : List ℕ
zero_locals = replicate LOCAL_BYTES 0

-- local data, or constant actuals, of each activation, all zero
abbrev pub no_locals : List (List ℕ)
no_locals = replicate ACTIVATIONS zero_locals

-- a memory with these areas, whose local data and constant actuals are zero
abbrev pub with_areas : Areas → Contents
with_areas areas = record { areas = areas; locals = no_locals; cells = no_locals }

-- a new memory: all zero but for its data blocks
abbrev pub fresh : List DataBlock → Contents
fresh blocks =
    with_areas (record {
      inputs = replicate INPUT_BYTES 0;
      outputs = replicate OUTPUT_BYTES 0;
      markers = replicate MARKER_BYTES 0;
      blocks = blocks;
    })

-- Bytes of an area

-- the data block of a number
abbrev pub block_of : ℕ → List DataBlock → Option DataBlock
block_of number blocks = find (λ (b : DataBlock). b.number == number) blocks

-- the data blocks, of which that of a number has other bytes
abbrev pub with_block : ℕ → List ℕ → List DataBlock → List DataBlock
with_block number bytes [] = []
with_block number bytes (b ∷ bs) =
    if b.number == number then record b { bytes = bytes } ∷ bs else b ∷ with_block number bytes bs

-- data blocks in ascending order of their numbers, and one more, before those that have its number or a greater one
abbrev pub insert_data_block : DataBlock → List DataBlock → List DataBlock
insert_data_block b [] = b ∷ []
insert_data_block b (c ∷ cs) = if nat_lt c.number b.number then c ∷ insert_data_block b cs else b ∷ c ∷ cs

-- the bytes of a data block, if it exists
abbrev pub bytes_in : Option DataBlock → Option (List ℕ)
bytes_in block = option_map (λ (b : DataBlock). b.bytes) block

-- the bytes of an area; none where its data block does not exist
abbrev pub bytes_of : Area → Contents → Option (List ℕ)
bytes_of area.I m = Some m.areas.inputs
bytes_of area.Q m = Some m.areas.outputs
bytes_of area.M m = Some m.areas.markers
bytes_of (area.Local d) m = slice_get m.locals d
bytes_of (area.Cell d) m = slice_get m.cells d
bytes_of (area.Db n) m = bytes_in (block_of n m.areas.blocks)

-- the memory with other bytes in an area, and all else as it was
abbrev pub with_bytes : Area → List ℕ → Contents → Contents
with_bytes area.I bytes m = record m { areas = record m.areas { inputs = bytes } }
with_bytes area.Q bytes m = record m { areas = record m.areas { outputs = bytes } }
with_bytes area.M bytes m = record m { areas = record m.areas { markers = bytes } }
with_bytes (area.Local d) bytes m = record m { locals = slice_set m.locals d bytes }
with_bytes (area.Cell d) bytes m = record m { cells = slice_set m.cells d bytes }
with_bytes (area.Db n) bytes m = record m { areas = record m.areas { blocks = with_block n bytes m.areas.blocks } }

-- the memory with zeros in the local data and the constant actuals of an activation
abbrev pub with_zero_activation : ℕ → Contents → Contents
with_zero_activation d m =
    record m { locals = slice_set m.locals d zero_locals; cells = slice_set m.cells d zero_locals }

-- Numbers in bytes: words and double words have their highest byte first

-- byte i of some bytes
abbrev pub byte_at : List ℕ → ℕ → ℕ
byte_at bytes i = get_or bytes i 0

-- the word that begins at byte i
abbrev pub word_at : List ℕ → ℕ → ℕ
word_at bytes i = 256 * byte_at bytes i + byte_at bytes (i + 1)

-- the double word that begins at byte i
abbrev pub dword_at : List ℕ → ℕ → ℕ
dword_at bytes i =
    2 ^ 24 * byte_at bytes i + 2 ^ 16 * byte_at bytes (i + 1) + 2 ^ 8 * byte_at bytes (i + 2) + byte_at bytes (i + 3)

-- bit x of a byte, counted from the lowest
abbrev pub bit_of_byte : ℕ → ℕ → Bool
bit_of_byte b x = b / 2 ^ x % 2 == 1

-- the byte with another bit x
abbrev pub byte_with : ℕ → ℕ → Bool → ℕ
byte_with b x v = b / 2 ^ (x + 1) * 2 ^ (x + 1) + (if v then 2 ^ x else 0) + b % 2 ^ x

-- the two bytes of a word, the high one first
abbrev pub bytes_of_word : ℕ → List ℕ
bytes_of_word w = w / 256 ∷ w % 256 ∷ []

-- the four bytes of a double word, the highest first
abbrev pub bytes_of_dword : ℕ → List ℕ
bytes_of_dword w = w / 2 ^ 24 ∷ w / 2 ^ 16 % 256 ∷ w / 2 ^ 8 % 256 ∷ w % 256 ∷ []

-- the bytes, of which those from byte i on are replaced by others
abbrev pub overwrite : List ℕ → ℕ → List ℕ → List ℕ
overwrite bytes i new = take i bytes ++ new ++ drop (i + length new) bytes
