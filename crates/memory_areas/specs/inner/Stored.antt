-- How data blocks are stored: their numbers in one list, their bytes in another.
use Rattle.std.specs.Prelude.{ℕ, ◌+◌, ◌≤◌, ◌==◌, if◌then◌else◌, List, [], ◌∷◌, length, Option, Some, None}
use Rattle.memory_areas.specs.declared.data_block.DataBlock.{DataBlock}

-- an area that exists has room for some bytes from byte i on
abbrev pub HasRoom : Option (List ℕ) → ℕ → ℕ → Type 0
HasRoom None i count = ⊥
HasRoom (Some bytes) i count = i + count ≤ length bytes

-- data blocks from their numbers and their bytes
abbrev pub data_blocks_of : List ℕ → List (List ℕ) → List DataBlock
data_blocks_of [] bytes = []
data_blocks_of (n ∷ ns) [] = []
data_blocks_of (n ∷ ns) (b ∷ bs) = record { number = n; bytes = b } ∷ data_blocks_of ns bs

-- one place further
abbrev pub one_further : Option ℕ → Option ℕ
one_further None = None
one_further (Some i) = Some (i + 1)

-- the place of a number in a list, counted from 0
abbrev pub position_of : ℕ → List ℕ → Option ℕ
position_of n [] = None
position_of n (m ∷ ms) = if m == n then Some 0 else one_further (position_of n ms)
