-- The order of units, as positions of blocks.
use Rattle.std.specs.Prelude.{◌≡◌, ℕ, List, [], ◌∷◌, map, slice_get, Some}
use Rattle.stl_tree.specs.declared.program.Block.{Block}
use Rattle.instruction_lowering.specs.UnitNames.{unit_position}

-- the place of a block in the order, and its position
abbrev pub Pair : Type 0
Pair = ℕ × ℕ

-- some blocks stand at these positions among all blocks
abbrev pub AreBlocksAt : List Block → List ℕ → List Block → Type 0
AreBlocksAt blocks [] [] = Unit {0}
AreBlocksAt blocks [] (b ∷ rest) = ⊥
AreBlocksAt blocks (i ∷ positions) [] = ⊥
AreBlocksAt blocks (i ∷ positions) (b ∷ rest) = (slice_get blocks i ≡ Some b) × AreBlocksAt blocks positions rest

-- the positions of the units of all blocks
abbrev pub unit_positions : List Block → List ℕ
unit_positions blocks = map (λ (b : Block). unit_position blocks b.name) blocks
