-- Data blocks in the order of their numbers.
use Rattle.std.specs.Prelude.{◌≡◌, ℕ, ◌≤◌, ◌==◌, List, [], ◌∷◌}
use Rattle.std.specs.List.{filter}
use Rattle.memory_areas.specs.declared.data_block.DataBlock.{DataBlock}

-- the numbers do not fall, and none is less than this
abbrev pub Rises : ℕ → List DataBlock → Type 0
Rises least [] = Unit {0}
Rises least (b ∷ rest) = (least ≤ b.number) × Rises b.number rest

-- the data blocks of a number
abbrev pub of_number : ℕ → List DataBlock → List DataBlock
of_number n blocks = filter (λ (b : DataBlock). b.number == n) blocks

-- the same data blocks in the order of their numbers: those of each number are in the order that they had
pub record AreInOrder (before after : List DataBlock) : Type 0 where
  pub rises : Rises 0 after
  pub kept : (n : ℕ) → of_number n after ≡ of_number n before
