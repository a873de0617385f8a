-- The test whether a memory may have some data blocks.
use Rattle.std.proofs.Common.{◌≡◌, ℕ, ◌+◌, ◌<◌, ◌≤◌, List, [], ◌∷◌, length, get_or, drop, sym, subst, arith}
use Rattle.std.specs.Prelude.{All}
use Rattle.std.proofs.lemmas.List.{drop_more}
use Rattle.std.proofs.lemmas.List.Elements.{All-cons, All-head, All-nil, All-tail}
use Rattle.memory_areas.specs.Areas.{AreBlocks, Ascend, IsSized, numbers_of}
use Rattle.memory_areas.specs.declared.data_block.DataBlock.{DataBlock}
use Rattle.memory_areas.specs.declared.sizes.TheConstants.{MOST_BLOCKS}

-- data blocks whose numbers ascend from a first one allowed, each of a size that one may have
pub record AreFrom (least : ℕ) (blocks : List DataBlock) : Type 0 where
  pub ascend : Ascend least (numbers_of blocks)
  pub sized : All IsSized blocks

-- what is left to test decides what was to be tested
pub record Decides (least : ℕ) (left blocks : List DataBlock) : Type 0 where
  pub enough : AreFrom least left → AreFrom 1 blocks
  pub needed : AreFrom 1 blocks → AreFrom least left

-- nothing is tested yet
pub begun : (blocks : List DataBlock) → Decides 1 blocks blocks
begun blocks = record { enough = λ a. a; needed = λ a. a }

-- the next block is left
left_with : (least : ℕ) (blocks : List DataBlock) (i : ℕ) (block : DataBlock)
    → i < length blocks → block ≡ get_or blocks i block → Decides least (drop i blocks) blocks
    → Decides least (block ∷ drop (i + 1) blocks) blocks
left_with least blocks i block h is d =
    subst (λ (b : DataBlock). Decides least (b ∷ drop (i + 1) blocks) blocks) (sym is)
    (subst (λ (left : List DataBlock). Decides least left blocks) (drop_more blocks i block h) d)

-- one block further
pub further : (least : ℕ) (blocks : List DataBlock) (i : ℕ) (block : DataBlock)
    → i < length blocks → block ≡ get_or blocks i block → Decides least (drop i blocks) blocks
    → least ≤ block.number → IsSized block → Decides (block.number + 1) (drop (i + 1) blocks) blocks
further least blocks i block h is d first sized =
    let left = left_with least blocks i block h is d in
    record {
      enough =
          λ (a : AreFrom (block.number + 1) (drop (i + 1) blocks)).
          left.enough (record { ascend = (first, a.ascend); sized = All-cons IsSized block (drop (i + 1) blocks) sized a.sized });
      needed = λ a. let all = left.needed a in record { ascend = all.ascend.1; sized = All-tail IsSized block (drop (i + 1) blocks) all.sized };
    }

-- a block that fails a test
pub failed : (least : ℕ) (blocks : List DataBlock) (i : ℕ) (block : DataBlock)
    → i < length blocks → block ≡ get_or blocks i block → Decides least (drop i blocks) blocks
    → AreBlocks blocks → (least ≤ block.number) × IsSized block
failed least blocks i block h is d a =
    let all = (left_with least blocks i block h is d).needed (record { ascend = a.ascend; sized = a.sized }) in
    (all.ascend.0, All-head IsSized block (drop (i + 1) blocks) all.sized)

-- no block is left
pub passed : (least : ℕ) (left blocks : List DataBlock) → length left ≡ 0 → Decides least left blocks → length blocks ≤ MOST_BLOCKS → AreBlocks blocks
passed least [] blocks e d few =
    let all = d.enough (record { ascend = tt; sized = All-nil IsSized }) in
    record { ascend = all.ascend; few = few; sized = all.sized }
passed least (b ∷ bs) blocks e d few = absurd (omega arith)
