-- What is known of the blocks of a unit before it is written.
-- Held against: this project's own segments.
use Rattle.std.specs.Prelude.{◌≡◌, ℕ, suc, ◌<◌, ◌≤◌, Bool, true, false, List, [], ◌∷◌, Option, Some, None, length, map, get_or}
use Rattle.stl_tree.specs.Segments.{IsReached, JumpsTo}
use Rattle.stl_tree.specs.Flows.{Flow, blocks_of}
use Rattle.flow_graph.specs.Graphs.{way_by}
use Rattle.flow_graph.specs.Reached.{AreReached}
use Rattle.segment_plans.specs.declared.blocks.Blocks.{Blocks}

-- a block that is reached jumps to another
abbrev pub IsReachedJump : Flow → ℕ → ℕ → Type 0
IsReachedJump flow s t = IsReached (blocks_of flow) s × JumpsTo (blocks_of flow) s t

-- the last block that jumps back to a block, or none does
abbrev pub IsLastBack : Flow → ℕ → Option ℕ → Type 0
IsLastBack flow h None = (s : ℕ) → IsReachedJump flow s h → s < h
IsLastBack flow h (Some l) = IsReachedJump flow l h × (h ≤ l) × ((s : ℕ) → IsReachedJump flow s h → s ≤ l)

-- how many blocks before each one are reached, and how many in all
abbrev pub counts_from : ℕ → List Bool → List ℕ
counts_from n [] = n ∷ []
counts_from n (true ∷ rest) = n ∷ counts_from (suc n) rest
counts_from n (false ∷ rest) = n ∷ counts_from n rest

-- it is known of the blocks of a unit how it goes on after each, which are reached, and where loops end
pub record AreKnown (flow : Flow) (blocks : Blocks) : Type 0 where
  pub exits : map way_by blocks.exits.items ≡ flow.ways
  pub alone : blocks.ends_alone ≡ flow.ends_alone
  pub reached : AreReached (blocks_of flow) blocks.reached.items
  pub lasts : (h : ℕ) → h < length flow.ways → IsLastBack flow h (get_or blocks.lasts.items h None)
  pub counts : blocks.counts.items ≡ counts_from 0 blocks.reached.items
