-- What the statements of a unit are: the text of a region that fits its nodes from the first one on.
-- Held against: this project's own segments.
use Rattle.std.specs.Prelude.{◌≡◌, ℕ, ◌≤◌, Bool, true, false, not, List, length, slice_get, Some}
use Rattle.st_tree.specs.declared.graph.StNode.{StNode}
use Rattle.st_tree.specs.declared.program.Stmt.{Stmt}
use Rattle.region_laws.specs.Regions.{Fits, LeadsOnward, Mark, Marked, Region, at, is_arm, no_loop, out, text_of}
use Rattle.region_laws.specs.RegionDepth.{depth}
use Rattle.region_types.specs.UsesNext.{UsesNext}

-- some nodes, which of them are reached, and what each is besides
abbrev pub marked_unit : List StNode → (ℕ → Bool) → (ℕ → Mark) → Marked
marked_unit nodes reached marks = record { nodes = nodes; reached = reached; marks = marks }

-- some statements are those of a region that fits the nodes from the first one on, where `NEXT` is the local at a
-- position. The first node is reached, and so is what exits of reached nodes lead to; they lead forward where no unit
-- of work is taken. Without `NEXT` no node is one of a dispatch loop; with it `NEXT` is set and read only to choose by
-- it, and to positions of nodes alone. Lists of statements stand at most 65 deep in one another, beside those of the
-- steps
pub record IsRegionOf (nodes : List StNode) (next : ℕ) (without_next : Bool) (text : List Stmt) : Type 0 where
  pub region : Region
  pub reached : ℕ → Bool
  pub marks : ℕ → Mark
  pub body : text ≡ text_of next region
  pub first : reached 0 ≡ true
  pub fits : Fits (marked_unit nodes reached marks) false region (at 0) out no_loop
  pub onward : (i : ℕ) (node : StNode) → reached i ≡ true → slice_get nodes i ≡ Some node
      → LeadsOnward (marked_unit nodes reached marks) i node.exit
  pub arms : without_next ≡ true → (i k : ℕ) → is_arm k (marks i) ≡ false
  pub uses : UsesNext (not without_next) (length nodes) region
  pub low : depth region ≤ 65
