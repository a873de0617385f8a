-- The chart of a unit, made from what is found of its blocks: which are reached, where loops end, and which segments
-- have a plan.
-- Held against: this project's own segments.
use Rattle.std.specs.Prelude.{◌≡◌, ℕ, zero, suc, ◌-◌, ◌<◌, ◌≤◌, nat_le, nat_lt, Bool, true, false, ◌&&◌, if◌then◌else◌, List, [], ◌∷◌, length, slice_get, Option, Some, None}
use Rattle.st_tree.specs.declared.graph.StNode.{StNode}
use Rattle.st_tree.specs.declared.program.Stmt.{Stmt}
use Rattle.stl_tree.specs.Segments.{IsReached, JumpsTo, Ways}
use Rattle.stl_tree.specs.Flows.{blocks_of}
use Rattle.graph_rules.specs.Flow.{flow_of}
use Rattle.graph_rules.specs.Plain.{IsPlainNode}
use Rattle.nesting_laws.specs.Plans.{IsPlanOf, Plan}
use Rattle.nesting_laws.specs.Splitting.{MaySplit}
use Rattle.region_laws.specs.Regions.{Mark, arm_of, loop_head, text_of, unmarked}
use Rattle.region_plans.specs.PlanRegion.{Chart}
use Rattle.unit_regions.specs.UnitCharts.{AreInAll, AreInRow, IsCutUp, blocks_between}
use Rattle.unit_regions.specs.UnitCounts.{loops_of}
use Rattle.unit_regions.specs.UnitRegion.{Section, falls_off, region_by, unit_region}

-- Blocks

-- of so many blocks from one on the first that is reached, or the block after them
abbrev pub first_from : (ℕ → Bool) → ℕ → ℕ → ℕ
first_from reached b zero = b
first_from reached b (suc n) = if reached b then b else first_from reached (suc b) n

-- the steps of the block of the end word alone, which is the last one
abbrev pub ending_of : List StNode → List Stmt
ending_of [] = []
ending_of (n ∷ []) = if n.only_end then n.steps else []
ending_of (n ∷ m ∷ rest) = ending_of (m ∷ rest)

-- Marks

-- the number of the dispatch loop in which a block stands
abbrev pub loop_number : ℕ → Option Plan → Option ℕ
loop_number first None = Some first
loop_number first (Some plan) = None

abbrev pub loop_around : List Section → ℕ → Option ℕ
loop_around [] b = None
loop_around (s ∷ rest) b =
    if nat_le s.first b && nat_lt b s.past then loop_number s.first s.plan else loop_around rest b

-- the head of a loop, by the last block that jumps back to it
abbrev pub head_mark : Option ℕ → Mark
head_mark None = unmarked
head_mark (Some last) = loop_head

abbrev pub arm_mark : ℕ → Bool → Mark
arm_mark k true = arm_of k
arm_mark k false = unmarked

-- what a block is, by its dispatch loop, whether it is reached, and the last block that jumps back to it
abbrev pub mark_by : Option ℕ → Bool → Option ℕ → Mark
mark_by None reached last = head_mark last
mark_by (Some k) reached last = arm_mark k reached

-- Charts

-- the chart of a unit with these segments
abbrev pub chart_of : List StNode → (ℕ → Bool) → (ℕ → Option ℕ) → List Section → Chart
chart_of nodes reached lasts sections =
    record {
      unit =
          record {
            nodes = nodes;
            reached = reached;
            marks = λ b. mark_by (loop_around sections b) (reached b) (lasts b);
          };
      next = λ b. first_from reached (suc b) (length nodes - suc b);
      end_steps = ending_of nodes;
    }

-- Facts

-- the last block that is reached and jumps back to a block, or none does
abbrev pub IsLastBack : List Ways → ℕ → Option ℕ → Type 0
IsLastBack blocks h None = (s : ℕ) → IsReached blocks s → JumpsTo blocks s h → s < h
IsLastBack blocks h (Some l) =
    IsReached blocks l × JumpsTo blocks l h × (h ≤ l) × ((s : ℕ) → IsReached blocks s → JumpsTo blocks s h → s ≤ l)

-- what is found of the blocks of a unit is right
pub record IsFound (nodes : List StNode) (reached : ℕ → Bool) (lasts : ℕ → Option ℕ) (cuts : List ℕ) : Type 0 where
  pub whole : IsCutUp nodes reached cuts
  pub backs : (h : ℕ) → h < length nodes → IsLastBack (blocks_of (flow_of nodes)) h (lasts h)

-- the nodes of a unit are plain
abbrev pub ArePlain : List StNode → Type 0
ArePlain nodes = (i : ℕ) (node : StNode) → slice_get nodes i ≡ Some node → IsPlainNode (length nodes) i node

-- a segment may be written without the selector and has a plan, or may not
abbrev pub IsPlannedBy : List StNode → ℕ → ℕ → Option Plan → Type 0
IsPlannedBy nodes first past None = MaySplit (blocks_between nodes first past) → ⊥
IsPlannedBy nodes first past (Some plan) =
    MaySplit (blocks_between nodes first past) × IsPlanOf (blocks_between nodes first past) plan

-- the segments that are written, each with its plan, if it has one
abbrev pub ArePlanned : List StNode → (ℕ → Bool) → (ℕ → Option ℕ) → List ℕ → List Section → Type 0
ArePlanned nodes reached lasts cuts sections =
    AreInAll (IsPlannedBy nodes) (chart_of nodes reached lasts []) cuts sections

-- a text is that of segments that are written, from a cut on, where `NEXT` is the local at a position; so many of them
-- have no plan
abbrev pub IsTextFrom : List StNode → (ℕ → Bool) → (ℕ → Option ℕ) → ℕ → ℕ → List ℕ → List Stmt → ℕ → Type 0
IsTextFrom nodes reached lasts next b cuts body loops =
    (sections : List Section) × AreInRow (IsPlannedBy nodes) (chart_of nodes reached lasts []) b cuts sections
    × (body ≡ text_of next (unit_region (chart_of nodes reached lasts []) sections)) × (loops ≡ loops_of sections)

-- the text of the blocks from one up to, and not including, another
abbrev pub text_between : List StNode → (ℕ → Bool) → (ℕ → Option ℕ) → ℕ → ℕ → ℕ → Option Plan → List Stmt
text_between nodes reached lasts next b past plan =
    text_of next (region_by (chart_of nodes reached lasts []) b past plan)

-- what stands behind these blocks is written
abbrev pub has_more : List StNode → (ℕ → Bool) → (ℕ → Option ℕ) → ℕ → ℕ → Option Plan → Bool
has_more nodes reached lasts b past plan =
    reached past && falls_off (region_by (chart_of nodes reached lasts []) b past plan)

-- some statements are those of the segments that are written of a unit, where `NEXT` is the local at a position; so
-- many of them have no plan
pub record IsMade (nodes : List StNode) (next : ℕ) (text : List Stmt) (count : ℕ) : Type 0 where
  pub reached : ℕ → Bool
  pub lasts : ℕ → Option ℕ
  pub cuts : List ℕ
  pub sections : List Section
  pub found : IsFound nodes reached lasts cuts
  pub planned : ArePlanned nodes reached lasts cuts sections
  pub body : text ≡ text_of next (unit_region (chart_of nodes reached lasts []) sections)
  pub loops : count ≡ loops_of sections
