-- The region of a unit fits, and what exits of its nodes lead to lies ahead, or takes a unit of work.
use Rattle.std.specs.Prelude.{◌≡◌, ℕ, ◌+◌, ◌≤◌, Bool, true, false, not, if◌then◌else◌, List, [], ◌∷◌, ◌++◌, length, slice_get, Some}
use Rattle.st_tree.specs.BodyParts.{statements_in}
use Rattle.st_tree.specs.declared.expr.Expr.{Expr}
use Rattle.st_tree.specs.declared.graph.StExit.TheVariants as exit
use Rattle.st_tree.specs.declared.graph.StNode.{StNode}
use Rattle.st_tree.specs.declared.program.Stmt.{Stmt}
use Rattle.st_tree.specs.declared.program.Stmt.TheVariants as stmt
use Rattle.stl_tree.specs.Segments.{AreCuts}
use Rattle.stl_tree.specs.Flows.{IsSegment, blocks_of}
use Rattle.graph_rules.specs.Flow.{flow_of}
use Rattle.graph_rules.specs.Plain.{AreSettings, AreSteps}
use Rattle.nesting_laws.specs.Plans.{LeadsTo}
use Rattle.region_laws.specs.Regions.{Around, Fits, LeadsOnward, Marked, Place, Region, at, no_loop, out, text_of}
use Rattle.region_plans.specs.PlanRegion.{Chart}
use Rattle.region_plans.specs.RegionCounts.{Weights, before, weight}
use Rattle.region_plans.specs.TextCounts.{block_tests, block_whiles, if_tests_in, while_tests_in}
use Rattle.region_laws.specs.RegionDepth.{depth}
use Rattle.unit_regions.specs.UnitCharts.{AreMarked, AreSections, IsCutUp, IsDispatched, cut_or_end, segment_of}
use Rattle.unit_regions.specs.UnitCounts.{AreLow, loop_blocks_of, loops_of, loops_sum, loops_weight, sections_sum, unit_block_weight, unit_statements}
use Rattle.unit_regions.specs.UnitRegion.{Section, arm_region, dispatch_region, ends_by_return, entry_arms, falls_off, followed_by, lead_to, place_of, unit_region}

-- One region after another

-- regions fit one after another
abbrev pub FollowedByFits : Type 0
FollowedByFits = (unit : Marked) (turn : Bool) (r more : Region) (p q follow : Place) (a : Around)
    → Fits unit turn r p q a → Fits unit false more q follow a → Fits unit turn (followed_by r more) p follow a

-- where the first does not fall off its end, any other may follow
abbrev pub FollowedByAnyFits : Type 0
FollowedByAnyFits = (unit : Marked) (turn : Bool) (r more : Region) (p q follow : Place) (a : Around)
    → falls_off r ≡ false → Fits unit turn r p q a → Fits unit turn (followed_by r more) p follow a

-- the texts of regions stand one after another, where the first falls off its end
abbrev pub FollowedByText : Type 0
FollowedByText = (next : ℕ) (r more : Region)
    → text_of next (followed_by r more) ≡ text_of next r ++ (if falls_off r then text_of next more else [])

-- the text of a region that stands in no loop ends by RETURN exactly where the region does not fall off its end
abbrev pub EndsByReturn : Type 0
EndsByReturn = (unit : Marked) (turn : Bool) (next : ℕ) (r : Region) (p follow : Place)
    → ((i : ℕ) (n : StNode) → slice_get unit.nodes i ≡ Some n → AreSteps n.steps) → Fits unit turn r p follow no_loop
    → ends_by_return (text_of next r) ≡ not (falls_off r)

-- the text of a block with a table has an arm for each entry
abbrev pub TableText : Type 0
TableText = (next first past : ℕ) (follow : Place) (i : ℕ) (steps : List Stmt) (e : Expr) (targets : List ℕ) (last : ℕ)
    → text_of next (arm_region first past follow i steps (exit.Table e targets last))
    ≡ steps ++ stmt.Case e (entry_arms next past 0 targets) (text_of next (lead_to past last)) ∷ []

-- Segments

-- between a cut and the next one there is a segment
abbrev pub CutsMakeSegments : Type 0
CutsMakeSegments = (c : Chart) (done : List ℕ) (first : ℕ) (cuts : List ℕ)
    → AreCuts (blocks_of (flow_of c.unit.nodes)) (done ++ first ∷ cuts)
    → IsSegment (segment_of c first (cut_or_end c cuts))

-- a block of a segment leads to one of the segment, or to the block after it
abbrev pub LeadsStay : Type 0
LeadsStay = (c : Chart) (cuts : List ℕ) (first past : ℕ) → IsCutUp c.unit.nodes c.unit.reached cuts
    → IsSegment (segment_of c first past) → (b t : ℕ) → LeadsTo (segment_of c first past) b t → (first ≤ t) × (t ≤ past)

-- a dispatch loop fits
abbrev pub DispatchFits : Type 0
DispatchFits = (c : Chart) (cuts : List ℕ) (first past : ℕ) → IsCutUp c.unit.nodes c.unit.reached cuts
    → IsSegment (segment_of c first past) → IsDispatched c first past → c.unit.reached first ≡ true
    → Fits c.unit false (dispatch_region c first past (place_of c past)) (at first) (place_of c past) no_loop

-- Units

-- the region of a unit fits
abbrev pub UnitFits : Type 0
UnitFits = (c : Chart) (cuts : List ℕ) (sections : List Section) → IsCutUp c.unit.nodes c.unit.reached cuts
    → AreSections c cuts sections
    → Fits c.unit false (unit_region c sections) (at 0) out no_loop

-- what exits of reached nodes lead to lies ahead, or takes a unit of work
abbrev pub UnitLeadsOnward : Type 0
UnitLeadsOnward = (c : Chart) (cuts : List ℕ) → IsCutUp c.unit.nodes c.unit.reached cuts → AreMarked c
    → (i : ℕ) (node : StNode) → c.unit.reached i ≡ true → slice_get c.unit.nodes i ≡ Some node
    → LeadsOnward c.unit i node.exit

-- Counts

-- a unit has a dispatch loop for each segment without a plan, with the blocks of the segment that are reached
abbrev pub UnitLoops : Type 0
UnitLoops = (count : List ℕ → ℕ) (c : Chart) (cuts : List ℕ) (sections : List Section) → AreSections c cuts sections
    → loops_sum count (unit_region c sections) ≡ sections_sum count c.unit.reached sections

-- there are as many as segments without a plan
abbrev pub LoopsAreFew : Type 0
LoopsAreFew = (c : Chart) (cuts : List ℕ) (sections : List Section) → AreSections c cuts sections
    → loops_sum (λ labels. 1) (unit_region c sections) ≡ loops_of sections

-- they have no more arms than these have blocks
abbrev pub ArmsAreFew : Type 0
ArmsAreFew = (c : Chart) (cuts : List ℕ) (sections : List Section) → AreSections c cuts sections
    → loops_sum length (unit_region c sections) ≤ loop_blocks_of sections

-- the region of a unit weighs no more than its blocks and dispatch loops, whatever is counted
abbrev pub UnitIsWithin : Type 0
UnitIsWithin = (w : Weights) (c : Chart) (cuts : List ℕ) (sections : List Section)
    → IsCutUp c.unit.nodes c.unit.reached cuts → AreSections c cuts sections
    → weight w (unit_region c sections) ≤ before (unit_block_weight w c) (length c.unit.nodes) + loops_weight w sections

-- the region of a unit is at most 65 deep
abbrev pub UnitIsFlat : Type 0
UnitIsFlat = (c : Chart) (sections : List Section) → AreLow sections → depth (unit_region c sections) ≤ 65

-- the text of a unit of nodes with steps is as short as its blocks let it be: no more tests of IF than blocks with a
-- test, a WHILE for each head and each dispatch loop, and few statements besides those of blocks
pub record IsShortUnit (c : Chart) (sections : List Section) (body : List Stmt) : Type 0 where
  pub tests : length (if_tests_in body) ≤ before (block_tests c) (length c.unit.nodes)
  pub whiles : length (while_tests_in body) ≤ before (block_whiles c) (length c.unit.nodes) + loops_of sections
  pub statements : length (statements_in body)
      ≤ before (unit_statements c) (length c.unit.nodes) + (loops_of sections + loops_of sections + loops_of sections)

abbrev pub UnitIsShort : Type 0
UnitIsShort = (c : Chart) (cuts : List ℕ) (sections : List Section) (next : ℕ)
    → ((i : ℕ) (n : StNode) → slice_get c.unit.nodes i ≡ Some n → AreSteps n.steps)
    → IsCutUp c.unit.nodes c.unit.reached cuts → AreSections c cuts sections → AreSettings c.end_steps
    → length c.end_steps ≤ 4
    → IsShortUnit c sections (text_of next (unit_region c sections))
