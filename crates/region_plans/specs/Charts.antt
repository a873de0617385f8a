-- What is known of the chart of a unit and of the parts of a segment: which blocks are reached, where the next one is,
-- and which blocks are heads of loops.
-- Held against: this project's own segments.
use Rattle.std.specs.Prelude.{◌≡◌, ◌≢◌, ◌⊎◌, ◌↔◌, ℕ, suc, ◌<◌, ◌≤◌, Bool, true, false, List, [], length, slice_get, Some}
use Rattle.st_tree.specs.declared.graph.StExit.TheVariants as exit
use Rattle.st_tree.specs.declared.graph.StNode.{StNode}
use Rattle.stl_tree.specs.Blocks.{one_of}
use Rattle.stl_tree.specs.Segments.{IsReached}
use Rattle.stl_tree.specs.Flows.{IsEndBlock, IsLoop, Segment, blocks_of}
use Rattle.graph_rules.specs.Flow.{flow_of}
use Rattle.graph_rules.specs.Plain.{AreSettings}
use Rattle.nesting_laws.specs.Plans.{Around, LeadsTo, inside, no_loop}
use Rattle.region_laws.specs.Regions as regions
use Rattle.region_laws.specs.Regions.{Place, at, loop_head, unmarked}
use Rattle.region_plans.specs.PlanRegion.{Chart}

-- Charts

-- the next block of a chart: the first one behind a block that is reached, or there is none
pub record IsNext (c : Chart) (b : ℕ) : Type 0 where
  pub ahead : b < c.next b
  pub bare : (q : ℕ) → b < q → q < c.next b → c.unit.reached q ≡ false
  pub found : (c.unit.reached (c.next b) ≡ true) ⊎ (c.next b ≡ length c.unit.nodes)

-- a block is the head of a loop of a segment and marked so, or is neither
abbrev pub IsHeaded : Chart → Segment → ℕ → Type 0
IsHeaded c g h =
    ((l : ℕ) × IsLoop g h l × (c.unit.marks h ≡ loop_head))
    ⊎ (((l : ℕ) → IsLoop g h l → ⊥) × (c.unit.marks h ≡ unmarked))

-- a block has the end steps, ends the unit and has no mark
pub record IsEnd (c : Chart) (t : ℕ) : Type 0 where
  pub node : StNode
  pub there : slice_get c.unit.nodes t ≡ Some node
  pub steps : node.steps ≡ c.end_steps
  pub exit : node.exit ≡ exit.End
  pub free : c.unit.marks t ≡ unmarked

-- a chart is that of the body of a segment, with the marks of the segment
pub record IsCharted (c : Chart) (g : Segment) : Type 0 where
  pub flow : g.flow ≡ flow_of c.unit.nodes
  pub within : g.past ≤ length c.unit.nodes
  pub reached : (b : ℕ) → (c.unit.reached b ≡ true) ↔ IsReached (blocks_of g.flow) b
  pub there : (b : ℕ) → c.unit.reached b ≡ true → b < length c.unit.nodes
  -- a jump list has entries, and its label is right behind it
  pub lists : (b : ℕ) (targets : List ℕ) (label : ℕ) → slice_get g.flow.ways b ≡ Some (one_of targets label)
      → (targets ≢ []) × (label ≡ suc b)
  pub nexts : (b : ℕ) → b < length c.unit.nodes → IsNext c b
  pub heads : (h : ℕ) → g.first ≤ h → h < g.past → IsHeaded c g h
  -- the block of the end word alone, where a block of the segment leads there
  pub ends : (b t : ℕ) → LeadsTo g b t → IsEndBlock g.flow t → IsEnd c t
  pub settings : AreSettings c.end_steps
  pub few : length c.end_steps ≤ 4

-- a chart as it is drawn from the blocks of the body of a segment, where each jump list has entries: what is reached,
-- what is next, which blocks of the segment are heads, and what the block of the end word alone is
pub record IsDrawn (c : Chart) (g : Segment) : Type 0 where
  pub flow : g.flow ≡ flow_of c.unit.nodes
  pub reached : (b : ℕ) → (c.unit.reached b ≡ true) ↔ IsReached (blocks_of g.flow) b
  pub entries : (b : ℕ) (targets : List ℕ) (label : ℕ) → slice_get g.flow.ways b ≡ Some (one_of targets label)
      → targets ≢ []
  pub nexts : (b : ℕ) → b < length c.unit.nodes → IsNext c b
  pub heads : (h : ℕ) → g.first ≤ h → h < g.past → IsHeaded c g h
  pub end_is : (t : ℕ) (n : StNode) → IsEndBlock g.flow t → slice_get c.unit.nodes t ≡ Some n → n.steps ≡ c.end_steps
  -- where the block of the end word alone comes next, it is no head and no node of a dispatch loop
  pub end_free : IsEndBlock g.flow g.past → c.unit.marks g.past ≡ unmarked
  pub settings : AreSettings c.end_steps
  pub few : length c.end_steps ≤ 4

-- Parts

-- a block is the first one of a part that is reached
pub record IsFirst (c : Chart) (lo hi p : ℕ) : Type 0 where
  pub low : lo ≤ p
  pub high : p < hi
  pub reached : c.unit.reached p ≡ true
  pub bare : (q : ℕ) → lo ≤ q → q < p → c.unit.reached q ≡ false

-- no block of a part is reached
abbrev pub IsEmpty : Chart → ℕ → ℕ → Type 0
IsEmpty c lo hi = (q : ℕ) → lo ≤ q → q < hi → c.unit.reached q ≡ false

-- a place is that of a block, if that is reached
abbrev pub IsPlaceOf : Chart → ℕ → Place → Type 0
IsPlaceOf c f p = c.unit.reached f ≡ true → p ≡ at f

-- the loop around a part, by its blocks and by its places. The place behind it is that of a block where it may be left
abbrev pub IsAround : Chart → Around → regions.Around → Type 0
IsAround c no_loop regions.no_loop = Unit {0}
IsAround c no_loop (regions.inside head behind) = ⊥
IsAround c (inside left h l) regions.no_loop = ⊥
IsAround c (inside left h l) (regions.inside head behind) =
    (head ≡ at h) × (left ≡ true → IsPlaceOf c (suc l) behind)

-- the place to which a part leads when it falls off its end is that of a block, and so are those of the loop around it
pub record IsPlaced (c : Chart) (f : ℕ) (a : Around) (follow : Place) (around : regions.Around) : Type 0 where
  pub falls : IsPlaceOf c f follow
  pub loops : IsAround c a around

-- a part lies in a segment. Where a turn of the loop around begins with it, its first block is reached
pub record IsPart (c : Chart) (g : Segment) (turn : Bool) (lo hi : ℕ) : Type 0 where
  pub low : g.first ≤ lo
  pub high : hi ≤ g.past
  pub turned : turn ≡ true → IsFirst c lo hi lo
