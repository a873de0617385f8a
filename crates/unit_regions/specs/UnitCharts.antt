-- What is known of the chart of a unit and of its segments: where the unit is cut, and how each segment is written.
-- Held against: this project's own segments.
use Rattle.std.specs.Prelude.{◌≡◌, ◌⊎◌, ◌↔◌, ℕ, ◌<◌, ◌≤◌, Bool, true, false, ◌&&◌, List, [], ◌∷◌, length, Option, Some, None}
use Rattle.st_tree.specs.declared.graph.StNode.{StNode}
use Rattle.stl_tree.specs.Segments.{AreCuts, IsReached}
use Rattle.stl_tree.specs.Flows.{IsSegment, Segment, blocks_of}
use Rattle.graph_rules.specs.Flow.{flow_of}
use Rattle.nesting_laws.specs.Plans.{IsPlanOf, Plan}
use Rattle.region_laws.specs.Regions.{arm_of}
use Rattle.region_plans.specs.Charts.{IsCharted, IsHeaded}
use Rattle.region_plans.specs.PlanRegion.{Chart}
use Rattle.unit_regions.specs.UnitRegion.{Section, falls_off, section_region}

-- the blocks of some nodes from one up to, and not including, another
abbrev pub blocks_between : List StNode → ℕ → ℕ → Segment
blocks_between nodes first past = record { flow = flow_of nodes; first = first; past = past }

abbrev pub segment_of : Chart → ℕ → ℕ → Segment
segment_of c first past = blocks_between c.unit.nodes first past

-- which blocks of a unit are reached, and the points at which it can be cut
pub record IsCutUp (nodes : List StNode) (reached : ℕ → Bool) (cuts : List ℕ) : Type 0 where
  pub reaches : (b : ℕ) → (reached b ≡ true) ↔ IsReached (blocks_of (flow_of nodes)) b
  pub there : (b : ℕ) → reached b ≡ true → b < length nodes
  pub points : AreCuts (blocks_of (flow_of nodes)) cuts

-- the first of some cuts, or the end of the unit
abbrev pub cut_or_end : Chart → List ℕ → ℕ
cut_or_end c [] = length c.unit.nodes
cut_or_end c (cut ∷ cuts) = cut

-- a dispatch loop has the blocks of its segment that are reached, and no others
pub record IsDispatched (c : Chart) (first past : ℕ) : Type 0 where
  pub arm : (b : ℕ) → first ≤ b → b < past → c.unit.reached b ≡ true → c.unit.marks b ≡ arm_of first
  pub only : (b : ℕ) → c.unit.marks b ≡ arm_of first → (first ≤ b) × (b < past) × (c.unit.reached b ≡ true)

-- a segment is written by its plan, or as a dispatch loop
abbrev pub IsWrittenBy : Chart → ℕ → ℕ → Option Plan → Type 0
IsWrittenBy c first past None = IsDispatched c first past
IsWrittenBy c first past (Some plan) = IsCharted c (segment_of c first past) × IsPlanOf (segment_of c first past) plan

-- what stands behind a segment is written: the segment falls off its end, and the block there is reached
abbrev pub goes_on : Chart → Section → ℕ → Bool
goes_on c s cut = c.unit.reached cut && falls_off (section_region c s)

-- the segments of a unit that are written, in a row from a cut on, with the cuts behind it, and what holds of each
abbrev pub AreInRow : (ℕ → ℕ → Option Plan → Type 0) → Chart → ℕ → List ℕ → List Section → Type 0
AreInRow P c first cuts [] = ⊥
AreInRow P c first [] (s ∷ rest) =
    (s.first ≡ first) × (s.past ≡ length c.unit.nodes) × P s.first s.past s.plan × (rest ≡ [])
AreInRow P c first (cut ∷ cuts) (s ∷ rest) =
    (s.first ≡ first) × (s.past ≡ cut) × P s.first s.past s.plan
    × (((goes_on c s cut ≡ false) × (rest ≡ [])) ⊎ ((goes_on c s cut ≡ true) × AreInRow P c cut cuts rest))

-- those of a whole unit
abbrev pub AreInAll : (ℕ → ℕ → Option Plan → Type 0) → Chart → List ℕ → List Section → Type 0
AreInAll P c [] sections = ⊥
AreInAll P c (cut ∷ cuts) sections = AreInRow P c cut cuts sections

-- the segments of a unit, each written so
abbrev pub AreSections : Chart → List ℕ → List Section → Type 0
AreSections c cuts sections = AreInAll (IsWrittenBy c) c cuts sections

-- the heads of the loops of a segment are marked so, or its blocks are those of a dispatch loop
abbrev pub IsMarked : Chart → Segment → Type 0
IsMarked c g = ((h : ℕ) → g.first ≤ h → h < g.past → IsHeaded c g h) ⊎ IsDispatched c g.first g.past

-- each segment of a unit is marked so
abbrev pub AreMarked : Chart → Type 0
AreMarked c = (first past : ℕ) → IsSegment (segment_of c first past) → IsMarked c (segment_of c first past)
