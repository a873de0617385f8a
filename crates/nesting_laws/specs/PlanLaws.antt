-- A segment has a plan exactly where its jumps are well nested by paths. It is well nested where all blocks right
-- before arms of its jump lists end arms, too.
use Rattle.std.specs.Prelude.{◌≡◌, ◌⊎◌, ℕ, suc, ◌<◌, ◌≤◌, List, true, All, length, slice_get, Some}
use Rattle.nesting_laws.specs.Plans.{IsPlanOf, Plan, levels}
use Rattle.stl_tree.specs.Blocks.{Way, one_of, stops}
use Rattle.stl_tree.specs.Flows.{AreNested, Flow, IsEndBlock, IsInLoop, IsInnermost, IsJump, IsList, IsLoop, IsSegment, Segment, falls_by, jumps_of}
use Rattle.stl_tree.specs.WellNested.{HasClosedArms, IsCaseEnd, IsShallow, IsWellNested, IsWellNestedByPaths}

-- each block leads to blocks, one that holds the end word alone ends its body, and the label of a jump list is right
-- behind it
pub record IsFlow (flow : Flow) : Type 0 where
  pub jumps : (b : ℕ) (way : Way) → slice_get flow.ways b ≡ Some way → All (λ t. t < length flow.ways) (jumps_of way)
  pub falls : (b : ℕ) (way : Way) → slice_get flow.ways b ≡ Some way → falls_by way ≡ true → suc b < length flow.ways
  pub labels : (b : ℕ) (targets : List ℕ) (label : ℕ) → slice_get flow.ways b ≡ Some (one_of targets label)
      → label ≡ suc b
  pub ends : flow.ends_alone ≡ true → (b : ℕ) → suc b ≡ length flow.ways → slice_get flow.ways b ≡ Some stops

-- what makes a segment well nested by paths, but for plain jumps: its loops are nested, jumps enter them at their heads
-- and leave them for the blocks behind or the end word, and each jump list has arms
pub record IsNested (g : Segment) : Type 0 where
  pub loops : (h l k m : ℕ) → IsLoop g h l → IsLoop g k m → AreNested h l k m
  pub entries : (s t h l : ℕ) → IsJump g s t → IsInLoop g h l t → IsInLoop g h l s ⊎ (t ≡ h)
  pub exits : (s t h l : ℕ) → IsJump g s t → IsInnermost g h l s
      → ((h ≤ t) × (t ≤ l)) ⊎ ((t ≡ suc l) ⊎ IsEndBlock g.flow t)
  pub cases : (x : ℕ) → IsList g x → (e : ℕ) × IsCaseEnd g x e

-- a segment with a plan is nested
abbrev pub PlannedIsNested : Type 0
PlannedIsNested = (g : Segment) (plan : Plan) → IsFlow g.flow → IsSegment g → IsPlanOf g plan → IsNested g

-- a segment with a plan is well nested by paths, where no block lies in too many spans
abbrev pub PlannedIsNestedByPaths : Type 0
PlannedIsNestedByPaths = (g : Segment) (plan : Plan) → IsFlow g.flow → IsSegment g → IsPlanOf g plan → IsShallow g
    → IsWellNestedByPaths g

-- a segment that is well nested by paths has a plan, at most 64 deep
abbrev pub NestedByPathsIsPlanned : Type 0
NestedByPathsIsPlanned = (g : Segment) → IsFlow g.flow → IsSegment g → IsWellNestedByPaths g
    → (plan : Plan) × IsPlanOf g plan × (levels plan ≤ 64)

-- a segment with a plan is well nested, where no block lies in too many spans, and blocks right before arms end them
abbrev pub PlannedIsWellNested : Type 0
PlannedIsWellNested = (g : Segment) (plan : Plan) → IsFlow g.flow → IsSegment g → IsPlanOf g plan → IsShallow g
    → HasClosedArms g → IsWellNested g

-- a segment that is well nested has a plan, at most 64 deep
abbrev pub WellNestedIsPlanned : Type 0
WellNestedIsPlanned = (g : Segment) → IsFlow g.flow → IsSegment g → IsWellNested g
    → (plan : Plan) × IsPlanOf g plan × (levels plan ≤ 64)

-- a segment has one plan at most
abbrev pub OnePlan : Type 0
OnePlan = (g : Segment) (p q : Plan) → IsFlow g.flow → IsSegment g → IsPlanOf g p → IsPlanOf g q → p ≡ q

-- a plan is at most 64 deep, where no block lies in too many spans
abbrev pub PlanIsLow : Type 0
PlanIsLow = (g : Segment) (plan : Plan) → IsFlow g.flow → IsSegment g → IsPlanOf g plan → IsShallow g → levels plan ≤ 64
