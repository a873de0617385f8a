-- A segment with a plan has a region that fits, with a test for each conditional exit, a WHILE for each loop, and each
-- block once.
use Rattle.std.specs.Prelude.{◌≡◌, ℕ, suc, ◌+◌, ◌≤◌, Bool, false, length, slice_get, Some}
use Rattle.st_tree.specs.BodyParts.{statements_in}
use Rattle.st_tree.specs.Nesting.{body_nesting}
use Rattle.st_tree.specs.declared.graph.StNode.{StNode}
use Rattle.stl_tree.specs.Flows.{IsSegment, Segment}
use Rattle.graph_rules.specs.Plain.{AreSteps}
use Rattle.nesting_laws.specs.PlanLaws.{IsFlow}
use Rattle.nesting_laws.specs.Plans.{Around, IsPlan, IsPlanOf, IsRow, Kind, Plan, levels, no_loop}
use Rattle.region_laws.specs.RegionDepth.{depth}
use Rattle.region_laws.specs.Regions as regions
use Rattle.region_laws.specs.Regions.{Fits, Place, Region, at, off, text_of}
use Rattle.region_plans.specs.Charts.{IsCharted, IsDrawn, IsEmpty, IsFirst, IsPart, IsPlaceOf, IsPlaced}
use Rattle.region_plans.specs.PlanRegion.{Chart, region_of}
use Rattle.region_plans.specs.RegionCounts.{IsSimple, IsWithin, Weights, weight}
use Rattle.region_plans.specs.TextCounts.{IsLow, IsShort, if_tests_in, of_statements, of_tests, of_whiles, while_tests_in}

-- a chart that is drawn so is that of the body
abbrev pub DrawnIsCharted : Type 0
DrawnIsCharted = (c : Chart) (g : Segment) → IsFlow g.flow → IsSegment g → IsDrawn c g → IsCharted c g

-- Parts

-- the region of a part fits from the first block on that is reached
abbrev pub PartFits : Type 0
PartFits = (c : Chart) (g : Segment) (plan : Plan) (turn : Bool) (lo hi f : ℕ) (a : Around) (k : Kind)
    (follow : Place) (around : regions.Around) → IsCharted c g → IsPlan g plan turn lo hi f a k → IsRow k
    → IsPart c g turn lo hi → IsPlaced c f a follow around → (p : ℕ) → IsFirst c lo hi p
    → Fits c.unit turn (region_of c plan lo hi follow a) (at p) follow around

-- the region of a part of which no block is reached is nothing
abbrev pub EmptyIsOff : Type 0
EmptyIsOff = (c : Chart) (g : Segment) (plan : Plan) (turn : Bool) (lo hi f : ℕ) (a : Around) (k : Kind)
    (follow : Place) → IsCharted c g → IsPlan g plan turn lo hi f a k → IsEmpty c lo hi
    → region_of c plan lo hi follow a ≡ off

-- the region of a part weighs no more than its blocks, whatever is counted
abbrev pub PartIsWithin : Type 0
PartIsWithin = (w : Weights) (c : Chart) (g : Segment) (plan : Plan) (turn : Bool) (lo hi f : ℕ) (a : Around)
    (k : Kind) (follow : Place) → IsCharted c g → IsPlan g plan turn lo hi f a k → IsRow k → IsPart c g turn lo hi
    → IsWithin w c turn lo hi (region_of c plan lo hi follow a)

-- the region of a part is simple, and as deep as the plan lets it be
abbrev pub PartIsFlat : Type 0
PartIsFlat = (c : Chart) (plan : Plan) (lo hi : ℕ) (follow : Place) (a : Around)
    → IsSimple (region_of c plan lo hi follow a) × (depth (region_of c plan lo hi follow a) ≤ suc (levels plan))

-- Texts

-- the tests of IF, the WHILE and the statements in the text of a region
abbrev pub TextWeighs : Type 0
TextWeighs = (next : ℕ) (r : Region)
    → (length (if_tests_in (text_of next r)) ≡ weight of_tests r)
    × (length (while_tests_in (text_of next r)) ≡ weight of_whiles r)
    × (length (statements_in (text_of next r)) ≡ weight of_statements r)

-- the text of a region that fits nests no deeper than its lists stand in one another, and its nodes
abbrev pub TextNests : Type 0
TextNests = (unit : regions.Marked) (next : ℕ) (r : Region) (turn : Bool) (p follow : Place) (a : regions.Around)
    → Fits unit turn r p follow a → ((i : ℕ) (n : StNode) → slice_get unit.nodes i ≡ Some n → IsLow n)
    → body_nesting (text_of next r) ≤ depth r + 64

-- Segments

-- the region of a segment fits
abbrev pub SegmentFits : Type 0
SegmentFits = (c : Chart) (g : Segment) (plan : Plan) (follow : Place) → IsCharted c g → IsPlanOf g plan
    → IsPlaceOf c g.past follow → (p : ℕ) → IsFirst c g.first g.past p
    → Fits c.unit false (region_of c plan g.first g.past follow no_loop) (at p) follow regions.no_loop

-- the text of a segment of nodes with steps is short
abbrev pub SegmentIsShort : Type 0
SegmentIsShort = (c : Chart) (g : Segment) (plan : Plan) (follow : Place) (next : ℕ) → IsCharted c g
    → ((i : ℕ) (n : StNode) → slice_get c.unit.nodes i ≡ Some n → AreSteps n.steps) → IsPlanOf g plan
    → IsShort c g.first g.past (text_of next (region_of c plan g.first g.past follow no_loop))
