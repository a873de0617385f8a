-- The chart that is made of a plain unit is right, and what is made by it is the text of a region that fits the unit.
use Rattle.std.specs.Prelude.{◌≡◌, ◌≢◌, ℕ, ◌+◌, ◌≤◌, ◌==◌, Bool, true, false, List, [], ◌∷◌, ◌++◌, length, Option}
use Rattle.st_tree.specs.declared.graph.StNode.{StNode}
use Rattle.st_tree.specs.declared.program.Stmt.{Stmt}
use Rattle.nesting_laws.specs.Plans.{Plan}
use Rattle.unit_regions.specs.MadeCharts.{ArePlain, ArePlanned, IsFound, IsMade, IsPlannedBy, IsTextFrom, chart_of, has_more, text_between}
use Rattle.unit_regions.specs.RegionOf.{IsRegionOf}
use Rattle.unit_regions.specs.UnitCharts.{AreMarked, AreSections}
use Rattle.unit_regions.specs.UnitCounts.{one_without}
use Rattle.unit_regions.specs.UnitRegion.{Section, unit_region}

-- a region does not depend on the marks of blocks
abbrev pub MarksAreLeftOut : Type 0
MarksAreLeftOut = (nodes : List StNode) (reached : ℕ → Bool) (lasts : ℕ → Option ℕ) (marked sections : List Section)
    → unit_region (chart_of nodes reached lasts marked) sections
    ≡ unit_region (chart_of nodes reached lasts []) sections

-- what is said of the segments of a unit
pub record IsRightChart (nodes : List StNode) (reached : ℕ → Bool) (lasts : ℕ → Option ℕ) (cuts : List ℕ)
    (sections : List Section) : Type 0 where
  pub each : AreSections (chart_of nodes reached lasts sections) cuts sections
  pub marks : AreMarked (chart_of nodes reached lasts sections)

-- holds of the chart that is made
abbrev pub ChartIsRight : Type 0
ChartIsRight = (nodes : List StNode) (reached : ℕ → Bool) (lasts : ℕ → Option ℕ) (cuts : List ℕ)
    (sections : List Section) → ArePlain nodes → IsFound nodes reached lasts cuts
    → ArePlanned nodes reached lasts cuts sections → IsRightChart nodes reached lasts cuts sections

-- what is made of a plain unit is the text of a region that fits it, without `NEXT` where each segment has a plan
abbrev pub MadeIsRegion : Type 0
MadeIsRegion = (nodes : List StNode) (next : ℕ) (body : List Stmt) (loops : ℕ) → nodes ≢ [] → length nodes ≤ 32769
    → ArePlain nodes → IsMade nodes next body loops → IsRegionOf nodes next (loops == 0) body

-- Texts, segment by segment

-- the last segment of a unit
abbrev pub TextEnds : Type 0
TextEnds = (nodes : List StNode) (reached : ℕ → Bool) (lasts : ℕ → Option ℕ) (next b : ℕ) (plan : Option Plan)
    → IsPlannedBy nodes b (length nodes) plan
    → IsTextFrom nodes reached lasts next b [] (text_between nodes reached lasts next b (length nodes) plan)
    (one_without plan)

-- one behind which nothing is written
abbrev pub TextStops : Type 0
TextStops = (nodes : List StNode) (reached : ℕ → Bool) (lasts : ℕ → Option ℕ) (next b cut : ℕ) (cuts : List ℕ)
    (plan : Option Plan) → IsPlannedBy nodes b cut plan → has_more nodes reached lasts b cut plan ≡ false
    → IsTextFrom nodes reached lasts next b (cut ∷ cuts) (text_between nodes reached lasts next b cut plan)
    (one_without plan)

-- one before others
abbrev pub TextGoesOn : Type 0
TextGoesOn = (nodes : List StNode) (reached : ℕ → Bool) (lasts : ℕ → Option ℕ) (next b cut : ℕ) (cuts : List ℕ)
    (plan : Option Plan) (body : List Stmt) (loops : ℕ) → IsPlannedBy nodes b cut plan
    → has_more nodes reached lasts b cut plan ≡ true → IsTextFrom nodes reached lasts next cut cuts body loops
    → IsTextFrom nodes reached lasts next b (cut ∷ cuts) (text_between nodes reached lasts next b cut plan ++ body)
    (one_without plan + loops)
