-- What is known of a unit while it is written segment by segment.
use Rattle.std.specs.Prelude.{◌≡◌, ℕ, ◌+◌, Bool, List, [], ◌∷◌, ◌++◌, length, Option}
use Rattle.st_tree.specs.declared.graph.StNode.{StNode}
use Rattle.st_tree.specs.declared.program.Stmt.{Stmt}
use Rattle.stl_tree.specs.Flows.{IsSegment}
use Rattle.graph_rules.specs.Flow.{flow_of}
use Rattle.nesting_laws.specs.Plans.{Plan}
use Rattle.segment_plans.specs.Counts.{is_reached, last_of}
use Rattle.segment_plans.specs.Known.{AreKnown}
use Rattle.segment_plans.specs.declared.blocks.Blocks.{Blocks}
use Rattle.unit_regions.specs.MadeCharts.{IsPlannedBy, IsTextFrom, chart_of, ending_of, text_between}
use Rattle.unit_regions.specs.UnitCharts.{blocks_between}
use Rattle.unit_regions.specs.UnitCounts.{one_without}
use Rattle.unit_regions.specs.UnitRegion.{falls_off, region_by}
use Rattle.restructure.specs.Structures.{AreUnitNodes}
use Rattle.restructure.specs.declared.structured.Structured.{Structured}

-- the blocks of a unit are known, and these are the steps of the end word alone
pub record IsKnownUnit (nodes : List StNode) (blocks : Blocks) (ending : List Stmt) : Type 0 where
  pub plain : AreUnitNodes nodes
  pub known : AreKnown (flow_of nodes) blocks
  pub last : ending ≡ ending_of nodes

-- from a block on there is a segment up to each of some cuts, and one up to the end
abbrev pub AreSegments : List StNode → ℕ → List ℕ → Type 0
AreSegments nodes first [] = IsSegment (blocks_between nodes first (length nodes))
AreSegments nodes first (cut ∷ cuts) = IsSegment (blocks_between nodes first cut) × AreSegments nodes cut cuts

-- a segment is written behind what is there, and falls off its end or does not
pub record IsNext (nodes : List StNode) (blocks : Blocks) (selector first past : ℕ) (old new : Structured)
    (falls : Bool) : Type 0 where
  pub plan : Option Plan
  pub planned : IsPlannedBy nodes first past plan
  pub body : new.body ≡ old.body ++ text_between nodes (is_reached blocks) (last_of blocks) selector first past plan
  pub selectors : new.selectors ≡ old.selectors + one_without plan
  pub off : falls ≡ falls_off (region_by (chart_of nodes (is_reached blocks) (last_of blocks) []) first past plan)

-- the text of the segments of a unit from a block on, and how many of them have no plan
abbrev pub IsTextOf : List StNode → Blocks → ℕ → ℕ → List ℕ → List Stmt → ℕ → Type 0
IsTextOf nodes blocks selector first cuts body loops =
    IsTextFrom nodes (is_reached blocks) (last_of blocks) selector first cuts body loops

-- that of a whole unit
abbrev pub IsUnitText : List StNode → Blocks → ℕ → List ℕ → Structured → Type 0
IsUnitText nodes blocks selector cuts made = IsTextOf nodes blocks selector 0 cuts made.body made.selectors
