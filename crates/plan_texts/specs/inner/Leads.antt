-- How a part goes on after what is written of it.
use Rattle.std.specs.Prelude.{◌≡◌, ℕ, ◌==◌, Bool, true, false, not, ◌&&◌, List, [], ◌++◌, nat_lt}
use Rattle.st_tree.specs.declared.graph.StExit.{StExit}
use Rattle.st_tree.specs.declared.graph.StNode.{StNode}
use Rattle.st_tree.specs.declared.program.Stmt.{Stmt}
use Rattle.stl_tree.specs.Flows.{IsSegment, Segment}
use Rattle.graph_rules.specs.Flow.{flow_of}
use Rattle.region_laws.specs.Regions.{Place, Region, text_of}
use Rattle.region_plans.specs.PlanRegion.{Chart, exit_region, rest_from, tail_to}
use Rattle.unit_regions.specs.MadeCharts.{ending_of}
use Rattle.unit_regions.specs.UnitCharts.{blocks_between}
use Rattle.unit_regions.specs.UnitRegion.{falls_off, place_if}
use Rattle.dispatch_loops.specs.Charted.{chart_in}
use Rattle.segment_plans.specs.Counts.{is_bare, is_reached}
use Rattle.segment_plans.specs.Known.{AreKnown}
use Rattle.segment_plans.specs.Planned.{IsPartOf, around_of}
use Rattle.segment_plans.specs.declared.blocks.Blocks.{Blocks}
use Rattle.segment_plans.specs.declared.planning.Part.{Part}
use Rattle.plan_texts.specs.declared.leads.Lead.{Lead}
use Rattle.plan_texts.specs.declared.leads.Lead.TheVariants as lead

-- the text of the rest, where it is still to be written
abbrev pub led_text : Lead → List Stmt → List Stmt
led_text lead.Onward rest = rest
led_text lead.Off rest = []
led_text lead.Out rest = []

-- the part may fall off its end, by whether what is left may
abbrev pub led_off : Lead → Bool → Bool
led_off lead.Onward rest = rest
led_off lead.Off rest = true
led_off lead.Out rest = false

-- what is written leads to the next block of the part, or off its end
abbrev pub is_onward : Lead → Bool
is_onward lead.Onward = true
is_onward lead.Off = false
is_onward lead.Out = false

abbrev pub is_off : Lead → Bool
is_off lead.Onward = false
is_off lead.Off = true
is_off lead.Out = false

-- the text of a region is what is written and, where that leads onward, the text of the rest
pub record Adds (old new : List Stmt) (to : Lead) (whole rest : Region) : Type 0 where
  pub text : (next : ℕ) → old ++ text_of next whole ≡ new ++ led_text to (text_of next rest)
  pub falls : falls_off whole ≡ led_off to (falls_off rest)

-- the place where a part leads when it falls off its end
abbrev pub place_in : Bool → Part → Place
place_in tail part = place_if (not tail) part.follow

-- a block of a part is the next one behind another that is reached
abbrev pub is_next : Blocks → Part → ℕ → ℕ → Bool
is_next blocks part at to = nat_lt at to && nat_lt to part.past && is_reached blocks to && is_bare blocks at to

-- a part leads to a block when it falls off its end, and no block behind another is reached before that
abbrev pub falls_to : Blocks → Bool → Part → ℕ → ℕ → Bool
falls_to blocks tail part at to = not tail && (part.follow == to) && is_bare blocks at part.past

-- a part leads to a block when it falls off its end
abbrev pub falls_at : Bool → Part → ℕ → Bool
falls_at tail part to = not tail && (part.follow == to)

-- a unit ends with a part, and no block behind one is reached in the part
abbrev pub ends_last : Blocks → Bool → Part → ℕ → Bool
ends_last blocks tail part at = tail && is_bare blocks at part.past

-- what is known of the unit and of the segment that is written
pub record IsWriting (all : List StNode) (from past : ℕ) (blocks : Blocks) (steps : List Stmt) : Type 0 where
  pub segment : IsSegment (blocks_between all from past)
  pub known : AreKnown (flow_of all) blocks
  pub ending : steps ≡ ending_of all

-- what is proved of a part from a block on, for each unit and segment
abbrev pub ForPart : Blocks → List Stmt → Part → ℕ → (List StNode → Segment → Type 0) → Type 0
ForPart blocks steps part at P = (all : List StNode) (from past : ℕ) → IsWriting all from past blocks steps
    → IsPartOf (blocks_between all from past) part at → P all (blocks_between all from past)

-- what leads from a block of a part to another, and the rest of the part
abbrev pub tail_region : Bool → Part → ℕ → ℕ → Chart → Region → Region
tail_region tail part at to c rest = tail_to c at part.past (place_in tail part) (around_of part.around) rest to

-- an exit of a block of a part, without the steps of the block, and the rest of the part
abbrev pub bare_region : Bool → Part → ℕ → StExit → Chart → Region → Region
bare_region tail part at exit c rest = exit_region c at part.past (place_in tail part) (around_of part.around) rest []
    exit

-- what leads on from the block where all arms of a jump list end, and the rest of the part
abbrev pub rest_region : Bool → Part → ℕ → Chart → Region → Region
rest_region tail part end c rest = rest_from c end part.past (place_in tail part) (around_of part.around) rest

-- a way out is written
abbrev pub AddsWay : Blocks → List Stmt → (Chart → Region) → List Stmt → List Stmt → Lead → Type 0
AddsWay blocks steps way old new to = (all : List StNode) (from past : ℕ) (rest : Region)
    → IsWriting all from past blocks steps
    → Adds old new to (way (chart_in all blocks)) rest

-- what leads to the rest of a part, or out of it, is written
abbrev pub AddsRest : Blocks → List Stmt → (Chart → Region → Region) → List Stmt → List Stmt → Lead → Type 0
AddsRest blocks steps region old new to = (all : List StNode) (from past : ℕ) (rest : Region)
    → IsWriting all from past blocks steps
    → Adds old new to (region (chart_in all blocks) rest) rest

-- what comes before the rest of a part is written
abbrev pub AddsTo : Blocks → List Stmt → Part → ℕ → (Chart → Region → Region) → List Stmt → List Stmt → Lead → Type 0
AddsTo blocks steps part at region old new to = ForPart blocks steps part at (λ all g. (rest : Region)
    → Adds old new to (region (chart_in all blocks) rest) rest)
