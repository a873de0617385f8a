-- The region of a unit: those of its segments one after another, each by its plan, or as a dispatch loop if it has
-- none.
-- Held against: this project's own segments.
use Rattle.std.specs.Prelude.{ℕ, zero, suc, ◌-◌, ◌==◌, Bool, true, false, if◌then◌else◌, List, [], ◌∷◌, length, slice_get, Option, Some, None}
use Rattle.st_tree.specs.GraphRun.{entry_or}
use Rattle.st_tree.specs.declared.graph.StExit.{StExit}
use Rattle.st_tree.specs.declared.graph.StExit.TheVariants as exit
use Rattle.st_tree.specs.declared.graph.StNode.{StNode}
use Rattle.st_tree.specs.declared.program.Arm.{Arm}
use Rattle.st_tree.specs.declared.program.CaseArm.{CaseArm}
use Rattle.st_tree.specs.declared.program.Stmt.{Stmt, out-Stmt}
use Rattle.st_tree.specs.declared.program.Stmt.TheOpen as S
use Rattle.nesting_laws.specs.Plans.{Plan, no_loop}
use Rattle.region_laws.specs.NextLocal.{arm_with_label}
use Rattle.region_laws.specs.Regions.{Place, Region, again, at, choose, cycle, ended, fork, leaves, node, off, out, quit, selected, selector, table, text_of, turn_to}
use Rattle.region_plans.specs.PlanRegion.{Chart, is_out, region_of}

-- One region after another

-- a region, and another where it falls off its end
abbrev pub followed_by : Region → Region → Region
followed_by off more = more
followed_by leaves more = leaves
followed_by again more = again
followed_by ended more = ended
followed_by (node steps rest) more = node steps (followed_by rest more)
followed_by (fork steps e there behind join rest) more = fork steps e there behind join (followed_by rest more)
followed_by (quit steps e rest) more = quit steps e (followed_by rest more)
followed_by (table steps e count arms join rest) more = table steps e count arms join (followed_by rest more)
followed_by (choose steps e targets nodes arms other join rest) more =
    choose steps e targets nodes arms other join (followed_by rest more)
followed_by (cycle body behind rest) more = cycle body behind (followed_by rest more)
followed_by (turn_to j rest) more = turn_to j (followed_by rest more)
followed_by (selector labels arms behind rest) more = selector labels arms behind (followed_by rest more)

-- a region may fall off its end
abbrev pub falls_off : Region → Bool
falls_off off = true
falls_off leaves = false
falls_off again = false
falls_off ended = false
falls_off (node steps rest) = falls_off rest
falls_off (fork steps e there behind join rest) = falls_off rest
falls_off (quit steps e rest) = falls_off rest
falls_off (table steps e count arms join rest) = falls_off rest
falls_off (choose steps e targets nodes arms other join rest) = falls_off rest
falls_off (cycle body behind rest) = falls_off rest
falls_off (turn_to j rest) = falls_off rest
falls_off (selector labels arms behind rest) = falls_off rest

-- a statement is RETURN
abbrev pub is_return : S.Stmt-F Stmt Arm CaseArm → Bool
is_return S.Return = true
is_return other = false

-- the last of some statements is RETURN
abbrev pub ends_by_return : List Stmt → Bool
ends_by_return [] = false
ends_by_return (x ∷ []) = is_return (out-Stmt x)
ends_by_return (x ∷ y ∷ rest) = ends_by_return (y ∷ rest)

-- Dispatch loops

-- to a block of a dispatch loop, which is selected; or to the block after the loop, by EXIT
abbrev pub lead_to : ℕ → ℕ → Region
lead_to past t = if t == past then leaves else turn_to t off

-- to the end of the unit: by EXIT where the loop ends it
abbrev pub lead_out : Place → Region
lead_out follow = if is_out follow then leaves else ended

-- a block of a dispatch loop with the number of its first block, by its steps and its exit
abbrev pub arm_region : ℕ → ℕ → Place → ℕ → List Stmt → StExit → Region
arm_region first past follow i steps exit.Fall = node steps (lead_to past (suc i))
arm_region first past follow i steps (exit.Jump t) = node steps (lead_to past t)
arm_region first past follow i steps (exit.Branch e t) =
    fork steps e (lead_to past t) (lead_to past (suc i)) (selected first) off
arm_region first past follow i steps (exit.EndIf e) = quit steps e (lead_to past (suc i))
arm_region first past follow i steps (exit.Table e targets last) =
    table steps e (length targets) (λ n. lead_to past (entry_or (slice_get targets n) last)) (selected first) off
arm_region first past follow i steps exit.End = node steps (lead_out follow)

abbrev pub node_region : ℕ → ℕ → Place → ℕ → Option StNode → Region
node_region first past follow i None = off
node_region first past follow i (Some n) = arm_region first past follow i n.steps n.exit

-- the arms for the entries of a table, from a number on
abbrev pub entry_arms : ℕ → ℕ → ℕ → List ℕ → List CaseArm
entry_arms next past label [] = []
entry_arms next past label (t ∷ targets) =
    arm_with_label label (text_of next (lead_to past t)) ∷ entry_arms next past (suc label) targets

-- of so many blocks from one on, those that are reached
abbrev pub reached_from : (ℕ → Bool) → ℕ → ℕ → List ℕ
reached_from reached first zero = []
reached_from reached first (suc n) =
    if reached first then first ∷ reached_from reached (suc first) n else reached_from reached (suc first) n

-- the blocks from one up to, and not including, another, as a dispatch loop, and the place to which it leads
abbrev pub dispatch_region : Chart → ℕ → ℕ → Place → Region
dispatch_region c first past follow =
    turn_to first
    (selector (reached_from c.unit.reached first (past - first))
    (λ i. node_region first past follow i (slice_get c.unit.nodes i)) follow off)

-- Units

-- a segment of a unit: its first block, the block after its last one, and its plan, if it has one
pub record Section : Type 0 where
  pub first : ℕ
  pub past : ℕ
  pub plan : Option Plan

-- to a block that is reached; the unit ends before one that is not
abbrev pub place_if : Bool → ℕ → Place
place_if true b = at b
place_if false b = out

abbrev pub place_of : Chart → ℕ → Place
place_of c b = place_if (c.unit.reached b) b

abbrev pub region_by : Chart → ℕ → ℕ → Option Plan → Region
region_by c first past None = dispatch_region c first past (place_of c past)
region_by c first past (Some plan) = region_of c plan first past (place_of c past) no_loop

abbrev pub section_region : Chart → Section → Region
section_region c s = region_by c s.first s.past s.plan

-- some segments, one after another
abbrev pub unit_region : Chart → List Section → Region
unit_region c [] = off
unit_region c (s ∷ rest) = followed_by (section_region c s) (unit_region c rest)
