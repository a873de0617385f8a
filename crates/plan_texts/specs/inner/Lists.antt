-- The arms of a CASE in place of a jump list.
use Rattle.std.specs.Prelude.{◌≡◌, ℕ, ◌-◌, ◌<◌, ◌≤◌, if◌then◌else◌, List, [], ◌∷◌, drop}
use Rattle.st_tree.specs.declared.graph.StNode.{StNode}
use Rattle.st_tree.specs.declared.program.CaseArm.{CaseArm}
use Rattle.st_tree.specs.declared.program.Stmt.{Stmt}
use Rattle.nesting_laws.specs.Plans.{Around, Plan, next}
use Rattle.region_laws.specs.Regions.{at as place_at, is_among, positions_of, text_of}
use Rattle.region_plans.specs.PlanRegion.{Chart, region_of}
use Rattle.segment_plans.specs.Planned.{HasArms, around_of}
use Rattle.dispatch_loops.specs.Charted.{chart_in}
use Rattle.segment_plans.specs.declared.blocks.Blocks.{Blocks}
use Rattle.segment_plans.specs.declared.planning.Part.{Part}
use Rattle.plan_texts.specs.inner.Leads.{ForPart}

-- the arm of a block, by the entries that lead to it
abbrev pub node_arm : List ℕ → ℕ → List Stmt → CaseArm
node_arm targets block body = record { labels = positions_of block 0 targets; body = body }

-- the arm without statements, where entries lead to the block where all arms end
abbrev pub last_arm : List ℕ → ℕ → List CaseArm
last_arm targets end = if is_among end targets then node_arm targets end [] ∷ [] else []

-- the arms of a plan from a block on, one after another
abbrev pub arms_along : ℕ → Chart → List ℕ → ℕ → Around → Plan → ℕ → List CaseArm
arms_along name c targets end a (next d inner others) lo =
    node_arm targets lo (text_of name (region_of c inner lo d (place_at end) a))
    ∷ arms_along name c targets end a others d
arms_along name c targets end a other lo = []

-- the arms of the jump list of a block are written from one on
abbrev pub WritesArms : Blocks → List Stmt → ℕ → Part → ℕ → ℕ → List ℕ → ℕ → List StNode → List StNode
    → List CaseArm → Type 0
WritesArms blocks steps left part block end targets first nodes rest arms =
    ForPart blocks steps part first (λ all g. (plan : HasArms g (left - 1) part block end first) → 0 < left
    → end ≤ part.past → nodes ≡ drop first all
    → (rest ≡ drop end all)
    × ((name : ℕ) → arms ≡ arms_along name (chart_in all blocks) targets end (around_of part.around) plan.0 first))
