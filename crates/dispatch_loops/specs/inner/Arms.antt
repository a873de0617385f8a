-- The arms of a dispatch loop, one block after another.
use Rattle.std.specs.Prelude.{ℕ, zero, suc, Bool, if◌then◌else◌, List, [], ◌∷◌, ◌++◌, drop}
use Rattle.st_tree.specs.declared.graph.StExit.{StExit}
use Rattle.st_tree.specs.declared.graph.StNode.{StNode}
use Rattle.st_tree.specs.declared.program.CaseArm.{CaseArm}
use Rattle.st_tree.specs.declared.program.Stmt.{Stmt}
use Rattle.region_laws.specs.NextLocal.{arm_with_label}
use Rattle.region_laws.specs.Regions.{text_of}
use Rattle.unit_regions.specs.UnitRegion.{arm_region, place_if}
use Rattle.dispatch_loops.specs.declared.dispatch.Turns.{Turns}

-- the statements of a block, by its steps and its exit, where the unit goes on after the segment or ends with it
abbrev pub arm_text : Turns → Bool → ℕ → List Stmt → StExit → List Stmt
arm_text turns goes_on i steps exit =
    text_of turns.selector (arm_region turns.first turns.past (place_if goes_on turns.past) i steps exit)

-- the arm of a block, by the first of the nodes from there on
abbrev pub next_arm : Turns → Bool → ℕ → List StNode → List CaseArm
next_arm turns goes_on i [] = []
next_arm turns goes_on i (node ∷ nodes) = arm_with_label i (arm_text turns goes_on i node.steps node.exit) ∷ []

-- of so many blocks from one on, by the nodes from there on, an arm for each that is reached
abbrev pub arms_from : (ℕ → Bool) → Turns → Bool → ℕ → ℕ → List StNode → List CaseArm
arms_from reached turns goes_on i zero nodes = []
arms_from reached turns goes_on i (suc n) nodes =
    (if reached i then next_arm turns goes_on i nodes else [])
    ++ arms_from reached turns goes_on (suc i) n (drop 1 nodes)
