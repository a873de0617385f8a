-- Regions of small units: how their texts read, and where a unit ends.
use Rattle.std.proofs.Common.{◌≡◌, ℕ, Bool, true, false, List, [], ◌∷◌, pos, nat_lt, Some, None, refl}
use Rattle.memory_areas.specs.declared.place.AreaName.TheVariants as area
use Rattle.s7_base.specs.declared.register.Reg.TheVariants.{Rlo}
use Rattle.s7_base.specs.declared.word.Width.TheVariants as width
use Rattle.st_tree.specs.declared.expr.Expr.{Expr}
use Rattle.st_tree.specs.declared.expr.Expr.TheVariants as expr
use Rattle.st_tree.specs.declared.expr.StType.TheVariants as type
use Rattle.st_tree.specs.declared.expr.Var.TheVariants as var
use Rattle.st_tree.specs.declared.graph.StExit.{StExit}
use Rattle.st_tree.specs.declared.graph.StExit.TheVariants as exit
use Rattle.st_tree.specs.declared.graph.StNode.{StNode}
use Rattle.st_tree.specs.declared.program.Stmt.{Stmt}
use Rattle.st_tree.specs.declared.program.Stmt.TheVariants as stmt
use Rattle.nesting_laws.specs.Plans.{arm, cases, done, loop, next, one}
use Rattle.region_laws.specs.NextLocal.{arm_with_label, set_next}
use Rattle.region_laws.specs.Regions.{forever, text_of}
use Rattle.region_plans.specs.PlanRegion.{Chart}
use Rattle.unit_regions.specs.MadeCharts.{chart_of}
use Rattle.unit_regions.specs.UnitRegion.{Section, falls_off, section_region, unit_region}

abbrev node_of : List Stmt → StExit → Bool → StNode
node_of steps exit only = record { steps = steps; exit = exit; only_end = only }

abbrev writes : ℕ → Stmt
writes n = stmt.Assign (var.Direct area.Q 0 0 width.Byte) (expr.Literal type.Byte (pos n))

abbrev test : Expr
test = expr.Read (var.Register Rlo)

-- A branch to the block of the end word alone

abbrev to_the_end : List StNode
to_the_end = node_of [] (exit.Branch test 2) false ∷ node_of (writes 1 ∷ []) exit.End false ∷ node_of [] exit.End true ∷ []

abbrev end_chart : Chart
end_chart = chart_of to_the_end (λ b. nat_lt b 3) (λ h. None) []

abbrev before_end : Section
before_end = record { first = 0; past = 2; plan = Some (one (one done)) }

-- the end block is reached, but what stands before it does not fall off its end: nothing is written behind its RETURN
ends_before : falls_off (section_region end_chart before_end) ≡ false
ends_before = refl

ends_there : (more : List Section) → text_of 0 (unit_region end_chart (before_end ∷ more))
    ≡ stmt.If (record { test = test; body = stmt.Return ∷ [] } ∷ []) [] ∷ writes 1 ∷ stmt.Return ∷ []
ends_there more = refl

-- A dispatch loop, and the block behind it

abbrev with_loop : List StNode
with_loop =
    node_of [] (exit.Branch test 2) false ∷ node_of (writes 1 ∷ []) (exit.Jump 0) false ∷ node_of (writes 2 ∷ []) exit.End false ∷ []

abbrev loop_chart : Chart
loop_chart = chart_of with_loop (λ b. nat_lt b 3) (λ h. None) (record { first = 0; past = 2; plan = None } ∷ [])

loop_reads : text_of 7
    (unit_region loop_chart (record { first = 0; past = 2; plan = None } ∷ record { first = 2; past = 3; plan = Some (one done) } ∷ []))
    ≡ set_next 7 0
    ∷ forever
    (stmt.Case (expr.Read (var.Local 7))
    (arm_with_label 0 (stmt.If (record { test = test; body = stmt.Exit ∷ [] } ∷ []) (set_next 7 1 ∷ []) ∷ [])
    ∷ arm_with_label 1 (writes 1 ∷ set_next 7 0 ∷ []) ∷ []) [] ∷ [])
    ∷ writes 2 ∷ []
loop_reads = refl

-- A jump list whose arms end at a block to which an entry leads: that entry has an arm with nothing, and ELSE is the arm of
-- the label

abbrev with_list : List StNode
with_list =
    node_of [] (exit.Table test (2 ∷ 1 ∷ 3 ∷ 2 ∷ []) 1) false ∷ node_of (writes 1 ∷ []) (exit.Jump 3) false
    ∷ node_of (writes 2 ∷ []) exit.Fall false ∷ node_of (writes 3 ∷ []) exit.End false ∷ []

abbrev list_chart : Chart
list_chart = chart_of with_list (λ b. nat_lt b 4) (λ h. None) []

abbrev of_list : Section
of_list = record { first = 0; past = 4; plan = Some (cases 3 (next 2 (one done) (next 3 (one done) done)) (one done)) }

list_reads : text_of 0 (unit_region list_chart (of_list ∷ []))
    ≡ stmt.Case test (record { labels = pos 0 ∷ pos 3 ∷ []; body = writes 2 ∷ [] } ∷ record { labels = pos 2 ∷ []; body = [] } ∷ []) (writes 1 ∷ [])
    ∷ writes 3 ∷ []
list_reads = refl

-- One whose entries all lead to its label, which has an arm so that there is one

abbrev list_of_one : List StNode
list_of_one = node_of [] (exit.Table test (1 ∷ 1 ∷ []) 1) false ∷ node_of (writes 1 ∷ []) exit.End false ∷ []

one_reads : text_of 0
    (unit_region (chart_of list_of_one (λ b. nat_lt b 2) (λ h. None) []) (record { first = 0; past = 2; plan = Some (cases 1 done (one done)) } ∷ []))
    ≡ stmt.Case test (record { labels = pos 0 ∷ pos 1 ∷ []; body = [] } ∷ []) [] ∷ writes 1 ∷ []
one_reads = refl

-- One that begins a loop and whose arms end behind it: EXIT stands there once

abbrev list_in_loop : List StNode
list_in_loop =
    node_of [] (exit.Table test (2 ∷ 3 ∷ []) 1) false ∷ node_of (writes 1 ∷ []) (exit.Jump 0) false ∷ node_of (writes 2 ∷ []) (exit.Jump 0) false
    ∷ node_of (writes 3 ∷ []) exit.End false ∷ []

abbrev in_loop : Section
in_loop = record { first = 0; past = 3; plan = Some (loop true 2 (cases 3 (next 2 (one done) (next 3 (one done) done)) done) done) }

loop_list_reads : text_of 0
    (unit_region (chart_of list_in_loop (λ b. nat_lt b 4) (λ h. None) []) (in_loop ∷ record { first = 3; past = 4; plan = Some (one done) } ∷ []))
    ≡ forever
    (stmt.Case test
    (record { labels = pos 0 ∷ []; body = writes 2 ∷ stmt.Continue ∷ [] } ∷ record { labels = pos 1 ∷ []; body = [] } ∷ [])
    (writes 1 ∷ stmt.Continue ∷ [])
    ∷ stmt.Exit ∷ [])
    ∷ writes 3 ∷ []
loop_list_reads = refl

-- One whose first arm goes on to the end of all arms by a conditional jump, which takes the rest of the arm

abbrev list_with_test : List StNode
list_with_test =
    node_of [] (exit.Table test (3 ∷ []) 1) false ∷ node_of [] (exit.Branch test 4) false ∷ node_of (writes 1 ∷ []) (exit.Jump 4) false
    ∷ node_of (writes 2 ∷ []) exit.Fall false ∷ node_of (writes 3 ∷ []) exit.End false ∷ []

abbrev of_test : Section
of_test = record { first = 0; past = 5; plan = Some (cases 4 (next 3 (arm 4 3 (one done) done) (next 4 (one done) done)) (one done)) }

test_reads : text_of 0 (unit_region (chart_of list_with_test (λ b. nat_lt b 5) (λ h. None) []) (of_test ∷ []))
    ≡ stmt.Case test (record { labels = pos 0 ∷ []; body = writes 2 ∷ [] } ∷ [])
    (stmt.If (record { test = test; body = [] } ∷ []) (writes 1 ∷ []) ∷ [])
    ∷ writes 3 ∷ []
test_reads = refl
