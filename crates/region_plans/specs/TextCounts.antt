-- What is counted of the text of a segment: the tests of its IF, its WHILE and its statements, against those of the
-- steps of its blocks, the blocks with a test and the heads of loops.
-- Held against: this project's own bounds.
use Rattle.std.specs.Prelude.{ℕ, ◌+◌, ◌≤◌, List, [], ◌∷◌, length, map, flat_map, All, slice_get, Option, Some, None}
use Rattle.st_tree.specs.BodyParts.{height, statements_in}
use Rattle.st_tree.specs.Nesting.{body_nesting}
use Rattle.st_tree.specs.declared.expr.Expr.{Expr}
use Rattle.st_tree.specs.declared.graph.StNode.{StNode}
use Rattle.st_tree.specs.declared.program.Arm.{Arm}
use Rattle.st_tree.specs.declared.program.CaseArm.{CaseArm}
use Rattle.st_tree.specs.declared.program.Stmt.{Stmt, out-Stmt}
use Rattle.st_tree.specs.declared.program.Stmt.TheOpen as S
use Rattle.graph_rules.specs.Plain.{tests_of}
use Rattle.region_plans.specs.PlanRegion.{Chart}
use Rattle.region_plans.specs.RegionCounts.{Weights, before, exit_weight, mark_weight}

-- Texts

-- the tests of a statement, if it is an IF
abbrev pub test_step : S.Stmt-F Stmt Arm CaseArm → List Expr
test_step (S.If arms other) = map (λ (arm : Arm). arm.test) arms
test_step other = []

-- the tests of the IF in a body
abbrev pub if_tests_in : List Stmt → List Expr
if_tests_in body = flat_map (λ (x : Stmt). test_step (out-Stmt x)) (statements_in body)

-- the test of a statement, if it is a WHILE
abbrev pub while_step : S.Stmt-F Stmt Arm CaseArm → List Expr
while_step (S.While test body) = test ∷ []
while_step other = []

-- the tests of the WHILE in a body
abbrev pub while_tests_in : List Stmt → List Expr
while_tests_in body = flat_map (λ (x : Stmt). while_step (out-Stmt x)) (statements_in body)

-- Weights

-- the tests of IF
abbrev pub of_tests : Weights
of_tests =
    record { leave = 0; test = 1; turn = 0; select = 0; set = 0; steps = λ steps. length (if_tests_in steps) }

-- the WHILE statements
abbrev pub of_whiles : Weights
of_whiles =
    record { leave = 0; test = 0; turn = 1; select = 0; set = 0; steps = λ steps. length (while_tests_in steps) }

-- the statements, at every depth
abbrev pub of_statements : Weights
of_statements =
    record { leave = 1; test = 1; turn = 1; select = 1; set = 1; steps = λ steps. length (statements_in steps) }

-- Blocks

abbrev pub steps_of : Option StNode → List Stmt
steps_of None = []
steps_of (Some n) = n.steps

abbrev pub tests_of_exit : Option StNode → ℕ
tests_of_exit None = 0
tests_of_exit (Some n) = exit_weight of_tests n.exit

-- the tests of a block: those in its steps, and that of its exit
abbrev pub block_tests : Chart → ℕ → ℕ
block_tests c b =
    length (if_tests_in (steps_of (slice_get c.unit.nodes b))) + tests_of_exit (slice_get c.unit.nodes b)

-- the loop of a block, if it is a head
abbrev pub block_whiles : Chart → ℕ → ℕ
block_whiles c b = mark_weight of_whiles (c.unit.marks b)

-- the statements in the steps of a block, and 24 more
abbrev pub block_statements : Chart → ℕ → ℕ
block_statements c b = length (statements_in (steps_of (slice_get c.unit.nodes b))) + 24

-- a node is low: its steps nest at most 64 deep, and the test of its exit is at most 32 high
pub record IsLow (n : StNode) : Type 0 where
  pub steps : body_nesting n.steps ≤ 64
  pub tests : All (λ (e : Expr). height e ≤ 32) (tests_of n.exit)

-- a text is as short as the blocks from one up to, and not including, another let it be
pub record IsShort (c : Chart) (lo hi : ℕ) (body : List Stmt) : Type 0 where
  pub tests : length (if_tests_in body) + before (block_tests c) lo ≤ before (block_tests c) hi
  pub whiles : length (while_tests_in body) + before (block_whiles c) lo ≤ before (block_whiles c) hi
  pub statements : length (statements_in body) + before (block_statements c) lo ≤ before (block_statements c) hi
