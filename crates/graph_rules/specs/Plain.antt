-- The graph programs that the passes of a translation hand on: they keep the rules of a text, and those of graphs.
use Rattle.std.specs.Prelude.{◌≡◌, ◌≢◌, ℕ, suc, ◌≤◌, ◌<◌, pos, Bool, true, false, ◌&&◌, List, [], ◌∷◌, ◌++◌, length, map, flat_map, All, slice_get, Some, codes, decimal}
use Rattle.s7_base.specs.declared.register.Reg.TheVariants as reg
use Rattle.memory_areas.specs.declared.place.AreaName.TheVariants as area
use Rattle.graph_rules.specs.Divisors.{IsSureDivisor, divisors_in}
use Rattle.graph_rules.specs.Runs.{AreOfRuns, AreWritten, locals_of, written_by}
use Rattle.st_tree.specs.BodyParts.{calls_in, expressions_in, height, reads_of}
use Rattle.st_tree.specs.Proper.{Proper}
use Rattle.st_tree.specs.declared.expr.BinaryOp.TheVariants as binary
use Rattle.st_tree.specs.declared.expr.Expr.{Expr, fold-Expr}
use Rattle.st_tree.specs.declared.expr.Expr.TheOpen as E
use Rattle.st_tree.specs.declared.expr.Expr.TheVariants as expr
use Rattle.st_tree.specs.declared.expr.UnaryOp.TheVariants as unary
use Rattle.st_tree.specs.declared.expr.Var.{Var}
use Rattle.st_tree.specs.declared.expr.Var.TheVariants as var
use Rattle.st_tree.specs.declared.graph.GraphPou.{GraphPou}
use Rattle.st_tree.specs.declared.graph.GraphProgram.{GraphProgram}
use Rattle.st_tree.specs.declared.graph.StExit.{StExit}
use Rattle.st_tree.specs.declared.graph.StExit.TheVariants as exit
use Rattle.st_tree.specs.declared.graph.StNode.{StNode}
use Rattle.st_tree.specs.declared.program.Arm.{Arm, out-Arm}
use Rattle.st_tree.specs.declared.program.CaseArm.{CaseArm}
use Rattle.st_tree.specs.declared.program.Local.{Local}
use Rattle.st_tree.specs.declared.program.StProgram.{StProgram}
use Rattle.st_tree.specs.declared.program.Stmt.{Stmt, out-Stmt}
use Rattle.st_tree.specs.declared.program.Stmt.TheOpen as S
use Rattle.st_tree.specs.declared.program.Stmt.TheVariants as stmt

-- The rules of a text

-- the test of an exit as a statement: that of a branch in an IF, that of a table in a CASE
abbrev pub test_of : StExit → List Stmt
test_of exit.Fall = []
test_of (exit.Jump j) = []
test_of (exit.Branch e j) = stmt.If (record { test = e; body = [] } ∷ []) [] ∷ []
test_of (exit.EndIf e) = stmt.If (record { test = e; body = [] } ∷ []) [] ∷ []
test_of (exit.Table e targets last) = stmt.Case e (record { labels = pos 0 ∷ []; body = [] } ∷ []) [] ∷ []
test_of exit.End = []

-- the statements of nodes, one node after another, whatever their exits are, each with its test
abbrev pub node_statements : List StNode → List Stmt
node_statements nodes = flat_map (λ (n : StNode). n.steps ++ test_of n.exit) nodes

-- a graph program as a text that says nothing of its exits
abbrev pub listed_text : GraphProgram → StProgram
listed_text graph =
    record {
      dbs = graph.dbs;
      globals = graph.globals;
      pous = map (λ (u : GraphPou). record u.head { body = node_statements u.graph.nodes }) graph.pous;
    }

-- Expressions

-- a variable whose read has no fault: a register, a local, a formal, a global, or a written place of I, Q, M or L
abbrev pub is_sure : Var → Bool
is_sure (var.Register r) = true
is_sure (var.Local i) = true
is_sure (var.Formal i) = true
is_sure (var.Global i) = true
is_sure (var.Direct area.Db byte bit w) = false
is_sure (var.Direct area.Di byte bit w) = false
is_sure (var.Direct a byte bit w) = true
is_sure (var.InBlock n byte bit w) = false

-- one layer of an expression that neither divides nor converts BCD, and reads such variables alone
abbrev pub faultless_step : E.Expr-F Bool → Bool
faultless_step (E.Literal ty n) = true
faultless_step (E.Read v) = is_sure v
faultless_step (E.Unary unary.BcdToInt a) = false
faultless_step (E.Unary unary.BcdToDint a) = false
faultless_step (E.Unary op a) = a
faultless_step (E.Binary binary.Div a b) = false
faultless_step (E.Binary binary.Mod a b) = false
faultless_step (E.Binary op a b) = a && b
faultless_step (E.Convert from to a) = a
faultless_step (E.Select gate a b) = gate && a && b
faultless_step (E.Shift op a count) = a && count
faultless_step (E.AreaRead w pointer) = false

-- an expression has no fault, whatever the state
abbrev pub is_faultless : Expr → Bool
is_faultless = fold-Expr Bool faultless_step

-- Steps

-- the DB and the DI register are put back, from locals
abbrev pub ArePutBack : List Stmt → Type 0
ArePutBack [] = Unit {0}
ArePutBack (stmt.Assign (var.Register reg.DbNo) (expr.Read (var.Local i)) ∷ rest) = ArePutBack rest
ArePutBack (stmt.Assign (var.Register reg.DiNo) (expr.Read (var.Local i)) ∷ rest) = ArePutBack rest
ArePutBack (other ∷ rest) = ⊥

-- values are put into locals, then one unit is called, then the DB and the DI register are put back
abbrev pub IsGuarded : List Stmt → Type 0
IsGuarded (stmt.Assign (var.Local i) e ∷ rest) = IsGuarded rest
IsGuarded (stmt.Invoke n vars ∷ rest) = ArePutBack rest
IsGuarded other = ⊥

-- a step is an assignment, an area write, a call, or a call under an IF without ELSE, whose test has no fault
abbrev pub IsStep : S.Stmt-F Stmt Arm CaseArm → Type 0
IsStep (S.Assign v e) = Unit {0}
IsStep (S.AreaWrite w p e) = Unit {0}
IsStep (S.Invoke n vars) = Unit {0}
IsStep (S.If (arm ∷ []) []) = (is_faultless (out-Arm arm).test ≡ true) × IsGuarded (out-Arm arm).body
IsStep other = ⊥

-- each of some statements is a step
abbrev pub AreSteps : List Stmt → Type 0
AreSteps [] = Unit {0}
AreSteps (x ∷ rest) = IsStep (out-Stmt x) × AreSteps rest

-- each of some steps puts a literal into a register variable
abbrev pub AreSettings : List Stmt → Type 0
AreSettings [] = Unit {0}
AreSettings (stmt.Assign (var.Register r) (expr.Literal ty n) ∷ rest) = AreSettings rest
AreSettings (other ∷ rest) = ⊥

-- Exits

-- the expression of an exit, if it has one
abbrev pub tests_of : StExit → List Expr
tests_of exit.Fall = []
tests_of (exit.Jump j) = []
tests_of (exit.Branch e j) = e ∷ []
tests_of (exit.EndIf e) = e ∷ []
tests_of (exit.Table e targets last) = e ∷ []
tests_of exit.End = []

-- the test of an exit has no fault
abbrev pub HasSureTest : StExit → Type 0
HasSureTest exit = All (λ (e : Expr). is_faultless e ≡ true) (tests_of exit)

-- a variable that may be given to a call: no register variable
abbrev pub IsGivenOn : Var → Type 0
IsGivenOn (var.Register r) = ⊥
IsGivenOn v = Unit {0}

-- Nodes

-- an exit of the node at a position leads to nodes of a unit with this many nodes; a table has 1 to 255 entries, and
-- the next node is its last target
abbrev pub LeadsInside : ℕ → ℕ → StExit → Type 0
LeadsInside count at exit.Fall = suc at < count
LeadsInside count at (exit.Jump j) = j < count
LeadsInside count at (exit.Branch e j) = (suc at < count) × (j < count)
LeadsInside count at (exit.EndIf e) = suc at < count
LeadsInside count at (exit.Table e targets last) =
    (1 ≤ length targets) × (length targets ≤ 255) × All (λ (j : ℕ). j < count) targets
    × (last ≡ suc at) × (last < count)
LeadsInside count at exit.End = Unit {0}

-- the node of the end word alone is the last one and ends its unit, and its steps put at most four literals into
-- register variables
pub record IsOnlyEnd (count at : ℕ) (node : StNode) : Type 0 where
  pub last : suc at ≡ count
  pub exit : node.exit ≡ exit.End
  pub few : length node.steps ≤ 4
  pub settings : AreSettings node.steps

-- the node at a position of a unit with this many nodes is plain. Its locals are temporaries: the test of its exit
-- reads only those that the last run of its steps has written
pub record IsPlainNode (count at : ℕ) (node : StNode) : Type 0 where
  pub steps : AreSteps node.steps
  pub runs : AreOfRuns node.steps
  pub ending : AreWritten (written_by node.steps) (locals_of (flat_map reads_of (tests_of node.exit)))
  pub exit : LeadsInside count at node.exit
  pub test : HasSureTest node.exit
  pub only_end : node.only_end ≡ true → IsOnlyEnd count at node

-- a local has the name of a temporary, which is T and a number
pub record IsTemporary (local : Local) : Type 0 where
  pub number : ℕ
  pub name : local.name ≡ codes "T" ++ decimal number

-- a unit is plain: its head has no body, and there are 1 to 32,769 nodes; its locals are named as temporaries; its
-- expressions are at most 32 high, and no division of them has a fault
pub record IsPlainUnit (unit : GraphPou) : Type 0 where
  pub body : unit.head.body ≡ []
  pub some : unit.graph.nodes ≢ []
  pub few : length unit.graph.nodes ≤ 32769
  pub nodes : (at : ℕ) (node : StNode) → slice_get unit.graph.nodes at ≡ Some node
      → IsPlainNode (length unit.graph.nodes) at node
  pub names : All IsTemporary unit.head.locals
  pub low : All (λ (e : Expr). height e ≤ 32) (expressions_in (node_statements unit.graph.nodes))
  pub divisors : All IsSureDivisor (divisors_in (node_statements unit.graph.nodes))
  pub calls : All (λ (call : ℕ × List Var). All IsGivenOn call.1) (calls_in (node_statements unit.graph.nodes))

-- a graph program is plain: its steps and tests are those of a proper text without globals, and its units are plain
pub record Plain (graph : GraphProgram) : Type 0 where
  pub text : Proper (listed_text graph)
  pub globals : graph.globals ≡ []
  pub units : All IsPlainUnit graph.pous
