-- What is counted of the nodes of a unit of a graph program: its conditional jumps and its jump lists; and when nodes
-- leave a local alone.
-- Held against: this project's own readable texts.
use Rattle.std.specs.Prelude.{◌≢◌, ℕ, ◌+◌, List, All}
use Rattle.std.specs.List.{sum_by}
use Rattle.st_tree.specs.BodyParts.{expressions_step, reads_of, statements_in}
use Rattle.st_tree.specs.declared.expr.Expr.{Expr}
use Rattle.st_tree.specs.declared.expr.Var.TheVariants as var
use Rattle.st_tree.specs.declared.graph.StExit.{StExit}
use Rattle.st_tree.specs.declared.graph.StExit.TheVariants as exit
use Rattle.st_tree.specs.declared.graph.StNode.{StNode}
use Rattle.st_tree.specs.declared.program.Arm.{Arm}
use Rattle.st_tree.specs.declared.program.CaseArm.{CaseArm}
use Rattle.st_tree.specs.declared.program.Stmt.{Stmt, out-Stmt}
use Rattle.st_tree.specs.declared.program.Stmt.TheOpen as S
use Rattle.graph_rules.specs.Plain.{node_statements}
use Rattle.text_shapes.specs.Shape.{AreOthers, count_in, tests}

-- Counts

-- one for an exit by a conditional jump or a conditional block end
abbrev pub one_if_conditional : StExit → ℕ
one_if_conditional (exit.Branch e j) = 1
one_if_conditional (exit.EndIf e) = 1
one_if_conditional other = 0

-- one for an exit by a jump list
abbrev pub one_if_list : StExit → ℕ
one_if_list (exit.Table e targets last) = 1
one_if_list other = 0

-- the conditional jumps of some nodes: their conditional exits, and the tests of IF in their steps, which stand for
-- conditional calls
abbrev pub conditionals_of : List StNode → ℕ
conditionals_of nodes = sum_by (λ (n : StNode). one_if_conditional n.exit + count_in tests n.steps) nodes

-- the jump lists of some nodes
abbrev pub lists_of : List StNode → ℕ
lists_of nodes = sum_by (λ (n : StNode). one_if_list n.exit) nodes

-- The selector

-- a statement, but for those inside it, neither assigns a local nor reads it, and gives it to no call
abbrev pub LeavesLocal : ℕ → S.Stmt-F Stmt Arm CaseArm → Type 0
LeavesLocal next (S.Assign v e) = (v ≢ var.Local next) × AreOthers next (reads_of e)
LeavesLocal next (S.Invoke n vars) = AreOthers next vars
LeavesLocal next other = All (λ (e : Expr). AreOthers next (reads_of e)) (expressions_step other)

-- so does each statement of a body, at every depth
abbrev pub LeaveLocal : ℕ → List Stmt → Type 0
LeaveLocal next body = All (λ (x : Stmt). LeavesLocal next (out-Stmt x)) (statements_in body)

-- the steps and the tests of some nodes leave a local alone
abbrev pub KeepsOff : ℕ → List StNode → Type 0
KeepsOff next nodes = LeaveLocal next (node_statements nodes)
