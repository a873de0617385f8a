-- Temporaries: a local is read in the run of assignments, area writes and calls alone in which it was written before,
-- or in the test that follows that run.
use Rattle.std.specs.Prelude.{◌≡◌, ℕ, List, [], ◌∷◌, ◌++◌, map, flat_map, All, ◌⊎◌}
use Rattle.st_tree.specs.BodyParts.{call_step, expressions_step, reads_of}
use Rattle.st_tree.specs.declared.expr.Var.{Var}
use Rattle.st_tree.specs.declared.expr.Var.TheVariants as var
use Rattle.st_tree.specs.declared.program.Arm.{Arm, out-Arm}
use Rattle.st_tree.specs.declared.program.CaseArm.{CaseArm}
use Rattle.st_tree.specs.declared.program.Stmt.{Stmt, out-Stmt}
use Rattle.st_tree.specs.declared.program.Stmt.TheOpen as S

-- the locals among some variables
abbrev pub locals_of : List Var → List ℕ
locals_of [] = []
locals_of (var.Local i ∷ rest) = i ∷ locals_of rest
locals_of (other ∷ rest) = locals_of rest

-- the variables that a step reads: those of its expressions, and those that a call gets
abbrev pub read_by : Stmt → List Var
read_by x =
    flat_map reads_of (expressions_step (out-Stmt x))
    ++ flat_map (λ (call : ℕ × List Var). call.1) (call_step (out-Stmt x))

-- a local is one of those that were written
abbrev pub IsWritten : List ℕ → ℕ → Type 0
IsWritten [] i = ⊥
IsWritten (written ∷ others) i = (i ≡ written) ⊎ IsWritten others i

-- each of some locals is one of those that were written
abbrev pub AreWritten : List ℕ → List ℕ → Type 0
AreWritten written locals = All (IsWritten written) locals

-- the locals that the run up to a step has written, from those that it had before: an IF ends it
abbrev pub written_step : List ℕ → S.Stmt-F Stmt Arm CaseArm → List ℕ
written_step written (S.Assign (var.Local i) e) = i ∷ written
written_step written (S.If arms other) = []
written_step written other = written

abbrev pub written_after : List ℕ → Stmt → List ℕ
written_after written x = written_step written (out-Stmt x)

-- the locals that the last run of some steps has written
abbrev pub written_by_more : List ℕ → List Stmt → List ℕ
written_by_more written [] = written
written_by_more written (x ∷ rest) = written_by_more (written_after written x) rest

abbrev pub written_by : List Stmt → List ℕ
written_by steps = written_by_more [] steps

-- each step reads only the locals that its run has written before it
abbrev pub AreOfRun : List ℕ → List Stmt → Type 0
AreOfRun written [] = Unit {0}
AreOfRun written (x ∷ rest) = AreWritten written (locals_of (read_by x)) × AreOfRun (written_after written x) rest

-- the statements of a step that is an IF
abbrev pub bodies_step : S.Stmt-F Stmt Arm CaseArm → List (List Stmt)
bodies_step (S.If arms other) = map (λ (arm : Arm). (out-Arm arm).body) arms
bodies_step other = []

-- the statements of each IF among some steps
abbrev pub bodies_in : List Stmt → List (List Stmt)
bodies_in steps = flat_map (λ (x : Stmt). bodies_step (out-Stmt x)) steps

-- each step of a node reads only the locals that its run has written before it, and so do the steps of the IFs in it,
-- whose statements are runs of their own
pub record AreOfRuns (steps : List Stmt) : Type 0 where
  pub own : AreOfRun [] steps
  pub inner : All (AreOfRun []) (bodies_in steps)
