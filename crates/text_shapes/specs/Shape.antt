-- What is counted of the statements of a unit, at every depth, and how they may use the selector: the local by which a
-- dispatch loop chooses its next block. Not every unit has one.
-- Held against: this project's own readable texts.
use Rattle.std.specs.Prelude.{◌≢◌, ℕ, ◌+◌, ◌==◌, Bool, false, if◌then◌else◌, List, [], ◌∷◌, length, Option, Some, None, All}
use Rattle.std.specs.List.{sum_by}
use Rattle.st_tree.specs.BodyParts.{expressions_step, reads_of, statements_in}
use Rattle.st_tree.specs.declared.expr.Expr.{Expr}
use Rattle.st_tree.specs.declared.expr.Expr.TheVariants as expr
use Rattle.st_tree.specs.declared.expr.Var.{Var}
use Rattle.st_tree.specs.declared.expr.Var.TheVariants as var
use Rattle.st_tree.specs.declared.program.Arm.{Arm}
use Rattle.st_tree.specs.declared.program.CaseArm.{CaseArm}
use Rattle.st_tree.specs.declared.program.Stmt.{Stmt, out-Stmt}
use Rattle.st_tree.specs.declared.program.Stmt.TheOpen as S

-- The selector

-- an expression is a local
abbrev pub is_local : ℕ → Expr → Bool
is_local next (expr.Read (var.Local i)) = i == next
is_local next other = false

-- an expression is the selector of a unit; where a unit has none, none is
abbrev pub is_selector : Option ℕ → Expr → Bool
is_selector None e = false
is_selector (Some next) e = is_local next e

-- a local is not among some variables
abbrev pub AreOthers : ℕ → List Var → Type 0
AreOthers next vars = All (λ (v : Var). v ≢ var.Local next) vars

-- a statement, but for those inside it, assigns only literals to a local, and reads it only as the whole expression of
-- a CASE
abbrev pub KeepsLocal : ℕ → S.Stmt-F Stmt Arm CaseArm → Type 0
KeepsLocal next (S.Assign v (expr.Literal ty n)) = Unit {0}
KeepsLocal next (S.Assign v e) = (v ≢ var.Local next) × AreOthers next (reads_of e)
KeepsLocal next (S.Invoke n vars) = AreOthers next vars
KeepsLocal next (S.Case (expr.Read v) arms other) = Unit {0}
KeepsLocal next other = All (λ (e : Expr). AreOthers next (reads_of e)) (expressions_step other)

-- the same of the selector, where a unit has one
abbrev pub KeepsSelector : Option ℕ → S.Stmt-F Stmt Arm CaseArm → Type 0
KeepsSelector None x = Unit {0}
KeepsSelector (Some next) x = KeepsLocal next x

-- Counts, of a statement without those inside it

-- one for statements after ELSE
abbrev pub one_if_any : List Stmt → ℕ
one_if_any [] = 0
one_if_any (x ∷ rest) = 1

-- the arms of a CASE over the selector, an ELSE counted as one
abbrev pub selector_arms : Option ℕ → S.Stmt-F Stmt Arm CaseArm → ℕ
selector_arms next (S.Case e arms other) = if is_selector next e then length arms + one_if_any other else 0
selector_arms next other = 0

-- a CASE over the selector
abbrev pub selector_cases : Option ℕ → S.Stmt-F Stmt Arm CaseArm → ℕ
selector_cases next (S.Case e arms other) = if is_selector next e then 1 else 0
selector_cases next other = 0

-- a CASE over anything else
abbrev pub other_cases : Option ℕ → S.Stmt-F Stmt Arm CaseArm → ℕ
other_cases next (S.Case e arms other) = if is_selector next e then 0 else 1
other_cases next other = 0

-- a WHILE
abbrev pub loops : S.Stmt-F Stmt Arm CaseArm → ℕ
loops (S.While test body) = 1
loops other = 0

-- the tests of an IF, one for each arm
abbrev pub tests : S.Stmt-F Stmt Arm CaseArm → ℕ
tests (S.If arms other) = length arms
tests other = 0

-- Bodies

-- what is counted over the statements of a body, at every depth
abbrev pub count_in : (S.Stmt-F Stmt Arm CaseArm → ℕ) → List Stmt → ℕ
count_in count body = sum_by (λ (x : Stmt). count (out-Stmt x)) (statements_in body)

-- each statement of a body, at every depth, keeps to how the selector may be used
abbrev pub KeepSelector : Option ℕ → List Stmt → Type 0
KeepSelector next body = All (λ (x : Stmt). KeepsSelector next (out-Stmt x)) (statements_in body)
