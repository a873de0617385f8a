-- Arms that are taken apart and put together again with other variables.
use Rattle.std.proofs.Common.{◌≡◌, List, sym, ap, ◌∙◌}
use Rattle.st_tree.specs.declared.expr.Expr.{Expr}
use Rattle.st_tree.specs.declared.expr.Var.{Var}
use Rattle.st_tree.specs.declared.program.Arm.{Arm}
use Rattle.st_tree.specs.declared.program.CaseArm.{CaseArm}
use Rattle.st_tree.specs.declared.program.Stmt.{Stmt}
use Rattle.st_globals.specs.WithVariables.{arm_with, body_with, case_with, expr_with}
use Rattle.st_globals.proofs.With.{both, with_arm, with_case_arm}
use Rattle.std.specs.Prelude.{ℤ}

abbrev pub arm_of : Expr → List Stmt → Arm
arm_of e body = record { test = e; body = body }

abbrev pub case_of : List ℤ → List Stmt → CaseArm
case_of labels body = record { labels = labels; body = body }

pub arm_is : (f : Var → Var) (x y : Arm) (e : Expr) (body : List Stmt) → y ≡ x → e ≡ expr_with f y.test → body ≡ body_with f y.body
    → arm_of e body ≡ arm_with f x
arm_is f x y e body same h k =
    both arm_of (h ∙ ap (λ (z : Arm). expr_with f z.test) same) (k ∙ ap (λ (z : Arm). body_with f z.body) same) ∙ sym (with_arm f x)

pub case_is : (f : Var → Var) (x y : CaseArm) (body : List Stmt) → y ≡ x → body ≡ body_with f y.body
    → case_of y.labels body ≡ case_with f x
case_is f x y body same k =
    both case_of (ap (λ (z : CaseArm). z.labels) same) (k ∙ ap (λ (z : CaseArm). body_with f z.body) same) ∙ sym (with_case_arm f x)
