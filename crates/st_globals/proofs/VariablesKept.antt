-- Statements with other variables name these, in the same order.
use Rattle.std.proofs.Common.{◌≡◌, List, [], ◌∷◌, ◌++◌, map, refl, sym, ap, ◌∙◌}
use Rattle.st_tree.specs.BodyParts.{reads_of}
use Rattle.st_tree.specs.declared.expr.Var.{Var}
use Rattle.st_tree.specs.declared.program.Arm.{Arm, fold_out-Arm}
use Rattle.st_tree.specs.declared.program.CaseArm.{CaseArm, fold_out-CaseArm}
use Rattle.st_tree.specs.declared.program.Pou.{Pou}
use Rattle.st_tree.specs.declared.program.Stmt.{Stmt, map-Stmt, roll-Stmt}
use Rattle.st_tree.specs.declared.program.Stmt.TheOpen as S
use Rattle.st_tree.specs.declared.program.Stmt.TheVariants as stmt
use Rattle.st_tree.proofs.Equations.{fold_stmt}
use Rattle.st_tree.proofs.Induction.{Each, InArm, InCase, StmtSteps, every_body}
use Rattle.st_globals.specs.KeptLaws.{VariablesAreKept}
use Rattle.st_globals.specs.Variables.{all_of, arm_step, arm_variables, case_step, case_variables, unit_variables, variables_in, variables_of, variables_step}
use Rattle.st_globals.specs.WithVariables.{arm_with, body_with, case_with, expr_with, stmt_with, unit_with}
use Rattle.st_globals.proofs.Kept.{map_both, reads_kept}
use Rattle.st_globals.proofs.With.{both, with_area_write, with_arm, with_assign, with_case, with_case_arm, with_continue, with_exit, with_if, with_invoke, with_return, with_while}

pub variables_at : {x : Stmt} (y : S.Stmt-F Stmt Arm CaseArm) → roll-Stmt y ≡ x → variables_of x
    ≡ variables_step (map-Stmt Stmt Arm CaseArm (List Var) (List Var) (List Var) variables_of arm_variables case_variables y)
variables_at y e = fold_stmt (List Var) (List Var) (List Var) variables_step arm_step case_step y e

pub of_arm : (x : Arm) → arm_variables x ≡ reads_of x.test ++ all_of (map variables_of x.body)
of_arm x = fold_out-Arm (List Var) (List Var) (List Var) variables_step arm_step case_step x

pub of_case : (x : CaseArm) → case_variables x ≡ all_of (map variables_of x.body)
of_case x = fold_out-CaseArm (List Var) (List Var) (List Var) variables_step arm_step case_step x

module _ (f : Var → Var) where
  -- lists of variables one after another, each with the other variables
  joined : (xs xs' ys ys' : List Var) → xs' ≡ map f xs → ys' ≡ map f ys → xs' ++ ys' ≡ map f (xs ++ ys)
  joined xs xs' ys ys' h k = both (λ (a b : List Var). a ++ b) h k ∙ sym (map_both f xs ys)

  abbrev Kept : Stmt → Type 0
  Kept x = variables_of (stmt_with f x) ≡ map f (variables_of x)

  all_kept : {X : Type 0} (vars_of : X → List Var) (change : X → X) (Q : X → Type 0)
      → ((x : X) → Q x → vars_of (change x) ≡ map f (vars_of x)) → (xs : List X) → Each Q xs
      → all_of (map vars_of (map change xs)) ≡ map f (all_of (map vars_of xs))
  all_kept vars_of change Q one [] h = refl
  all_kept vars_of change Q one (x ∷ xs) h =
      joined (vars_of x) (vars_of (change x)) (all_of (map vars_of xs)) (all_of (map vars_of (map change xs))) (one x h.0)
      (all_kept vars_of change Q one xs h.1)

  body_kept : (xs : List Stmt) → Each Kept xs → all_of (map variables_of (body_with f xs)) ≡ map f (all_of (map variables_of xs))
  body_kept xs h = all_kept variables_of (stmt_with f) Kept (λ x own. own) xs h

  arm_kept : (x : Arm) → InArm Kept x → arm_variables (arm_with f x) ≡ map f (arm_variables x)
  arm_kept x h =
      ap arm_variables (with_arm f x) ∙ of_arm (record { test = expr_with f x.test; body = body_with f x.body })
      ∙ joined (reads_of x.test) (reads_of (expr_with f x.test)) (all_of (map variables_of x.body))
      (all_of (map variables_of (body_with f x.body))) (reads_kept f x.test) (body_kept x.body h)
      ∙ sym (ap (map f) (of_arm x))

  case_kept : (x : CaseArm) → InCase Kept x → case_variables (case_with f x) ≡ map f (case_variables x)
  case_kept x h =
      ap case_variables (with_case_arm f x) ∙ of_case (record { labels = x.labels; body = body_with f x.body })
      ∙ body_kept x.body h ∙ sym (ap (map f) (of_case x))

  arms_kept : (xs : List Arm) → Each (InArm Kept) xs → all_of (map arm_variables (map (arm_with f) xs)) ≡ map f (all_of (map arm_variables xs))
  arms_kept xs h = all_kept arm_variables (arm_with f) (InArm Kept) arm_kept xs h

  cases_kept : (xs : List CaseArm) → Each (InCase Kept) xs
      → all_of (map case_variables (map (case_with f) xs)) ≡ map f (all_of (map case_variables xs))
  cases_kept xs h = all_kept case_variables (case_with f) (InCase Kept) case_kept xs h

  kept : StmtSteps Kept
  kept =
      record {
        assign = λ v e.
            ap variables_of (with_assign f v e) ∙ variables_at (S.Assign (f v) (expr_with f e)) (stmt.rolls-Assign (f v) (expr_with f e))
            ∙ ap (λ (vars : List Var). f v ∷ vars) (reads_kept f e)
            ∙ sym (ap (map f) (variables_at (S.Assign v e) (stmt.rolls-Assign v e)));
        area_write = λ w p e.
            ap variables_of (with_area_write f w p e)
            ∙ variables_at (S.AreaWrite w (expr_with f p) (expr_with f e)) (stmt.rolls-AreaWrite w (expr_with f p) (expr_with f e))
            ∙ joined (reads_of p) (reads_of (expr_with f p)) (reads_of e) (reads_of (expr_with f e)) (reads_kept f p) (reads_kept f e)
            ∙ sym (ap (map f) (variables_at (S.AreaWrite w p e) (stmt.rolls-AreaWrite w p e)));
        invoke = λ n actuals.
            ap variables_of (with_invoke f n actuals) ∙ variables_at (S.Invoke n (map f actuals)) (stmt.rolls-Invoke n (map f actuals))
            ∙ sym (ap (map f) (variables_at (S.Invoke n actuals) (stmt.rolls-Invoke n actuals)));
        choice = λ arms other in_arms in_other.
            ap variables_of (with_if f arms other)
            ∙ variables_at (S.If (map (arm_with f) arms) (body_with f other)) (stmt.rolls-If (map (arm_with f) arms) (body_with f other))
            ∙ joined (all_of (map arm_variables arms)) (all_of (map arm_variables (map (arm_with f) arms)))
            (all_of (map variables_of other)) (all_of (map variables_of (body_with f other))) (arms_kept arms in_arms)
            (body_kept other in_other)
            ∙ sym (ap (map f) (variables_at (S.If arms other) (stmt.rolls-If arms other)));
        selection = λ e arms other in_arms in_other.
            ap variables_of (with_case f e arms other)
            ∙ variables_at (S.Case (expr_with f e) (map (case_with f) arms) (body_with f other))
            (stmt.rolls-Case (expr_with f e) (map (case_with f) arms) (body_with f other))
            ∙ joined (reads_of e) (reads_of (expr_with f e)) (all_of (map case_variables arms) ++ all_of (map variables_of other))
            (all_of (map case_variables (map (case_with f) arms)) ++ all_of (map variables_of (body_with f other))) (reads_kept f e)
            (joined (all_of (map case_variables arms)) (all_of (map case_variables (map (case_with f) arms)))
            (all_of (map variables_of other)) (all_of (map variables_of (body_with f other))) (cases_kept arms in_arms)
            (body_kept other in_other))
            ∙ sym (ap (map f) (variables_at (S.Case e arms other) (stmt.rolls-Case e arms other)));
        loop = λ test body in_body.
            ap variables_of (with_while f test body)
            ∙ variables_at (S.While (expr_with f test) (body_with f body)) (stmt.rolls-While (expr_with f test) (body_with f body))
            ∙ joined (reads_of test) (reads_of (expr_with f test)) (all_of (map variables_of body))
            (all_of (map variables_of (body_with f body))) (reads_kept f test) (body_kept body in_body)
            ∙ sym (ap (map f) (variables_at (S.While test body) (stmt.rolls-While test body)));
        exit =
            ap variables_of (with_exit f) ∙ variables_at S.Exit stmt.rolls-Exit ∙ sym (ap (map f) (variables_at S.Exit stmt.rolls-Exit));
        continue =
            ap variables_of (with_continue f) ∙ variables_at S.Continue stmt.rolls-Continue
            ∙ sym (ap (map f) (variables_at S.Continue stmt.rolls-Continue));
        return =
            ap variables_of (with_return f) ∙ variables_at S.Return stmt.rolls-Return
            ∙ sym (ap (map f) (variables_at S.Return stmt.rolls-Return));
      }

  each_kept : (body : List Stmt) → Each Kept body → variables_in (body_with f body) ≡ map f (variables_in body)
  each_kept [] h = refl
  each_kept (x ∷ xs) h =
      joined (variables_of x) (variables_of (stmt_with f x)) (variables_in xs) (variables_in (body_with f xs)) h.0 (each_kept xs h.1)

  body_variables : (body : List Stmt) → variables_in (body_with f body) ≡ map f (variables_in body)
  body_variables body = each_kept body (every_body Kept kept body)

  pub unit_variables_kept : (units : List Pou) → unit_variables (map (unit_with f) units) ≡ map f (unit_variables units)
  unit_variables_kept [] = refl
  unit_variables_kept (u ∷ units) =
      joined (variables_in u.body) (variables_in (body_with f u.body)) (unit_variables units)
      (unit_variables (map (unit_with f) units)) (body_variables u.body) (unit_variables_kept units)

pub variables_kept : VariablesAreKept
variables_kept f body = body_variables f body
