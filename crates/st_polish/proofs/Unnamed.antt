-- Without a symbol a text that has no globals is the one in which symbols stand for places.
use Rattle.std.proofs.Common.{◌≡◌, ◌==◌, true, List, [], ◌∷◌, length, map, refl, sym, ap, ◌∙◌, arith}
use Rattle.std.proofs.lemmas.Bool.{eqb-true}
use Rattle.st_globals.proofs.With.{both, with_area_read, with_area_write, with_arm, with_assign, with_binary, with_case, with_case_arm, with_continue, with_convert, with_exit, with_if, with_invoke, with_literal, with_read, with_return, with_select, with_shift, with_unary, with_while}
use Rattle.st_globals.specs.Globals.{named_var}
use Rattle.st_globals.specs.NamedText.{named_text}
use Rattle.st_globals.specs.WithVariables.{arm_with, body_with, case_with, expr_with, stmt_with, unit_with}
use Rattle.st_tree.proofs.Induction.{Each, ExprSteps, InArm, InCase, StmtSteps, every_body, every_expr}
use Rattle.st_tree.specs.declared.expr.Expr.{Expr}
use Rattle.st_tree.specs.declared.expr.Expr.TheVariants as expr
use Rattle.st_tree.specs.declared.expr.Var.{Var}
use Rattle.st_tree.specs.declared.expr.Var.TheVariants as var
use Rattle.st_tree.specs.declared.program.Arm.{Arm}
use Rattle.st_tree.specs.declared.program.CaseArm.{CaseArm}
use Rattle.st_tree.specs.declared.program.Pou.{Pou}
use Rattle.st_tree.specs.declared.program.StProgram.{StProgram}
use Rattle.st_tree.specs.declared.program.Stmt.{Stmt}
use Rattle.st_tree.specs.declared.program.Stmt.TheVariants as stmt
use Rattle.stl_tree.specs.declared.program.Symbol.{Symbol}

module _ (f : Var → Var) (same : (v : Var) → f v ≡ v) where
  -- Expressions

  abbrev SameExpr : Expr → Type 0
  SameExpr e = expr_with f e ≡ e

  three : {X : Type 0} (h : Expr → Expr → Expr → X) {a b c d e g : Expr} → a ≡ b → c ≡ d → e ≡ g → h a c e ≡ h b d g
  three h {a} {b} {c} {d} {e} {g} p q r = ap (λ x. h x c e) p ∙ ap (λ y. h b y e) q ∙ ap (λ z. h b d z) r

  expr_steps : ExprSteps SameExpr
  expr_steps =
      record {
        literal = λ ty n. with_literal f ty n;
        read = λ v. with_read f v ∙ ap (λ w. expr.Read w) (same v);
        unary = λ op a h. with_unary f op a ∙ ap (λ x. expr.Unary op x) h;
        binary = λ op a b h k. with_binary f op a b ∙ both (λ x y. expr.Binary op x y) h k;
        convert = λ from to a h. with_convert f from to a ∙ ap (λ x. expr.Convert from to x) h;
        select = λ a b c h k m. with_select f a b c ∙ three (λ x y z. expr.Select x y z) h k m;
        shift = λ op a b h k. with_shift f op a b ∙ both (λ x y. expr.Shift op x y) h k;
        area_read = λ w a h. with_area_read f w a ∙ ap (λ x. expr.AreaRead w x) h;
      }

  expr_same : (e : Expr) → expr_with f e ≡ e
  expr_same e = every_expr SameExpr expr_steps e

  -- Statements

  abbrev SameStmt : Stmt → Type 0
  SameStmt x = stmt_with f x ≡ x

  vars_same : (vars : List Var) → map f vars ≡ vars
  vars_same [] = refl
  vars_same (v ∷ vars) = both (λ (x : Var) (rest : List Var). x ∷ rest) (same v) (vars_same vars)

  body_same : (xs : List Stmt) → Each SameStmt xs → body_with f xs ≡ xs
  body_same [] h = refl
  body_same (x ∷ xs) h = both (λ (y : Stmt) (rest : List Stmt). y ∷ rest) h.0 (body_same xs h.1)

  arms_same : (arms : List Arm) → Each (InArm SameStmt) arms → map (arm_with f) arms ≡ arms
  arms_same [] h = refl
  arms_same (arm ∷ arms) h =
      both (λ (x : Arm) (rest : List Arm). x ∷ rest)
      (with_arm f arm ∙ both (λ (e : Expr) (body : List Stmt). record { test = e; body = body }) (expr_same arm.test) (body_same arm.body h.0))
      (arms_same arms h.1)

  cases_same : (arms : List CaseArm) → Each (InCase SameStmt) arms → map (case_with f) arms ≡ arms
  cases_same [] h = refl
  cases_same (arm ∷ arms) h =
      both (λ (x : CaseArm) (rest : List CaseArm). x ∷ rest)
      (with_case_arm f arm ∙ ap (λ (body : List Stmt). record arm { body = body }) (body_same arm.body h.0))
      (cases_same arms h.1)

  steps : StmtSteps SameStmt
  steps =
      record {
        assign = λ v e. with_assign f v e ∙ both (λ (w : Var) (x : Expr). stmt.Assign w x) (same v) (expr_same e);
        area_write = λ w p e.
            with_area_write f w p e ∙ both (λ (x y : Expr). stmt.AreaWrite w x y) (expr_same p) (expr_same e);
        invoke = λ n actuals. with_invoke f n actuals ∙ ap (λ (vars : List Var). stmt.Invoke n vars) (vars_same actuals);
        choice = λ arms other in_arms in_other.
            with_if f arms other
            ∙ both (λ (x : List Arm) (y : List Stmt). stmt.If x y) (arms_same arms in_arms) (body_same other in_other);
        selection = λ e arms other in_arms in_other.
            with_case f e arms other
            ∙ ap (λ (x : Expr). stmt.Case x (map (case_with f) arms) (body_with f other)) (expr_same e)
            ∙ both (λ (x : List CaseArm) (y : List Stmt). stmt.Case e x y) (cases_same arms in_arms) (body_same other in_other);
        loop = λ test body in_body.
            with_while f test body
            ∙ both (λ (x : Expr) (y : List Stmt). stmt.While x y) (expr_same test) (body_same body in_body);
        exit = with_exit f;
        continue = with_continue f;
        return = with_return f;
      }

  units_same : (units : List Pou) → map (unit_with f) units ≡ units
  units_same [] = refl
  units_same (unit ∷ units) =
      both (λ (x : Pou) (rest : List Pou). x ∷ rest)
      (ap (λ (body : List Stmt). record unit { body = body }) (body_same unit.body (every_body SameStmt steps unit.body)))
      (units_same units)

none_named : (v : Var) → named_var [] v ≡ v
none_named (var.Direct a byte bit w) = refl
none_named v = refl

none_there : (symbols : List Symbol) → true ≡ (length symbols == 0) → symbols ≡ []
none_there [] e = refl
none_there (s ∷ symbols) e =
    let n : length (s ∷ symbols) ≡ 0 = eqb-true (length (s ∷ symbols)) 0 (sym e) in absurd (omega (arith, n))

pub unnamed : (tree : StProgram) (symbols : List Symbol) → true ≡ (length symbols == 0) → tree.globals ≡ [] → tree ≡ named_text symbols tree
unnamed tree symbols none empty = sym (ap (λ (symbols : List Symbol). named_text symbols tree) (none_there symbols none) ∙ by)
  where
    by : named_text [] tree ≡ tree
    by =
        ap (λ (units : List Pou). record tree { globals = []; pous = units }) (units_same (named_var []) none_named tree.pous)
        ∙ ap (λ globals. record tree { globals = globals }) (sym empty)
