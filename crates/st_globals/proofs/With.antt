-- What an expression and a statement with other variables are, at each variant. And any fold of them: it is a fold of
-- the expression or the statement itself, where one layer says so.
use Rattle.std.proofs.Common.{◌≡◌, ℕ, ℤ, List, [], ◌∷◌, map, refl, sym, ap, ◌∙◌}
use Rattle.s7_base.specs.declared.word.Width.{Width}
use Rattle.st_tree.specs.declared.expr.BinaryOp.{BinaryOp}
use Rattle.st_tree.specs.declared.expr.Expr.{Expr, fold-Expr}
use Rattle.st_tree.specs.declared.expr.Expr.TheOpen as E
use Rattle.st_tree.specs.declared.expr.Expr.TheVariants as expr
use Rattle.st_tree.specs.declared.expr.ShiftOp.{ShiftOp}
use Rattle.st_tree.specs.declared.expr.StType.{StType}
use Rattle.st_tree.specs.declared.expr.UnaryOp.{UnaryOp}
use Rattle.st_tree.specs.declared.expr.Var.{Var}
use Rattle.st_tree.specs.declared.program.Arm.{Arm, fold-Arm, fold_out-Arm}
use Rattle.st_tree.specs.declared.program.CaseArm.{CaseArm, fold-CaseArm, fold_out-CaseArm}
use Rattle.st_tree.specs.declared.program.Stmt.{Stmt, fold-Stmt, map-Stmt, roll-Stmt}
use Rattle.st_tree.specs.declared.program.Stmt.TheOpen as S
use Rattle.st_tree.specs.declared.program.Stmt.TheVariants as stmt
use Rattle.st_tree.proofs.Equations.{fold_area_read, fold_binary, fold_convert, fold_literal, fold_read, fold_select, fold_shift, fold_stmt, fold_unary}
use Rattle.st_tree.proofs.Induction.{Each, ExprSteps, InArm, InCase, StmtSteps, every_body, every_expr, every_stmt}
use Rattle.st_globals.specs.WithVariables.{arm_step, arm_with, body_with, case_step, case_with, expr_step, expr_with, stmt_step, stmt_with}

-- equal in two places
pub both : {X Y Z : Type 0} (h : X → Y → Z) {a b : X} {c d : Y} → a ≡ b → c ≡ d → h a c ≡ h b d
both h {a} {b} {c} {d} p q = ap (λ x. h x c) p ∙ ap (λ y. h b y) q

module _ (f : Var → Var) where
  -- Expressions

  pub with_literal : (ty : StType) (n : ℤ) → expr_with f (expr.Literal ty n) ≡ expr.Literal ty n
  with_literal ty n = fold_literal Expr (expr_step f) ty n

  pub with_read : (v : Var) → expr_with f (expr.Read v) ≡ expr.Read (f v)
  with_read v = fold_read Expr (expr_step f) v

  pub with_unary : (op : UnaryOp) (a : Expr) → expr_with f (expr.Unary op a) ≡ expr.Unary op (expr_with f a)
  with_unary op a = fold_unary Expr (expr_step f) op a

  pub with_binary : (op : BinaryOp) (a b : Expr) → expr_with f (expr.Binary op a b)
      ≡ expr.Binary op (expr_with f a) (expr_with f b)
  with_binary op a b = fold_binary Expr (expr_step f) op a b

  pub with_convert : (from to : StType) (a : Expr) → expr_with f (expr.Convert from to a)
      ≡ expr.Convert from to (expr_with f a)
  with_convert from to a = fold_convert Expr (expr_step f) from to a

  pub with_select : (a b c : Expr) → expr_with f (expr.Select a b c)
      ≡ expr.Select (expr_with f a) (expr_with f b) (expr_with f c)
  with_select a b c = fold_select Expr (expr_step f) a b c

  pub with_shift : (op : ShiftOp) (a b : Expr) → expr_with f (expr.Shift op a b)
      ≡ expr.Shift op (expr_with f a) (expr_with f b)
  with_shift op a b = fold_shift Expr (expr_step f) op a b

  pub with_area_read : (w : Width) (a : Expr) → expr_with f (expr.AreaRead w a) ≡ expr.AreaRead w (expr_with f a)
  with_area_read w a = fold_area_read Expr (expr_step f) w a

  -- Statements

  with_stmt : {x : Stmt} (y : S.Stmt-F Stmt Arm CaseArm) → roll-Stmt y ≡ x
      → stmt_with f x
      ≡ stmt_step f
      (map-Stmt Stmt Arm CaseArm Stmt Arm CaseArm (stmt_with f) (arm_with f)
      (case_with f) y)
  with_stmt y e = fold_stmt Stmt Arm CaseArm (stmt_step f) (arm_step f) case_step y e

  pub with_assign : (v : Var) (e : Expr) → stmt_with f (stmt.Assign v e) ≡ stmt.Assign (f v) (expr_with f e)
  with_assign v e = with_stmt (S.Assign v e) (stmt.rolls-Assign v e)

  pub with_area_write : (w : Width) (p e : Expr) → stmt_with f (stmt.AreaWrite w p e)
      ≡ stmt.AreaWrite w (expr_with f p) (expr_with f e)
  with_area_write w p e = with_stmt (S.AreaWrite w p e) (stmt.rolls-AreaWrite w p e)

  pub with_invoke : (n : ℕ) (actuals : List Var) → stmt_with f (stmt.Invoke n actuals) ≡ stmt.Invoke n (map f actuals)
  with_invoke n actuals = with_stmt (S.Invoke n actuals) (stmt.rolls-Invoke n actuals)

  pub with_if : (arms : List Arm) (other : List Stmt) → stmt_with f (stmt.If arms other)
      ≡ stmt.If (map (arm_with f) arms) (body_with f other)
  with_if arms other = with_stmt (S.If arms other) (stmt.rolls-If arms other)

  pub with_case : (e : Expr) (arms : List CaseArm) (other : List Stmt) → stmt_with f (stmt.Case e arms other)
      ≡ stmt.Case (expr_with f e) (map (case_with f) arms) (body_with f other)
  with_case e arms other = with_stmt (S.Case e arms other) (stmt.rolls-Case e arms other)

  pub with_while : (test : Expr) (body : List Stmt) → stmt_with f (stmt.While test body)
      ≡ stmt.While (expr_with f test) (body_with f body)
  with_while test body = with_stmt (S.While test body) (stmt.rolls-While test body)

  pub with_exit : stmt_with f stmt.Exit ≡ stmt.Exit
  with_exit = with_stmt S.Exit stmt.rolls-Exit

  pub with_continue : stmt_with f stmt.Continue ≡ stmt.Continue
  with_continue = with_stmt S.Continue stmt.rolls-Continue

  pub with_return : stmt_with f stmt.Return ≡ stmt.Return
  with_return = with_stmt S.Return stmt.rolls-Return

  pub with_arm : (x : Arm) → arm_with f x ≡ record { test = expr_with f x.test; body = body_with f x.body }
  with_arm x = fold_out-Arm Stmt Arm CaseArm (stmt_step f) (arm_step f) case_step x

  pub with_case_arm : (x : CaseArm) → case_with f x ≡ record { labels = x.labels; body = body_with f x.body }
  with_case_arm x = fold_out-CaseArm Stmt Arm CaseArm (stmt_step f) (arm_step f) case_step x

-- Any fold of an expression with other variables

-- a layer with other variables
abbrev pub expr_layer : {A : Type 0} → (Var → Var) → E.Expr-F A → E.Expr-F A
expr_layer f (E.Literal ty n) = E.Literal ty n
expr_layer f (E.Read v) = E.Read (f v)
expr_layer f (E.Unary op a) = E.Unary op a
expr_layer f (E.Binary op a b) = E.Binary op a b
expr_layer f (E.Convert from to a) = E.Convert from to a
expr_layer f (E.Select gate a b) = E.Select gate a b
expr_layer f (E.Shift op a count) = E.Shift op a count
expr_layer f (E.AreaRead w p) = E.AreaRead w p

module _ {A : Type 0} (f : Var → Var) (first second : E.Expr-F A → A)
    (layers : (y : E.Expr-F A) → first (expr_layer f y) ≡ second y)
  where
    abbrev one : Expr → A
    one = fold-Expr A first

    abbrev two : Expr → A
    two = fold-Expr A second

    abbrev SameFold : Expr → Type 0
    SameFold e = one (expr_with f e) ≡ two e

    steps : ExprSteps SameFold
    steps =
        record {
          literal = λ ty n.
              ap one (with_literal f ty n) ∙ fold_literal A first ty n ∙ layers (E.Literal ty n) ∙ sym (fold_literal A second ty n);
          read = λ v. ap one (with_read f v) ∙ fold_read A first (f v) ∙ layers (E.Read v) ∙ sym (fold_read A second v);
          unary = λ op a h.
              ap one (with_unary f op a) ∙ fold_unary A first op (expr_with f a) ∙ ap (λ x. first (E.Unary op x)) h
              ∙ layers (E.Unary op (two a)) ∙ sym (fold_unary A second op a);
          binary = λ op a b h k.
              ap one (with_binary f op a b) ∙ fold_binary A first op (expr_with f a) (expr_with f b)
              ∙ both (λ x y. first (E.Binary op x y)) h k ∙ layers (E.Binary op (two a) (two b)) ∙ sym (fold_binary A second op a b);
          convert = λ from to a h.
              ap one (with_convert f from to a) ∙ fold_convert A first from to (expr_with f a)
              ∙ ap (λ x. first (E.Convert from to x)) h ∙ layers (E.Convert from to (two a)) ∙ sym (fold_convert A second from to a);
          select = λ a b c h k l.
              ap one (with_select f a b c) ∙ fold_select A first (expr_with f a) (expr_with f b) (expr_with f c)
              ∙ both (λ x y. first (E.Select x y (one (expr_with f c)))) h k ∙ ap (λ z. first (E.Select (two a) (two b) z)) l
              ∙ layers (E.Select (two a) (two b) (two c)) ∙ sym (fold_select A second a b c);
          shift = λ op a b h k.
              ap one (with_shift f op a b) ∙ fold_shift A first op (expr_with f a) (expr_with f b)
              ∙ both (λ x y. first (E.Shift op x y)) h k ∙ layers (E.Shift op (two a) (two b)) ∙ sym (fold_shift A second op a b);
          area_read = λ w a h.
              ap one (with_area_read f w a) ∙ fold_area_read A first w (expr_with f a) ∙ ap (λ x. first (E.AreaRead w x)) h
              ∙ layers (E.AreaRead w (two a)) ∙ sym (fold_area_read A second w a);
        }

    pub expr_fold : (e : Expr) → fold-Expr A first (expr_with f e) ≡ fold-Expr A second e
    expr_fold e = every_expr SameFold steps e

-- Any fold of a statement with other variables

abbrev pub stmt_layer : {A B C : Type 0} → (Var → Var) → S.Stmt-F A B C → S.Stmt-F A B C
stmt_layer f (S.Assign v e) = S.Assign (f v) (expr_with f e)
stmt_layer f (S.AreaWrite w p e) = S.AreaWrite w (expr_with f p) (expr_with f e)
stmt_layer f (S.Invoke n actuals) = S.Invoke n (map f actuals)
stmt_layer f (S.If arms other) = S.If arms other
stmt_layer f (S.Case e arms other) = S.Case (expr_with f e) arms other
stmt_layer f (S.While test body) = S.While (expr_with f test) body
stmt_layer f S.Exit = S.Exit
stmt_layer f S.Continue = S.Continue
stmt_layer f S.Return = S.Return

abbrev pub arm_layer : {A B C : Type 0} → (Var → Var) → S.Arm-F A B C → S.Arm-F A B C
arm_layer f arm = record { test = expr_with f arm.test; body = arm.body }

module _ {A B C : Type 0} (f : Var → Var) (first second : S.Stmt-F A B C → A) (arm_one arm_two : S.Arm-F A B C → B)
    (case_one case_two : S.CaseArm-F A B C → C)
    (layers : (y : S.Stmt-F A B C) → first (stmt_layer f y) ≡ second y)
    (arms : (y : S.Arm-F A B C) → arm_one (arm_layer f y) ≡ arm_two y)
    (cases : (y : S.CaseArm-F A B C) → case_one y ≡ case_two y)
  where
    abbrev s_one : Stmt → A
    s_one = fold-Stmt A B C first arm_one case_one

    abbrev s_two : Stmt → A
    s_two = fold-Stmt A B C second arm_two case_two

    abbrev a_one : Arm → B
    a_one = fold-Arm A B C first arm_one case_one

    abbrev a_two : Arm → B
    a_two = fold-Arm A B C second arm_two case_two

    abbrev c_one : CaseArm → C
    c_one = fold-CaseArm A B C first arm_one case_one

    abbrev c_two : CaseArm → C
    c_two = fold-CaseArm A B C second arm_two case_two

    abbrev SameStmt : Stmt → Type 0
    SameStmt x = s_one (stmt_with f x) ≡ s_two x

    body_same : (xs : List Stmt) → Each SameStmt xs → map s_one (body_with f xs) ≡ map s_two xs
    body_same [] h = refl
    body_same (x ∷ xs) h = both (λ y ys. y ∷ ys) h.0 (body_same xs h.1)

    arm_same : (x : Arm) → Each SameStmt x.body → a_one (arm_with f x) ≡ a_two x
    arm_same x h =
        ap a_one (with_arm f x)
        ∙ fold_out-Arm A B C first arm_one case_one (record { test = expr_with f x.test; body = body_with f x.body })
        ∙ ap (λ (ys : List A). arm_one (record { test = expr_with f x.test; body = ys })) (body_same x.body h)
        ∙ arms (record { test = x.test; body = map s_two x.body })
        ∙ sym (fold_out-Arm A B C second arm_two case_two x)

    case_same : (x : CaseArm) → Each SameStmt x.body → c_one (case_with f x) ≡ c_two x
    case_same x h =
        ap c_one (with_case_arm f x)
        ∙ fold_out-CaseArm A B C first arm_one case_one (record { labels = x.labels; body = body_with f x.body })
        ∙ ap (λ (ys : List A). case_one (record { labels = x.labels; body = ys })) (body_same x.body h)
        ∙ cases (record { labels = x.labels; body = map s_two x.body })
        ∙ sym (fold_out-CaseArm A B C second arm_two case_two x)

    arms_same : (xs : List Arm) → Each (InArm SameStmt) xs → map a_one (map (arm_with f) xs) ≡ map a_two xs
    arms_same [] h = refl
    arms_same (x ∷ xs) h = both (λ y ys. y ∷ ys) (arm_same x h.0) (arms_same xs h.1)

    cases_same : (xs : List CaseArm) → Each (InCase SameStmt) xs → map c_one (map (case_with f) xs) ≡ map c_two xs
    cases_same [] h = refl
    cases_same (x ∷ xs) h = both (λ y ys. y ∷ ys) (case_same x h.0) (cases_same xs h.1)

    folds_one : {x : Stmt} (y : S.Stmt-F Stmt Arm CaseArm) → roll-Stmt y ≡ x
        → s_one x
        ≡ first (map-Stmt Stmt Arm CaseArm A B C s_one a_one c_one y)
    folds_one y e = fold_stmt A B C first arm_one case_one y e

    folds_two : {x : Stmt} (y : S.Stmt-F Stmt Arm CaseArm) → roll-Stmt y ≡ x
        → s_two x
        ≡ second (map-Stmt Stmt Arm CaseArm A B C s_two a_two c_two y)
    folds_two y e = fold_stmt A B C second arm_two case_two y e

    stmt_steps : StmtSteps SameStmt
    stmt_steps =
        record {
          assign = λ v e.
              ap s_one (with_assign f v e) ∙ folds_one (S.Assign (f v) (expr_with f e)) (stmt.rolls-Assign (f v) (expr_with f e))
              ∙ layers (S.Assign v e) ∙ sym (folds_two (S.Assign v e) (stmt.rolls-Assign v e));
          area_write = λ w p e.
              ap s_one (with_area_write f w p e)
              ∙ folds_one (S.AreaWrite w (expr_with f p) (expr_with f e)) (stmt.rolls-AreaWrite w (expr_with f p) (expr_with f e))
              ∙ layers (S.AreaWrite w p e) ∙ sym (folds_two (S.AreaWrite w p e) (stmt.rolls-AreaWrite w p e));
          invoke = λ n actuals.
              ap s_one (with_invoke f n actuals) ∙ folds_one (S.Invoke n (map f actuals)) (stmt.rolls-Invoke n (map f actuals))
              ∙ layers (S.Invoke n actuals) ∙ sym (folds_two (S.Invoke n actuals) (stmt.rolls-Invoke n actuals));
          choice = λ xs other in_arms in_other.
              ap s_one (with_if f xs other)
              ∙ folds_one (S.If (map (arm_with f) xs) (body_with f other)) (stmt.rolls-If (map (arm_with f) xs) (body_with f other))
              ∙ both (λ (bs : List B) (os : List A). first (S.If bs os)) (arms_same xs in_arms) (body_same other in_other)
              ∙ layers (S.If (map a_two xs) (map s_two other)) ∙ sym (folds_two (S.If xs other) (stmt.rolls-If xs other));
          selection = λ e xs other in_arms in_other.
              ap s_one (with_case f e xs other)
              ∙ folds_one (S.Case (expr_with f e) (map (case_with f) xs) (body_with f other))
              (stmt.rolls-Case (expr_with f e) (map (case_with f) xs) (body_with f other))
              ∙ both (λ (cs : List C) (os : List A). first (S.Case (expr_with f e) cs os)) (cases_same xs in_arms) (body_same other in_other)
              ∙ layers (S.Case e (map c_two xs) (map s_two other)) ∙ sym (folds_two (S.Case e xs other) (stmt.rolls-Case e xs other));
          loop = λ test body in_body.
              ap s_one (with_while f test body)
              ∙ folds_one (S.While (expr_with f test) (body_with f body)) (stmt.rolls-While (expr_with f test) (body_with f body))
              ∙ ap (λ (ys : List A). first (S.While (expr_with f test) ys)) (body_same body in_body)
              ∙ layers (S.While test (map s_two body)) ∙ sym (folds_two (S.While test body) (stmt.rolls-While test body));
          exit = ap s_one (with_exit f) ∙ folds_one S.Exit stmt.rolls-Exit ∙ layers S.Exit ∙ sym (folds_two S.Exit stmt.rolls-Exit);
          continue =
              ap s_one (with_continue f) ∙ folds_one S.Continue stmt.rolls-Continue ∙ layers S.Continue
              ∙ sym (folds_two S.Continue stmt.rolls-Continue);
          return =
              ap s_one (with_return f) ∙ folds_one S.Return stmt.rolls-Return ∙ layers S.Return
              ∙ sym (folds_two S.Return stmt.rolls-Return);
        }

    pub stmt_fold : (x : Stmt) → fold-Stmt A B C first arm_one case_one (stmt_with f x) ≡ fold-Stmt A B C second arm_two case_two x
    stmt_fold x = every_stmt SameStmt stmt_steps x

    pub body_fold : (xs : List Stmt) → map (fold-Stmt A B C first arm_one case_one) (body_with f xs)
        ≡ map (fold-Stmt A B C second arm_two case_two) xs
    body_fold xs = body_same xs (every_body SameStmt stmt_steps xs)
