-- Induction over expressions and over statements: a fact holds of each where it is shown at each variant, with
-- the fact of the parts.
use Rattle.st_tree.proofs.Common.{ℕ, ℤ, List, [], ◌∷◌, map, sym, subst, Width, BinaryOp, Expr, fold-Expr, fold-roll-Expr, ShiftOp, StType, UnaryOp, Var, Arm, CaseArm, Stmt, map-Stmt, roll-Stmt}
use Rattle.st_tree.specs.declared.expr.Expr.{ind-Expr, map-Expr, roll-Expr}
use Rattle.st_tree.specs.declared.expr.Expr.TheVariants as expr
use Rattle.st_tree.specs.declared.expr.Expr.TheOpen as E
use Rattle.st_tree.specs.declared.program.Stmt.{ind-Stmt}
use Rattle.st_tree.specs.declared.program.Stmt.TheOpen as S
use Rattle.st_tree.specs.declared.program.Stmt.TheVariants as stmt

-- Expressions

-- what shows a fact of every expression
pub record ExprSteps (P : Expr → Type 0) : Type 0 where
  pub literal : (ty : StType) (n : ℤ) → P (expr.Literal ty n)
  pub read : (v : Var) → P (expr.Read v)
  pub unary : (op : UnaryOp) (a : Expr) → P a → P (expr.Unary op a)
  pub binary : (op : BinaryOp) (a b : Expr) → P a → P b → P (expr.Binary op a b)
  pub convert : (from to : StType) (a : Expr) → P a → P (expr.Convert from to a)
  pub select : (a b c : Expr) → P a → P b → P c → P (expr.Select a b c)
  pub shift : (op : ShiftOp) (a b : Expr) → P a → P b → P (expr.Shift op a b)
  pub area_read : (w : Width) (a : Expr) → P a → P (expr.AreaRead w a)

module _ (P : Expr → Type 0) (h : ExprSteps P) where
  -- an operand with its fact
  abbrev AnExpr : Type 0
  AnExpr = (x : Expr) × P x

  expr_core : (y : E.Expr-F AnExpr) → P (roll-Expr (map-Expr AnExpr Expr (λ e. e.0) y))
  expr_core (E.Literal ty n) = subst P (sym (expr.rolls-Literal ty n)) (h.literal ty n)
  expr_core (E.Read v) = subst P (sym (expr.rolls-Read v)) (h.read v)
  expr_core (E.Unary op a) = subst P (sym (expr.rolls-Unary op a.0)) (h.unary op a.0 a.1)
  expr_core (E.Binary op a b) = subst P (sym (expr.rolls-Binary op a.0 b.0)) (h.binary op a.0 b.0 a.1 b.1)
  expr_core (E.Convert from to a) = subst P (sym (expr.rolls-Convert from to a.0)) (h.convert from to a.0 a.1)
  expr_core (E.Select a b c) = subst P (sym (expr.rolls-Select a.0 b.0 c.0)) (h.select a.0 b.0 c.0 a.1 b.1 c.1)
  expr_core (E.Shift op a b) = subst P (sym (expr.rolls-Shift op a.0 b.0)) (h.shift op a.0 b.0 a.1 b.1)
  expr_core (E.AreaRead w a) = subst P (sym (expr.rolls-AreaRead w a.0)) (h.area_read w a.0 a.1)

  pub every_expr : (e : Expr) → P e
  every_expr = ind-Expr P (λ x y e. rw (← e) (expr_core y))

-- Two folds

-- what two folds gave of one operand, which is related
abbrev pub Both : {A B : Type 0} → (A → B → Type 0) → Type 0
Both {A} {B} R = (a : A) × (b : B) × R a b

-- one layer of them gives what is related, whatever related operands it has
abbrev pub Layers : {A B : Type 0} → (A → B → Type 0) → (E.Expr-F A → A) → (E.Expr-F B → B) → Type 0
Layers {A} {B} R first second =
    (y : E.Expr-F (Both R)) → R (first (map-Expr (Both R) A (λ x. x.0) y)) (second (map-Expr (Both R) B (λ x. x.1) y))

module _ {A B : Type 0} (R : A → B → Type 0) (first : E.Expr-F A → A) (second : E.Expr-F B → B)
    (layers : Layers R first second)
  where
    abbrev Related : Expr → Type 0
    Related e = R (fold-Expr A first e) (fold-Expr B second e)

    abbrev AnOperand : Type 0
    AnOperand = (x : Expr) × Related x

    abbrev both : AnOperand → Both R
    both x = (fold-Expr A first x.0, fold-Expr B second x.0, x.1)

    abbrev layer : E.Expr-F AnOperand → E.Expr-F Expr
    layer y = map-Expr AnOperand Expr (λ x. x.0) y

    in_step : (y : E.Expr-F AnOperand) → R (first (map-Expr Expr A (fold-Expr A first) (layer y)))
        (second (map-Expr Expr B (fold-Expr B second) (layer y)))
    in_step (E.Literal ty n) = layers (E.Literal ty n)
    in_step y = layers (map-Expr AnOperand (Both R) both y)

    -- so they give what is related of every expression
    pub folds_related : (e : Expr) → Related e
    folds_related =
        ind-Expr Related (λ x y e.
        rw (← e, fold-roll-Expr A first (layer y), fold-roll-Expr B second (layer y)) (in_step y))

-- Statements

-- a fact of each of some elements
abbrev pub Each : {A : Type 0} → (A → Type 0) → List A → Type 0
Each P [] = Unit {0}
Each P (x ∷ xs) = P x × Each P xs

-- a fact of each statement of an arm
abbrev pub InArm : (Stmt → Type 0) → Arm → Type 0
InArm P arm = Each P arm.body

abbrev pub InCase : (Stmt → Type 0) → CaseArm → Type 0
InCase P arm = Each P arm.body

-- what shows a fact of every statement
pub record StmtSteps (P : Stmt → Type 0) : Type 0 where
  pub assign : (v : Var) (e : Expr) → P (stmt.Assign v e)
  pub area_write : (w : Width) (p e : Expr) → P (stmt.AreaWrite w p e)
  pub invoke : (n : ℕ) (actuals : List Var) → P (stmt.Invoke n actuals)
  pub choice : (arms : List Arm) (other : List Stmt) → Each (InArm P) arms → Each P other → P (stmt.If arms other)
  pub selection : (e : Expr) (arms : List CaseArm) (other : List Stmt) → Each (InCase P) arms → Each P other
      → P (stmt.Case e arms other)
  pub loop : (test : Expr) (body : List Stmt) → Each P body → P (stmt.While test body)
  pub exit : P stmt.Exit
  pub continue : P stmt.Continue
  pub return : P stmt.Return

module _ (P : Stmt → Type 0) (h : StmtSteps P) where
  -- a part with its fact
  abbrev AStmt : Type 0
  AStmt = (x : Stmt) × P x

  abbrev AnArm : Type 0
  AnArm = (x : Arm) × InArm P x

  abbrev ACase : Type 0
  ACase = (x : CaseArm) × InCase P x

  all_hold : {A : Type 0} (Q : A → Type 0) (ys : List ((x : A) × Q x)) → Each Q (map (λ (y : (x : A) × Q x). y.0) ys)
  all_hold Q [] = tt
  all_hold Q (y ∷ ys) = (y.1, all_hold Q ys)

  core : (y : S.Stmt-F AStmt AnArm ACase)
      → P (roll-Stmt (map-Stmt AStmt AnArm ACase Stmt Arm CaseArm (λ e. e.0) (λ e. e.0) (λ e. e.0) y))
  core (S.Assign v e) = subst P (sym (stmt.rolls-Assign v e)) (h.assign v e)
  core (S.AreaWrite w p e) = subst P (sym (stmt.rolls-AreaWrite w p e)) (h.area_write w p e)
  core (S.Invoke n actuals) = subst P (sym (stmt.rolls-Invoke n actuals)) (h.invoke n actuals)
  core (S.If arms other) = subst P (sym (stmt.rolls-If _ _)) (h.choice _ _ (all_hold (InArm P) arms) (all_hold P other))
  core (S.Case e arms other) =
      subst P (sym (stmt.rolls-Case e _ _)) (h.selection e _ _ (all_hold (InCase P) arms) (all_hold P other))
  core (S.While test body) = subst P (sym (stmt.rolls-While test _)) (h.loop test _ (all_hold P body))
  core S.Exit = subst P (sym stmt.rolls-Exit) h.exit
  core S.Continue = subst P (sym stmt.rolls-Continue) h.continue
  core S.Return = subst P (sym stmt.rolls-Return) h.return

  pub every_stmt : (x : Stmt) → P x
  every_stmt =
      ind-Stmt P (InArm P) (InCase P) (λ x y e. rw (← e) (core y))
      (λ x (y : S.Arm-F AStmt AnArm ACase) e. rw (← e) (all_hold P y.body))
      (λ x (y : S.CaseArm-F AStmt AnArm ACase) e. rw (← e) (all_hold P y.body))

  pub every_body : (body : List Stmt) → Each P body
  every_body [] = tt
  every_body (x ∷ xs) = (every_stmt x, every_body xs)
