-- What a fold over a tree is: of expressions at each variant, and of statements. First any fold, and then those
-- of this crate, as rules by which `simp` opens them.
use Rattle.st_tree.proofs.Common.{◌≡◌, ℕ, ◌-◌, ℤ, List, ◌∷◌, map, Result, Ok, Err, sym, ap, ◌∙◌, and_then, Fault, Width, Form, literal, variable, infix_of, convert, select, shift, area_read, wrap, unary_form, infix_level, canon_step, canon, Calls, Faults, Guarded, Labelled, Out, Sem, then_do, state_or_fault, arm_meaning, body_meaning, case_meaning, meaning, Text, ArmText, CaseText, statement_step, statement_text, State, write, Names, Worth, value, value_step, Value, BinaryOp, Expr, fold-Expr, fold-roll-Expr, ShiftOp, StType, UnaryOp, Var, Arm, fold_out-Arm, CaseArm, fold_out-CaseArm, Located, Stmt, map-Stmt, roll-Stmt}
use Rattle.st_tree.specs.Meaning.{arm_step, case_step, stmt_step}
use Rattle.st_tree.specs.Spelling as text
use Rattle.st_tree.specs.declared.expr.Expr.TheVariants as expr
use Rattle.st_tree.specs.declared.expr.Expr.TheOpen as E
use Rattle.st_tree.specs.declared.program.Arm.{fold-Arm}
use Rattle.st_tree.specs.declared.program.CaseArm.{fold-CaseArm}
use Rattle.st_tree.specs.declared.program.Stmt.{fold-Stmt, fold-roll-Stmt}
use Rattle.st_tree.specs.declared.program.Stmt.TheOpen as S
use Rattle.st_tree.specs.declared.program.Stmt.TheVariants as stmt

-- Any fold

module _ (A : Type 0) (step : E.Expr-F A → A) where
  abbrev folded : Expr → A
  folded = fold-Expr A step

  pub fold_literal : (ty : StType) (n : ℤ) → folded (expr.Literal ty n) ≡ step (E.Literal ty n)
  fold_literal ty n = ap folded (sym (expr.rolls-Literal ty n)) ∙ fold-roll-Expr A step (E.Literal ty n)

  pub fold_read : (v : Var) → folded (expr.Read v) ≡ step (E.Read v)
  fold_read v = ap folded (sym (expr.rolls-Read v)) ∙ fold-roll-Expr A step (E.Read v)

  pub fold_unary : (op : UnaryOp) (a : Expr) → folded (expr.Unary op a) ≡ step (E.Unary op (folded a))
  fold_unary op a = ap folded (sym (expr.rolls-Unary op a)) ∙ fold-roll-Expr A step (E.Unary op a)

  pub fold_binary : (op : BinaryOp) (a b : Expr) → folded (expr.Binary op a b)
      ≡ step (E.Binary op (folded a) (folded b))
  fold_binary op a b = ap folded (sym (expr.rolls-Binary op a b)) ∙ fold-roll-Expr A step (E.Binary op a b)

  pub fold_convert : (from to : StType) (a : Expr) → folded (expr.Convert from to a)
      ≡ step (E.Convert from to (folded a))
  fold_convert from to a = ap folded (sym (expr.rolls-Convert from to a)) ∙ fold-roll-Expr A step (E.Convert from to a)

  pub fold_select : (a b c : Expr) → folded (expr.Select a b c) ≡ step (E.Select (folded a) (folded b) (folded c))
  fold_select a b c = ap folded (sym (expr.rolls-Select a b c)) ∙ fold-roll-Expr A step (E.Select a b c)

  pub fold_shift : (op : ShiftOp) (a b : Expr) → folded (expr.Shift op a b) ≡ step (E.Shift op (folded a) (folded b))
  fold_shift op a b = ap folded (sym (expr.rolls-Shift op a b)) ∙ fold-roll-Expr A step (E.Shift op a b)

  pub fold_area_read : (w : Width) (a : Expr) → folded (expr.AreaRead w a) ≡ step (E.AreaRead w (folded a))
  fold_area_read w a = ap folded (sym (expr.rolls-AreaRead w a)) ∙ fold-roll-Expr A step (E.AreaRead w a)

-- of a statement, by its layer
pub fold_stmt : (A B C : Type 0) (step : S.Stmt-F A B C → A) (arm : S.Arm-F A B C → B)
    (labelled : S.CaseArm-F A B C → C) {x : Stmt} (y : S.Stmt-F Stmt Arm CaseArm) → roll-Stmt y ≡ x
    → fold-Stmt A B C step arm labelled x
    ≡ step
    (map-Stmt Stmt Arm CaseArm A B C (fold-Stmt A B C step arm labelled) (fold-Arm A B C step arm labelled)
    (fold-CaseArm A B C step arm labelled) y)
fold_stmt A B C step arm labelled y e =
    ap (fold-Stmt A B C step arm labelled) (sym e) ∙ fold-roll-Stmt A B C step arm labelled y

-- Values, in a state

module _ (g : List Located) where
  pub value_literal : (ty : StType) (n : ℤ) (s : State) → value g (expr.Literal ty n) s
      ≡ value_step g (E.Literal ty n) s
  value_literal ty n s = ap (λ (f : Worth). f s) (fold_literal Worth (value_step g) ty n)

  pub value_read : (v : Var) (s : State) → value g (expr.Read v) s ≡ value_step g (E.Read v) s
  value_read v s = ap (λ (f : Worth). f s) (fold_read Worth (value_step g) v)

  pub value_unary : (op : UnaryOp) (a : Expr) (s : State) → value g (expr.Unary op a) s
      ≡ value_step g (E.Unary op (value g a)) s
  value_unary op a s = ap (λ (f : Worth). f s) (fold_unary Worth (value_step g) op a)

  pub value_binary : (op : BinaryOp) (a b : Expr) (s : State) → value g (expr.Binary op a b) s
      ≡ value_step g (E.Binary op (value g a) (value g b)) s
  value_binary op a b s = ap (λ (f : Worth). f s) (fold_binary Worth (value_step g) op a b)

  pub value_convert : (from to : StType) (a : Expr) (s : State) → value g (expr.Convert from to a) s
      ≡ value_step g (E.Convert from to (value g a)) s
  value_convert from to a s = ap (λ (f : Worth). f s) (fold_convert Worth (value_step g) from to a)

  pub value_select : (a b c : Expr) (s : State) → value g (expr.Select a b c) s
      ≡ value_step g (E.Select (value g a) (value g b) (value g c)) s
  value_select a b c s = ap (λ (f : Worth). f s) (fold_select Worth (value_step g) a b c)

  pub value_shift : (op : ShiftOp) (a b : Expr) (s : State) → value g (expr.Shift op a b) s
      ≡ value_step g (E.Shift op (value g a) (value g b)) s
  value_shift op a b s = ap (λ (f : Worth). f s) (fold_shift Worth (value_step g) op a b)

  pub value_area_read : (w : Width) (a : Expr) (s : State) → value g (expr.AreaRead w a) s
      ≡ value_step g (E.AreaRead w (value g a)) s
  value_area_read w a s = ap (λ (f : Worth). f s) (fold_area_read Worth (value_step g) w a)

pub ruleset value_equations =
    (value_literal, value_read, value_unary, value_binary, value_convert, value_select, value_shift, value_area_read)

-- Meanings, with some units and in a state

module _ (g : List Located) (c : Calls) (u : ℕ) (s : State) where
  means : {x : Stmt} (y : S.Stmt-F Stmt Arm CaseArm) → roll-Stmt y ≡ x → meaning g c x u s
      ≡ stmt_step g c
      (map-Stmt Stmt Arm CaseArm Sem Guarded Labelled (meaning g c) (arm_meaning g c) (case_meaning g c) y) u s
  means y e = ap (λ (m : Sem). m u s) (fold_stmt Sem Guarded Labelled (stmt_step g c) (arm_step g) case_step y e)

  pub meaning_assign : (v : Var) (e : Expr) → meaning g c (stmt.Assign v e) u s ≡ stmt_step g c (S.Assign v e) u s
  meaning_assign v e = means (S.Assign v e) (stmt.rolls-Assign v e)

  pub meaning_area_write : (w : Width) (p e : Expr) → meaning g c (stmt.AreaWrite w p e) u s
      ≡ stmt_step g c (S.AreaWrite w p e) u s
  meaning_area_write w p e = means (S.AreaWrite w p e) (stmt.rolls-AreaWrite w p e)

  pub meaning_invoke : (n : ℕ) (actuals : List Var) → meaning g c (stmt.Invoke n actuals) u s
      ≡ stmt_step g c (S.Invoke n actuals) u s
  meaning_invoke n actuals = means (S.Invoke n actuals) (stmt.rolls-Invoke n actuals)

  pub meaning_if : (arms : List Arm) (other : List Stmt) → meaning g c (stmt.If arms other) u s
      ≡ stmt_step g c (S.If (map (arm_meaning g c) arms) (map (meaning g c) other)) u s
  meaning_if arms other = means (S.If arms other) (stmt.rolls-If arms other)

  pub meaning_case : (e : Expr) (arms : List CaseArm) (other : List Stmt) → meaning g c (stmt.Case e arms other) u s
      ≡ stmt_step g c (S.Case e (map (case_meaning g c) arms) (map (meaning g c) other)) u s
  meaning_case e arms other = means (S.Case e arms other) (stmt.rolls-Case e arms other)

  pub meaning_while : (test : Expr) (body : List Stmt) → meaning g c (stmt.While test body) u s
      ≡ stmt_step g c (S.While test (map (meaning g c) body)) u s
  meaning_while test body = means (S.While test body) (stmt.rolls-While test body)

  pub meaning_exit : meaning g c stmt.Exit u s ≡ stmt_step g c S.Exit u s
  meaning_exit = means S.Exit stmt.rolls-Exit

  pub meaning_continue : meaning g c stmt.Continue u s ≡ stmt_step g c S.Continue u s
  meaning_continue = means S.Continue stmt.rolls-Continue

  pub meaning_return : meaning g c stmt.Return u s ≡ stmt_step g c S.Return u s
  meaning_return = means S.Return stmt.rolls-Return

pub meaning_arm : (g : List Located) (c : Calls) (x : Arm) → arm_meaning g c x
    ≡ (value g x.test, body_meaning g c x.body)
meaning_arm g c x = fold_out-Arm Sem Guarded Labelled (stmt_step g c) (arm_step g) case_step x

pub meaning_case_arm : (g : List Located) (c : Calls) (x : CaseArm) → case_meaning g c x
    ≡ (x.labels, body_meaning g c x.body)
meaning_case_arm g c x = fold_out-CaseArm Sem Guarded Labelled (stmt_step g c) (arm_step g) case_step x

pub ruleset meaning_equations = (
  value_equations,
  meaning_assign,
  meaning_area_write,
  meaning_invoke,
  meaning_if,
  meaning_case,
  meaning_while,
  meaning_exit,
  meaning_continue,
  meaning_return,
  meaning_arm,
  meaning_case_arm,
)

-- Canonical forms

pub canon_literal : (ty : StType) (n : ℤ) → canon (expr.Literal ty n) ≡ literal ty n
canon_literal ty n = fold_literal Form canon_step ty n

pub canon_read : (v : Var) → canon (expr.Read v) ≡ variable v
canon_read v = fold_read Form canon_step v

pub canon_unary : (op : UnaryOp) (a : Expr) → canon (expr.Unary op a) ≡ unary_form op (canon a)
canon_unary op a = fold_unary Form canon_step op a

pub canon_binary : (op : BinaryOp) (a b : Expr) → canon (expr.Binary op a b)
    ≡ infix_of op (wrap (infix_level op) (canon a)) (wrap (infix_level op - 1) (canon b))
canon_binary op a b = fold_binary Form canon_step op a b

pub canon_convert : (from to : StType) (a : Expr) → canon (expr.Convert from to a) ≡ convert from to (canon a)
canon_convert from to a = fold_convert Form canon_step from to a

pub canon_select : (a b c : Expr) → canon (expr.Select a b c) ≡ select (canon a) (canon b) (canon c)
canon_select a b c = fold_select Form canon_step a b c

pub canon_shift : (op : ShiftOp) (a b : Expr) → canon (expr.Shift op a b) ≡ shift op (canon a) (canon b)
canon_shift op a b = fold_shift Form canon_step op a b

pub canon_area_read : (w : Width) (a : Expr) → canon (expr.AreaRead w a) ≡ area_read w (canon a)
canon_area_read w a = fold_area_read Form canon_step w a

pub ruleset canon_equations =
    (canon_literal, canon_read, canon_unary, canon_binary, canon_convert, canon_select, canon_shift, canon_area_read)

-- The text of an assignment, at a level

pub text_assign : (names : Names) (level : ℕ) (v : Var) (e : Expr) → statement_text names (stmt.Assign v e) level
    ≡ statement_step names (S.Assign v e) level
text_assign names level v e =
    ap (λ (f : Text). f level)
    (fold_stmt Text ArmText CaseText (statement_step names) (text.arm_step names) text.case_step (S.Assign v e)
    (stmt.rolls-Assign v e))

-- An assignment before other statements

module _ (g : List Located) (c : Calls) (v : Var) (e : Expr) (rest : List Stmt) (units : ℕ) (s : State) where
  -- by what its expression gives
  assign_first : (r : Result Value Fault) → value g e s ≡ r → body_meaning g c (stmt.Assign v e ∷ rest) units s
      ≡ then_do (state_or_fault (and_then r (λ x. write g v x s)) units s) (body_meaning g c rest)
  assign_first r worth =
      ap (λ (out : Out). then_do out (body_meaning g c rest)) (meaning_assign g c units s v e)
      ∙ ap (λ r. then_do (state_or_fault (and_then r (λ x. write g v x s)) units s) (body_meaning g c rest)) worth

  -- both parts give a value
  pub assign_goes_on : (t : State) (w : Value) → value g e s ≡ Ok w → write g v w s ≡ Ok t
      → body_meaning g c (stmt.Assign v e ∷ rest) units s ≡ body_meaning g c rest units t
  assign_goes_on t w worth written =
      assign_first (Ok w) worth ∙ ap (λ r. then_do (state_or_fault r units s) (body_meaning g c rest)) written

  -- the expression faults
  pub assign_stops_at_value : (f : Fault) → value g e s ≡ Err f
      → body_meaning g c (stmt.Assign v e ∷ rest) units s ≡ Faults f s
  assign_stops_at_value f worth = assign_first (Err f) worth
