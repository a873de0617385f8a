-- What the rules of types and of nesting say of an expression and of a statement at each variant, and which types
-- are the same.
use Rattle.st_tree.proofs.Common.{◌≡◌, ℕ, suc, max, Bool, true, ◌&&◌, ℤ, List, map, slice_get, Option, Some, None, list_all, refl, ap, Width, greatest, arm_nesting, body_nesting, case_nesting, expression_nesting, nesting, is_type, CaseCheck, UnitScope, are_well_typed, expression_step, expression_type, has_type, is_arm, is_assigned, is_call, is_case_arm, is_some_of, is_value, is_well_typed, variable_type, type_of_width, BinaryOp, Expr, ShiftOp, StType, UnaryOp, Var, Arm, fold_out-Arm, CaseArm, fold_out-CaseArm, Stmt, map-Stmt, roll-Stmt}
use Rattle.st_tree.specs.Nesting
use Rattle.st_tree.specs.Nesting.{nesting_step}
use Rattle.st_tree.specs.WellTyped.{Check, arm_step, case_step, statement_step}
use Rattle.st_tree.specs.declared.expr.Expr.TheVariants as expr
use Rattle.st_tree.specs.declared.expr.Expr.TheOpen as E
use Rattle.st_tree.specs.declared.expr.StType.TheVariants as type
use Rattle.st_tree.specs.declared.program.Stmt.TheOpen as S
use Rattle.st_tree.specs.declared.program.Stmt.TheVariants as stmt
use Rattle.st_tree.proofs.Equations.{canon_equations, fold_area_read, fold_binary, fold_convert, fold_literal, fold_read, fold_select, fold_shift, fold_stmt, fold_unary}

-- Expressions

module _ (sight : UnitScope) where
  pub typed_literal : (ty : StType) (n : ℤ) → expression_type sight (expr.Literal ty n)
      ≡ expression_step sight (E.Literal ty n)
  typed_literal ty n = fold_literal (Option StType) (expression_step sight) ty n

  pub typed_read : (v : Var) → expression_type sight (expr.Read v) ≡ variable_type sight v
  typed_read v = fold_read (Option StType) (expression_step sight) v

  pub typed_unary : (op : UnaryOp) (a : Expr) → expression_type sight (expr.Unary op a)
      ≡ expression_step sight (E.Unary op (expression_type sight a))
  typed_unary op a = fold_unary (Option StType) (expression_step sight) op a

  pub typed_binary : (op : BinaryOp) (a b : Expr) → expression_type sight (expr.Binary op a b)
      ≡ expression_step sight (E.Binary op (expression_type sight a) (expression_type sight b))
  typed_binary op a b = fold_binary (Option StType) (expression_step sight) op a b

  pub typed_convert : (from to : StType) (a : Expr) → expression_type sight (expr.Convert from to a)
      ≡ expression_step sight (E.Convert from to (expression_type sight a))
  typed_convert from to a = fold_convert (Option StType) (expression_step sight) from to a

  pub typed_select : (a b c : Expr) → expression_type sight (expr.Select a b c)
      ≡ expression_step sight (E.Select (expression_type sight a) (expression_type sight b) (expression_type sight c))
  typed_select a b c = fold_select (Option StType) (expression_step sight) a b c

  pub typed_shift : (op : ShiftOp) (a b : Expr) → expression_type sight (expr.Shift op a b)
      ≡ expression_step sight (E.Shift op (expression_type sight a) (expression_type sight b))
  typed_shift op a b = fold_shift (Option StType) (expression_step sight) op a b

  pub typed_area_read : (w : Width) (a : Expr) → expression_type sight (expr.AreaRead w a)
      ≡ expression_step sight (E.AreaRead w (expression_type sight a))
  typed_area_read w a = fold_area_read (Option StType) (expression_step sight) w a

pub ruleset typed_equations = (
  typed_literal,
  typed_read,
  typed_unary,
  typed_binary,
  typed_convert,
  typed_select,
  typed_shift,
  typed_area_read,
)

-- Statements, inside a WHILE or not

module _ (sight : UnitScope) (inside : Bool) where
  good : {x : Stmt} (y : S.Stmt-F Stmt Arm CaseArm) → roll-Stmt y ≡ x → is_well_typed sight x inside
      ≡ statement_step sight
      (map-Stmt Stmt Arm CaseArm Check Check CaseCheck (is_well_typed sight) (is_arm sight) (is_case_arm sight) y)
      inside
  good y e =
      ap (λ (check : Check). check inside)
      (fold_stmt Check Check CaseCheck (statement_step sight) (arm_step sight) case_step y e)

  pub good_assign : (v : Var) (e : Expr) → is_well_typed sight (stmt.Assign v e) inside
      ≡ is_assigned (variable_type sight v) (expression_type sight e)
  good_assign v e = good (S.Assign v e) (stmt.rolls-Assign v e)

  pub good_area_write : (w : Width) (p e : Expr) → is_well_typed sight (stmt.AreaWrite w p e) inside
      ≡ has_type type.Dword (expression_type sight p) && has_type (type_of_width w) (expression_type sight e)
  good_area_write w p e = good (S.AreaWrite w p e) (stmt.rolls-AreaWrite w p e)

  pub good_invoke : (n : ℕ) (actuals : List Var) → is_well_typed sight (stmt.Invoke n actuals) inside
      ≡ is_call sight (slice_get sight.heads n) actuals
  good_invoke n actuals = good (S.Invoke n actuals) (stmt.rolls-Invoke n actuals)

  pub good_if : (arms : List Arm) (other : List Stmt) → is_well_typed sight (stmt.If arms other) inside
      ≡ statement_step sight (S.If (map (is_arm sight) arms) (map (is_well_typed sight) other)) inside
  good_if arms other = good (S.If arms other) (stmt.rolls-If arms other)

  pub good_case : (e : Expr) (arms : List CaseArm) (other : List Stmt)
      → is_well_typed sight (stmt.Case e arms other) inside
      ≡ statement_step sight (S.Case e (map (is_case_arm sight) arms) (map (is_well_typed sight) other)) inside
  good_case e arms other = good (S.Case e arms other) (stmt.rolls-Case e arms other)

  pub good_while : (test : Expr) (body : List Stmt) → is_well_typed sight (stmt.While test body) inside
      ≡ has_type type.Bool (expression_type sight test) && are_well_typed sight true body
  good_while test body = good (S.While test body) (stmt.rolls-While test body)

  pub good_arm : (x : Arm) → is_arm sight x inside
      ≡ has_type type.Bool (expression_type sight x.test) && are_well_typed sight inside x.body
  good_arm x =
      ap (λ (check : Check). check inside)
      (fold_out-Arm Check Check CaseCheck (statement_step sight) (arm_step sight) case_step x)

  pub good_case_arm : (x : CaseArm) (ty : StType) → is_case_arm sight x ty inside
      ≡ is_some_of x.labels && list_all (is_value ty) x.labels && are_well_typed sight inside x.body
  good_case_arm x ty =
      ap (λ (check : CaseCheck). check ty inside)
      (fold_out-CaseArm Check Check CaseCheck (statement_step sight) (arm_step sight) case_step x)

  pub good_exit : is_well_typed sight stmt.Exit inside ≡ inside
  good_exit = good S.Exit stmt.rolls-Exit

  pub good_continue : is_well_typed sight stmt.Continue inside ≡ inside
  good_continue = good S.Continue stmt.rolls-Continue

  pub good_return : is_well_typed sight stmt.Return inside ≡ true
  good_return = good S.Return stmt.rolls-Return

pub ruleset good_equations = (
  typed_equations,
  good_assign,
  good_area_write,
  good_invoke,
  good_if,
  good_case,
  good_while,
  good_arm,
  good_case_arm,
  good_exit,
  good_continue,
  good_return,
)

-- Nesting

nests : {x : Stmt} (y : S.Stmt-F Stmt Arm CaseArm) → roll-Stmt y ≡ x
    → nesting x ≡ nesting_step (map-Stmt Stmt Arm CaseArm ℕ ℕ ℕ nesting arm_nesting case_nesting y)
nests y e = fold_stmt ℕ ℕ ℕ nesting_step Nesting.arm_step Nesting.case_step y e

pub nesting_assign : (v : Var) (e : Expr) → nesting (stmt.Assign v e) ≡ expression_nesting e
nesting_assign v e = nests (S.Assign v e) (stmt.rolls-Assign v e)

pub nesting_area_write : (w : Width) (p e : Expr) → nesting (stmt.AreaWrite w p e)
    ≡ suc (max (expression_nesting p) (expression_nesting e))
nesting_area_write w p e = nests (S.AreaWrite w p e) (stmt.rolls-AreaWrite w p e)

pub nesting_invoke : (n : ℕ) (actuals : List Var) → nesting (stmt.Invoke n actuals) ≡ 1
nesting_invoke n actuals = nests (S.Invoke n actuals) (stmt.rolls-Invoke n actuals)

pub nesting_if : (arms : List Arm) (other : List Stmt) → nesting (stmt.If arms other)
    ≡ suc (max (greatest (map arm_nesting arms)) (body_nesting other))
nesting_if arms other = nests (S.If arms other) (stmt.rolls-If arms other)

pub nesting_case : (e : Expr) (arms : List CaseArm) (other : List Stmt) → nesting (stmt.Case e arms other)
    ≡ suc (max (expression_nesting e) (max (greatest (map case_nesting arms)) (body_nesting other)))
nesting_case e arms other = nests (S.Case e arms other) (stmt.rolls-Case e arms other)

pub nesting_while : (test : Expr) (body : List Stmt) → nesting (stmt.While test body)
    ≡ suc (max (expression_nesting test) (body_nesting body))
nesting_while test body = nests (S.While test body) (stmt.rolls-While test body)

pub nesting_arm : (x : Arm) → arm_nesting x ≡ max (expression_nesting x.test) (body_nesting x.body)
nesting_arm x = fold_out-Arm ℕ ℕ ℕ nesting_step Nesting.arm_step Nesting.case_step x

pub nesting_case_arm : (x : CaseArm) → case_nesting x ≡ body_nesting x.body
nesting_case_arm x = fold_out-CaseArm ℕ ℕ ℕ nesting_step Nesting.arm_step Nesting.case_step x

pub nesting_exit : nesting stmt.Exit ≡ 0
nesting_exit = nests S.Exit stmt.rolls-Exit

pub nesting_continue : nesting stmt.Continue ≡ 0
nesting_continue = nests S.Continue stmt.rolls-Continue

pub nesting_return : nesting stmt.Return ≡ 0
nesting_return = nests S.Return stmt.rolls-Return

pub ruleset nesting_equations = (
  canon_equations,
  nesting_assign,
  nesting_area_write,
  nesting_invoke,
  nesting_if,
  nesting_case,
  nesting_while,
  nesting_arm,
  nesting_case_arm,
  nesting_exit,
  nesting_continue,
  nesting_return,
)

-- Types

pub same_type : (a b : StType) → is_type a b ≡ true → a ≡ b
same_type type.Bool type.Bool h = refl
same_type type.Byte type.Byte h = refl
same_type type.Word type.Word h = refl
same_type type.Dword type.Dword h = refl
same_type type.Int type.Int h = refl
same_type type.Dint type.Dint h = refl
same_type type.Lint type.Lint h = refl
same_type a b h = cc

pub type_had : (ty : StType) (o : Option StType) → has_type ty o ≡ true → o ≡ Some ty
type_had ty None h = cc
type_had ty (Some found) h = ap (λ (t : StType). Some t) (same_type found ty h)
