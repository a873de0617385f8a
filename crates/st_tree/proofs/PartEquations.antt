-- What the parts of an expression and of a body are: at each variant, and of statements one after another.
use Rattle.st_tree.proofs.Common.{◌≡◌, ℕ, ◌+◌, max, ℤ, List, [], ◌∷◌, ◌++◌, map, refl, sym, ap, ◌∙◌, append_assoc, flat_map-append, Width, call_step, calls_in, expressions_in, height, reads_in, reads_of, statements_in, BinaryOp, Expr, ShiftOp, StType, UnaryOp, Var, Arm, CaseArm, Stmt, map-Stmt, out-Stmt, roll-Stmt}
use Rattle.std.specs.List.{flat_map}
use Rattle.std.proofs.lemmas.List.Folds.{flat_map-map}
use Rattle.st_tree.specs.BodyParts.{all_of, expressions_step, height_step, inner_statements, inner_step, reads_step}
use Rattle.st_tree.specs.declared.expr.Expr.TheVariants as expr
use Rattle.st_tree.specs.declared.program.Arm.{out-Arm, para-Arm, para-roll-Arm, roll-out-Arm}
use Rattle.st_tree.specs.declared.program.CaseArm.{out-CaseArm, para-CaseArm, para-roll-CaseArm, roll-out-CaseArm}
use Rattle.st_tree.specs.declared.program.Stmt.{out-roll-Stmt, para-roll-Stmt}
use Rattle.st_tree.specs.declared.program.Stmt.TheOpen as S
use Rattle.st_tree.specs.declared.program.Stmt.TheVariants as stmt
use Rattle.st_tree.proofs.Equations.{fold_literal, fold_read, fold_unary, fold_binary, fold_convert, fold_select, fold_shift, fold_area_read}

-- Reads and heights of expressions

pub reads_of_literal : (ty : StType) (n : ℤ) → reads_of (expr.Literal ty n) ≡ []
reads_of_literal ty n = fold_literal (List Var) reads_step ty n

pub reads_of_read : (v : Var) → reads_of (expr.Read v) ≡ v ∷ []
reads_of_read v = fold_read (List Var) reads_step v

pub reads_of_unary : (op : UnaryOp) (a : Expr) → reads_of (expr.Unary op a) ≡ reads_of a
reads_of_unary op a = fold_unary (List Var) reads_step op a

pub reads_of_binary : (op : BinaryOp) (a b : Expr) → reads_of (expr.Binary op a b) ≡ reads_of a ++ reads_of b
reads_of_binary op a b = fold_binary (List Var) reads_step op a b

pub reads_of_convert : (from to : StType) (a : Expr) → reads_of (expr.Convert from to a) ≡ reads_of a
reads_of_convert from to a = fold_convert (List Var) reads_step from to a

pub reads_of_select : (a b c : Expr) → reads_of (expr.Select a b c) ≡ reads_of a ++ reads_of b ++ reads_of c
reads_of_select a b c = fold_select (List Var) reads_step a b c

pub reads_of_shift : (op : ShiftOp) (a b : Expr) → reads_of (expr.Shift op a b) ≡ reads_of a ++ reads_of b
reads_of_shift op a b = fold_shift (List Var) reads_step op a b

pub reads_of_area_read : (w : Width) (a : Expr) → reads_of (expr.AreaRead w a) ≡ reads_of a
reads_of_area_read w a = fold_area_read (List Var) reads_step w a

pub height_literal : (ty : StType) (n : ℤ) → height (expr.Literal ty n) ≡ 1
height_literal ty n = fold_literal ℕ height_step ty n

pub height_read : (v : Var) → height (expr.Read v) ≡ 1
height_read v = fold_read ℕ height_step v

pub height_unary : (op : UnaryOp) (a : Expr) → height (expr.Unary op a) ≡ 1 + height a
height_unary op a = fold_unary ℕ height_step op a

pub height_binary : (op : BinaryOp) (a b : Expr) → height (expr.Binary op a b) ≡ 1 + max (height a) (height b)
height_binary op a b = fold_binary ℕ height_step op a b

pub height_convert : (from to : StType) (a : Expr) → height (expr.Convert from to a) ≡ 1 + height a
height_convert from to a = fold_convert ℕ height_step from to a

pub height_select : (a b c : Expr) → height (expr.Select a b c) ≡ 1 + max (height a) (max (height b) (height c))
height_select a b c = fold_select ℕ height_step a b c

pub height_shift : (op : ShiftOp) (a b : Expr) → height (expr.Shift op a b) ≡ 1 + max (height a) (height b)
height_shift op a b = fold_shift ℕ height_step op a b

pub height_area_read : (w : Width) (a : Expr) → height (expr.AreaRead w a) ≡ 1 + height a
height_area_read w a = fold_area_read ℕ height_step w a

-- One layer of a statement

out_of : {x : Stmt} (y : S.Stmt-F Stmt Arm CaseArm) → roll-Stmt y ≡ x → out-Stmt x ≡ y
out_of y e = ap out-Stmt (sym e) ∙ out-roll-Stmt y

pub out_assign : (v : Var) (e : Expr) → out-Stmt (stmt.Assign v e) ≡ S.Assign v e
out_assign v e = out_of (S.Assign v e) (stmt.rolls-Assign v e)

pub out_area_write : (w : Width) (p e : Expr) → out-Stmt (stmt.AreaWrite w p e) ≡ S.AreaWrite w p e
out_area_write w p e = out_of (S.AreaWrite w p e) (stmt.rolls-AreaWrite w p e)

-- Statements in a statement

abbrev arm_inner : Arm → List Stmt
arm_inner = para-Arm (List Stmt) (List Stmt) (List Stmt) inner_step (λ arm. all_of arm.body) (λ arm. all_of arm.body)

abbrev case_inner : CaseArm → List Stmt
case_inner =
    para-CaseArm (List Stmt) (List Stmt) (List Stmt) inner_step (λ arm. all_of arm.body) (λ arm. all_of arm.body)

all_inner : (xs : List Stmt) → all_of (map (λ t. (t, inner_statements t)) xs) ≡ statements_in xs
all_inner xs = flat_map-map (λ (part : Stmt × List Stmt). part.0 ∷ part.1) (λ (t : Stmt). (t, inner_statements t)) xs

in_arm : (x : Arm) → arm_inner x ≡ statements_in x.body
in_arm x =
    ap arm_inner (sym (roll-out-Arm x))
    ∙ para-roll-Arm (List Stmt) (List Stmt) (List Stmt) inner_step (λ arm. all_of arm.body)
    (λ arm. all_of arm.body) (out-Arm x)
    ∙ all_inner x.body

in_case : (x : CaseArm) → case_inner x ≡ statements_in x.body
in_case x =
    ap case_inner (sym (roll-out-CaseArm x))
    ∙ para-roll-CaseArm (List Stmt) (List Stmt) (List Stmt) inner_step (λ arm. all_of arm.body)
    (λ arm. all_of arm.body) (out-CaseArm x)
    ∙ all_inner x.body

-- of the arms of an IF or of a CASE, and then of what stands after ELSE
in_choice : {X : Type 0} (inner : X → List Stmt) (body_of : X → List Stmt)
    → ((x : X) → inner x ≡ statements_in (body_of x)) → (arms : List X) (other : List Stmt)
    → flat_map (λ (arm : X × List Stmt). arm.1) (map (λ t. (t, inner t)) arms)
    ++ all_of (map (λ t. (t, inner_statements t)) other)
    ≡ flat_map (λ (x : X). statements_in (body_of x)) arms ++ statements_in other
in_choice inner body_of same [] other = all_inner other
in_choice inner body_of same (x ∷ xs) other =
    simp append_assoc (cc (same x, in_choice inner body_of same xs other))

-- the statements in a statement, by its layer
abbrev pub inner_bodies : S.Stmt-F Stmt Arm CaseArm → List Stmt
inner_bodies (S.If arms other) = flat_map (λ (arm : Arm). statements_in arm.body) arms ++ statements_in other
inner_bodies (S.Case e arms other) = flat_map (λ (arm : CaseArm). statements_in arm.body) arms ++ statements_in other
inner_bodies (S.While test body) = statements_in body
inner_bodies y = []

pub inner_rolled : (y : S.Stmt-F Stmt Arm CaseArm) → inner_statements (roll-Stmt y) ≡ inner_bodies y
inner_rolled y =
    para-roll-Stmt (List Stmt) (List Stmt) (List Stmt) inner_step (λ arm. all_of arm.body) (λ arm. all_of arm.body) y
    ∙ by y
  where
    by : (y : S.Stmt-F Stmt Arm CaseArm)
        → inner_step (map-Stmt Stmt Arm CaseArm (Stmt × List Stmt) (Arm × List Stmt) (CaseArm × List Stmt)
        (λ t. (t, inner_statements t)) (λ t. (t, arm_inner t)) (λ t. (t, case_inner t)) y) ≡ inner_bodies y
    by (S.If arms other) = in_choice arm_inner (λ (arm : Arm). arm.body) in_arm arms other
    by (S.Case e arms other) = in_choice case_inner (λ (arm : CaseArm). arm.body) in_case arms other
    by (S.While test body) = all_inner body
    by (S.Assign v e) = refl
    by y = refl

-- by these `simp` computes all the parts of a body that is written out
pub ruleset part_equations = (
  reads_of_literal,
  reads_of_read,
  reads_of_unary,
  reads_of_binary,
  reads_of_convert,
  reads_of_select,
  reads_of_shift,
  reads_of_area_read,
  height_literal,
  height_read,
  height_unary,
  height_binary,
  height_convert,
  height_select,
  height_shift,
  height_area_read,
  ← stmt.rolls-Assign,
  ← stmt.rolls-AreaWrite,
  ← stmt.rolls-Invoke,
  ← stmt.rolls-If,
  ← stmt.rolls-Case,
  ← stmt.rolls-While,
  ← stmt.rolls-Exit,
  ← stmt.rolls-Continue,
  ← stmt.rolls-Return,
  out-roll-Stmt,
  inner_rolled,
)

-- What each statement gives, of a body and by its first statement

module _ {A : Type 0} (step : S.Stmt-F Stmt Arm CaseArm → List A) where
  abbrev own : Stmt → List A
  own x = step (out-Stmt x)

  abbrev gathered : List Stmt → List A
  gathered body = flat_map own (statements_in body)

  pub gathered_append : (xs ys : List Stmt) → gathered (xs ++ ys) ≡ gathered xs ++ gathered ys
  gathered_append xs ys =
      ap (flat_map own) (flat_map-append (λ (x : Stmt). x ∷ inner_statements x) xs ys)
      ∙ flat_map-append own (statements_in xs) (statements_in ys)

  pub gathered_first : {x : Stmt} (y : S.Stmt-F Stmt Arm CaseArm) → roll-Stmt y ≡ x → (rest : List Stmt)
      → gathered (x ∷ rest) ≡ step y ++ (flat_map own (inner_bodies y) ++ gathered rest)
  gathered_first {x} y e rest =
      ap (λ (xs : List A). own x ++ xs) (flat_map-append own (inner_statements x) (statements_in rest))
      ∙ ap (λ (z : S.Stmt-F Stmt Arm CaseArm). step z ++ (flat_map own (inner_statements x) ++ gathered rest))
      (out_of y e)
      ∙ ap (λ (xs : List Stmt). step y ++ (flat_map own xs ++ gathered rest))
      (ap inner_statements (sym e) ∙ inner_rolled y)

-- Calls

pub calls_in_assign : (v : Var) (e : Expr) (rest : List Stmt) → calls_in (stmt.Assign v e ∷ rest) ≡ calls_in rest
calls_in_assign v e rest = gathered_first call_step (S.Assign v e) (stmt.rolls-Assign v e) rest

pub calls_in_area_write : (w : Width) (p e : Expr) (rest : List Stmt) → calls_in (stmt.AreaWrite w p e ∷ rest)
    ≡ calls_in rest
calls_in_area_write w p e rest = gathered_first call_step (S.AreaWrite w p e) (stmt.rolls-AreaWrite w p e) rest

-- Expressions

pub expressions_in_append : (xs ys : List Stmt) → expressions_in (xs ++ ys) ≡ expressions_in xs ++ expressions_in ys
expressions_in_append xs ys = gathered_append expressions_step xs ys

pub expressions_in_assign : (v : Var) (e : Expr) (rest : List Stmt) → expressions_in (stmt.Assign v e ∷ rest)
    ≡ e ∷ expressions_in rest
expressions_in_assign v e rest = gathered_first expressions_step (S.Assign v e) (stmt.rolls-Assign v e) rest

pub expressions_in_area_write : (w : Width) (p e : Expr) (rest : List Stmt)
    → expressions_in (stmt.AreaWrite w p e ∷ rest) ≡ p ∷ e ∷ expressions_in rest
expressions_in_area_write w p e rest =
    gathered_first expressions_step (S.AreaWrite w p e) (stmt.rolls-AreaWrite w p e) rest

-- Reads

pub reads_in_assign : (v : Var) (e : Expr) (rest : List Stmt) → reads_in (stmt.Assign v e ∷ rest)
    ≡ reads_of e ++ reads_in rest
reads_in_assign v e rest = ap (flat_map reads_of) (expressions_in_assign v e rest)

pub reads_in_area_write : (w : Width) (p e : Expr) (rest : List Stmt) → reads_in (stmt.AreaWrite w p e ∷ rest)
    ≡ reads_of p ++ (reads_of e ++ reads_in rest)
reads_in_area_write w p e rest = ap (flat_map reads_of) (expressions_in_area_write w p e rest)
