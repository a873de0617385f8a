-- What statements keep where others stand in the place of their variables.
use Rattle.std.proofs.Common.{◌≡◌, ℕ, suc, ◌-◌, max, nat_lt, Bool, true, false, if◌then◌else◌, List, [], ◌∷◌, ◌++◌, map, refl, sym, ap, ◌∙◌}
use Rattle.std.specs.List.{flat_map}
use Rattle.s7_base.specs.Numbers.{greatest}
use Rattle.st_tree.specs.BodyParts.{height_step, inner_statements, reads_of, reads_step, statements_in}
use Rattle.st_tree.specs.Form.{Form, canon_step, group, infix_level, level, unary_form, wrap}
use Rattle.st_tree.specs.Nesting.{body_nesting, expression_nesting, form_height, form_nesting, nesting_step}
use Rattle.st_tree.specs.declared.expr.Expr.{Expr}
use Rattle.st_tree.specs.declared.expr.Expr.TheOpen as E
use Rattle.st_tree.specs.declared.expr.UnaryOp.{UnaryOp}
use Rattle.st_tree.specs.declared.expr.UnaryOp.TheVariants as unary
use Rattle.st_tree.specs.declared.expr.Var.{Var}
use Rattle.st_tree.specs.declared.program.Arm.{Arm}
use Rattle.st_tree.specs.declared.program.CaseArm.{CaseArm}
use Rattle.st_tree.specs.declared.program.Stmt.{Stmt, out-Stmt, out-roll-Stmt, roll-Stmt}
use Rattle.st_tree.specs.declared.program.Stmt.TheOpen as S
use Rattle.st_tree.specs.declared.program.Stmt.TheVariants as stmt
use Rattle.st_tree.specs.Nesting
use Rattle.st_tree.proofs.Induction.{Each, InArm, InCase, Layers, StmtSteps, every_body, every_stmt, folds_related}
use Rattle.st_tree.proofs.PartEquations.{inner_bodies, inner_rolled}
use Rattle.st_globals.specs.KeptLaws.{HeightsAreKept, KindsAreKept, NestingIsKept, ReadsAreKept, StatementsAreKept, layer_with}
use Rattle.st_globals.specs.WithVariables.{arm_with, body_with, case_with, expr_with, stmt_with}
use Rattle.st_globals.proofs.With.{body_fold, both, expr_fold, expr_layer, stmt_layer, with_area_write, with_arm, with_assign, with_case, with_case_arm, with_continue, with_exit, with_if, with_invoke, with_return, with_while}

pub map_both : {X Y : Type 0} (h : X → Y) (xs ys : List X) → map h (xs ++ ys) ≡ map h xs ++ map h ys
map_both h [] ys = refl
map_both h (x ∷ xs) ys = ap (λ rest. h x ∷ rest) (map_both h xs ys)

out_of : {x : Stmt} (y : S.Stmt-F Stmt Arm CaseArm) → roll-Stmt y ≡ x → out-Stmt x ≡ y
out_of y e = ap out-Stmt (sym e) ∙ out-roll-Stmt y

module _ (f : Var → Var) where
  -- Kinds

  abbrev SameKind : Stmt → Type 0
  SameKind x = out-Stmt (stmt_with f x) ≡ layer_with f (out-Stmt x)

  kind_of : (y : S.Stmt-F Stmt Arm CaseArm) (x new : Stmt) → roll-Stmt y ≡ x → stmt_with f x ≡ new → roll-Stmt (layer_with f y) ≡ new
      → SameKind x
  kind_of y x new e made rolled = ap out-Stmt made ∙ out_of (layer_with f y) rolled ∙ sym (ap (layer_with f) (out_of y e))

  kinds : StmtSteps SameKind
  kinds =
      record {
        assign = λ v e.
            kind_of (S.Assign v e) (stmt.Assign v e) (stmt.Assign (f v) (expr_with f e)) (stmt.rolls-Assign v e) (with_assign f v e)
            (stmt.rolls-Assign (f v) (expr_with f e));
        area_write = λ w p e.
            kind_of (S.AreaWrite w p e) (stmt.AreaWrite w p e) (stmt.AreaWrite w (expr_with f p) (expr_with f e))
            (stmt.rolls-AreaWrite w p e) (with_area_write f w p e) (stmt.rolls-AreaWrite w (expr_with f p) (expr_with f e));
        invoke = λ n actuals.
            kind_of (S.Invoke n actuals) (stmt.Invoke n actuals) (stmt.Invoke n (map f actuals)) (stmt.rolls-Invoke n actuals)
            (with_invoke f n actuals) (stmt.rolls-Invoke n (map f actuals));
        choice = λ arms other in_arms in_other.
            kind_of (S.If arms other) (stmt.If arms other) (stmt.If (map (arm_with f) arms) (body_with f other))
            (stmt.rolls-If arms other) (with_if f arms other) (stmt.rolls-If (map (arm_with f) arms) (body_with f other));
        selection = λ e arms other in_arms in_other.
            kind_of (S.Case e arms other) (stmt.Case e arms other)
            (stmt.Case (expr_with f e) (map (case_with f) arms) (body_with f other)) (stmt.rolls-Case e arms other)
            (with_case f e arms other) (stmt.rolls-Case (expr_with f e) (map (case_with f) arms) (body_with f other));
        loop = λ test body in_body.
            kind_of (S.While test body) (stmt.While test body) (stmt.While (expr_with f test) (body_with f body))
            (stmt.rolls-While test body) (with_while f test body) (stmt.rolls-While (expr_with f test) (body_with f body));
        exit = kind_of S.Exit stmt.Exit stmt.Exit stmt.rolls-Exit (with_exit f) stmt.rolls-Exit;
        continue = kind_of S.Continue stmt.Continue stmt.Continue stmt.rolls-Continue (with_continue f) stmt.rolls-Continue;
        return = kind_of S.Return stmt.Return stmt.Return stmt.rolls-Return (with_return f) stmt.rolls-Return;
      }

  -- Statements inside

  abbrev SameInside : Stmt → Type 0
  SameInside x = inner_statements (stmt_with f x) ≡ body_with f (inner_statements x)

  body_inside : (xs : List Stmt) → Each SameInside xs → statements_in (body_with f xs) ≡ body_with f (statements_in xs)
  body_inside [] h = refl
  body_inside (x ∷ xs) h =
      both (λ (own rest : List Stmt). (stmt_with f x ∷ own) ++ rest) h.0 (body_inside xs h.1)
      ∙ sym (map_both (stmt_with f) (x ∷ inner_statements x) (statements_in xs))

  arms_inside : (arms : List Arm) → Each (InArm SameInside) arms
      → flat_map (λ (arm : Arm). statements_in arm.body) (map (arm_with f) arms)
      ≡ body_with f (flat_map (λ (arm : Arm). statements_in arm.body) arms)
  arms_inside [] h = refl
  arms_inside (arm ∷ arms) h =
      both (λ (own rest : List Stmt). own ++ rest)
      (ap (λ (x : Arm). statements_in x.body) (with_arm f arm) ∙ body_inside arm.body h.0) (arms_inside arms h.1)
      ∙ sym (map_both (stmt_with f) (statements_in arm.body) (flat_map (λ (x : Arm). statements_in x.body) arms))

  cases_inside : (arms : List CaseArm) → Each (InCase SameInside) arms
      → flat_map (λ (arm : CaseArm). statements_in arm.body) (map (case_with f) arms)
      ≡ body_with f (flat_map (λ (arm : CaseArm). statements_in arm.body) arms)
  cases_inside [] h = refl
  cases_inside (arm ∷ arms) h =
      both (λ (own rest : List Stmt). own ++ rest)
      (ap (λ (x : CaseArm). statements_in x.body) (with_case_arm f arm) ∙ body_inside arm.body h.0) (cases_inside arms h.1)
      ∙ sym (map_both (stmt_with f) (statements_in arm.body) (flat_map (λ (x : CaseArm). statements_in x.body) arms))

  inner_of : {x : Stmt} (y : S.Stmt-F Stmt Arm CaseArm) → roll-Stmt y ≡ x → inner_statements x ≡ inner_bodies y
  inner_of y e = ap inner_statements (sym e) ∙ inner_rolled y

  inside_of : (y : S.Stmt-F Stmt Arm CaseArm) (x new : Stmt) → roll-Stmt y ≡ x → stmt_with f x ≡ new → roll-Stmt (layer_with f y) ≡ new
      → inner_bodies (layer_with f y) ≡ body_with f (inner_bodies y) → SameInside x
  inside_of y x new e made rolled bodies =
      ap inner_statements made ∙ inner_of (layer_with f y) rolled ∙ bodies ∙ sym (ap (body_with f) (inner_of y e))

  insides : StmtSteps SameInside
  insides =
      record {
        assign = λ v e.
            inside_of (S.Assign v e) (stmt.Assign v e) (stmt.Assign (f v) (expr_with f e)) (stmt.rolls-Assign v e) (with_assign f v e)
            (stmt.rolls-Assign (f v) (expr_with f e)) refl;
        area_write = λ w p e.
            inside_of (S.AreaWrite w p e) (stmt.AreaWrite w p e) (stmt.AreaWrite w (expr_with f p) (expr_with f e))
            (stmt.rolls-AreaWrite w p e) (with_area_write f w p e) (stmt.rolls-AreaWrite w (expr_with f p) (expr_with f e)) refl;
        invoke = λ n actuals.
            inside_of (S.Invoke n actuals) (stmt.Invoke n actuals) (stmt.Invoke n (map f actuals)) (stmt.rolls-Invoke n actuals)
            (with_invoke f n actuals) (stmt.rolls-Invoke n (map f actuals)) refl;
        choice = λ arms other in_arms in_other.
            inside_of (S.If arms other) (stmt.If arms other) (stmt.If (map (arm_with f) arms) (body_with f other))
            (stmt.rolls-If arms other) (with_if f arms other) (stmt.rolls-If (map (arm_with f) arms) (body_with f other))
            (both (λ (own rest : List Stmt). own ++ rest) (arms_inside arms in_arms) (body_inside other in_other)
            ∙ sym (map_both (stmt_with f) (flat_map (λ (x : Arm). statements_in x.body) arms) (statements_in other)));
        selection = λ e arms other in_arms in_other.
            inside_of (S.Case e arms other) (stmt.Case e arms other)
            (stmt.Case (expr_with f e) (map (case_with f) arms) (body_with f other)) (stmt.rolls-Case e arms other)
            (with_case f e arms other) (stmt.rolls-Case (expr_with f e) (map (case_with f) arms) (body_with f other))
            (both (λ (own rest : List Stmt). own ++ rest) (cases_inside arms in_arms) (body_inside other in_other)
            ∙ sym (map_both (stmt_with f) (flat_map (λ (x : CaseArm). statements_in x.body) arms) (statements_in other)));
        loop = λ test body in_body.
            inside_of (S.While test body) (stmt.While test body) (stmt.While (expr_with f test) (body_with f body))
            (stmt.rolls-While test body) (with_while f test body) (stmt.rolls-While (expr_with f test) (body_with f body))
            (body_inside body in_body);
        exit = inside_of S.Exit stmt.Exit stmt.Exit stmt.rolls-Exit (with_exit f) stmt.rolls-Exit refl;
        continue = inside_of S.Continue stmt.Continue stmt.Continue stmt.rolls-Continue (with_continue f) stmt.rolls-Continue refl;
        return = inside_of S.Return stmt.Return stmt.Return stmt.rolls-Return (with_return f) stmt.rolls-Return refl;
      }

  -- Reads

  abbrev Mapped : List Var → List Var → Type 0
  Mapped xs ys = xs ≡ map f ys

  append_mapped : (xs ys xs' ys' : List Var) → Mapped xs xs' → Mapped ys ys' → Mapped (xs ++ ys) (xs' ++ ys')
  append_mapped xs ys xs' ys' h k = both (λ (a b : List Var). a ++ b) h k ∙ sym (map_both f xs' ys')

  read_layers : Layers Mapped (λ y. reads_step (expr_layer f y)) reads_step
  read_layers (E.Literal ty n) = refl
  read_layers (E.Read v) = refl
  read_layers (E.Unary op a) = a.2
  read_layers (E.Binary op a b) = append_mapped a.0 b.0 a.1 b.1 a.2 b.2
  read_layers (E.Convert from to a) = a.2
  read_layers (E.Select gate a b) =
      append_mapped (gate.0 ++ a.0) b.0 (gate.1 ++ a.1) b.1 (append_mapped gate.0 a.0 gate.1 a.1 gate.2 a.2) b.2
  read_layers (E.Shift op a b) = append_mapped a.0 b.0 a.1 b.1 a.2 b.2
  read_layers (E.AreaRead w a) = a.2

  pub reads_kept : (e : Expr) → reads_of (expr_with f e) ≡ map f (reads_of e)
  reads_kept e =
      expr_fold f reads_step (λ y. reads_step (expr_layer f y)) (λ y. refl) e
      ∙ folds_related Mapped (λ y. reads_step (expr_layer f y)) reads_step read_layers e

-- Heights

height_layers : (f : Var → Var) (y : E.Expr-F ℕ) → height_step (expr_layer f y) ≡ height_step y
height_layers f (E.Literal ty n) = refl
height_layers f (E.Read v) = refl
height_layers f (E.Unary op a) = refl
height_layers f (E.Binary op a b) = refl
height_layers f (E.Convert from to a) = refl
height_layers f (E.Select gate a b) = refl
height_layers f (E.Shift op a b) = refl
height_layers f (E.AreaRead w a) = refl

-- Forms that nest alike: of one precedence, equally high, and with as many levels
abbrev pub sizes : Form → ℕ × ℕ × ℕ
sizes x = (level x, form_height x, form_nesting x)

abbrev AreAlike : Form → Form → Type 0
AreAlike x y = sizes x ≡ sizes y

abbrev wrapped : ℕ → ℕ × ℕ × ℕ → ℕ × ℕ × ℕ
wrapped k s = (if nat_lt k s.0 then 0 else s.0, s.1, if nat_lt k s.0 then suc s.2 else s.2)

wrap_by : (b : Bool) (x : Form) → sizes (if b then group x else x)
    ≡ (if b then 0 else level x, form_height x, if b then suc (form_nesting x) else form_nesting x)
wrap_by true x = refl
wrap_by false x = refl

wrap_sizes : (k : ℕ) (x : Form) → sizes (wrap k x) ≡ wrapped k (sizes x)
wrap_sizes k x = wrap_by (nat_lt k (level x)) x

wrap_alike : (k : ℕ) (x y : Form) → AreAlike x y → AreAlike (wrap k x) (wrap k y)
wrap_alike k x y h = wrap_sizes k x ∙ ap (wrapped k) h ∙ sym (wrap_sizes k y)

abbrev one_size : ℕ → ℕ × ℕ × ℕ → ℕ × ℕ × ℕ
one_size k s = (k, suc s.1, suc s.2)

unary_alike : (op : UnaryOp) (x y : Form) → AreAlike x y → AreAlike (unary_form op x) (unary_form op y)
unary_alike unary.Minus x y h = ap (one_size 1) (wrap_alike 1 x y h)
unary_alike unary.Not x y h = ap (one_size 2) (wrap_alike 2 x y h)
unary_alike unary.BcdToInt x y h = ap (one_size 0) h
unary_alike unary.BcdToDint x y h = ap (one_size 0) h

form_layers : (f : Var → Var) → Layers AreAlike (λ y. canon_step (expr_layer f y)) canon_step
form_layers f (E.Literal ty n) = refl
form_layers f (E.Read v) = refl
form_layers f (E.Unary op a) = unary_alike op a.0 a.1 a.2
form_layers f (E.Binary op a b) =
    both (λ (s t : ℕ × ℕ × ℕ). (infix_level op, suc (max s.1 t.1), max (max s.2 s.1) t.2))
    (wrap_alike (infix_level op) a.0 a.1 a.2) (wrap_alike (infix_level op - 1) b.0 b.1 b.2)
form_layers f (E.Convert from to a) = ap (one_size 0) a.2
form_layers f (E.Select gate a b) =
    both (λ (r : ℕ × ℕ × ℕ) (st : ℕ × ℕ × ℕ × ℕ). (0, suc (max (max r.1 st.0) st.2), suc (max (max r.2 st.1) st.3))) gate.2
    (both (λ (s t : ℕ × ℕ × ℕ). (s.1, s.2, t.1, t.2)) a.2 b.2)
form_layers f (E.Shift op a b) =
    both (λ (s t : ℕ × ℕ × ℕ). (0, suc (max s.1 t.1), suc (max s.2 t.2))) a.2 b.2
form_layers f (E.AreaRead w a) = ap (one_size 0) a.2

pub nesting_kept : (f : Var → Var) (e : Expr) → expression_nesting (expr_with f e) ≡ expression_nesting e
nesting_kept f e =
    ap form_nesting (expr_fold f canon_step (λ y. canon_step (expr_layer f y)) (λ y. refl) e)
    ∙ ap (λ (s : ℕ × ℕ × ℕ). s.2) (folds_related AreAlike (λ y. canon_step (expr_layer f y)) canon_step (form_layers f) e)

nest_layers : (f : Var → Var) (y : S.Stmt-F ℕ ℕ ℕ) → nesting_step (stmt_layer f y) ≡ nesting_step y
nest_layers f (S.Assign v e) = nesting_kept f e
nest_layers f (S.AreaWrite w p e) = both (λ m n. suc (max m n)) (nesting_kept f p) (nesting_kept f e)
nest_layers f (S.Invoke n actuals) = refl
nest_layers f (S.If arms other) = refl
nest_layers f (S.Case e arms other) = ap (λ n. suc (max n (max (greatest arms) (greatest other)))) (nesting_kept f e)
nest_layers f (S.While test body) = ap (λ n. suc (max n (greatest body))) (nesting_kept f test)
nest_layers f S.Exit = refl
nest_layers f S.Continue = refl
nest_layers f S.Return = refl

-- The laws

pub kinds_kept : KindsAreKept
kinds_kept f x = every_stmt (SameKind f) (kinds f) x

pub statements_kept : StatementsAreKept
statements_kept f body = body_inside f body (every_body (SameInside f) (insides f) body)

pub reads_are_kept : ReadsAreKept
reads_are_kept f e = reads_kept f e

pub heights_kept : HeightsAreKept
heights_kept f e = record { height = expr_fold f height_step height_step (height_layers f) e; nesting = nesting_kept f e }

pub body_nesting_kept : NestingIsKept
body_nesting_kept f body =
    ap greatest
    (body_fold f nesting_step nesting_step Nesting.arm_step Nesting.arm_step Nesting.case_step Nesting.case_step (nest_layers f)
    (λ y. ap (λ n. max n (greatest y.body)) (nesting_kept f y.test)) (λ y. refl) body)
