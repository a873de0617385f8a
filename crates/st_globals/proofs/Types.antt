-- Statements with other variables are as well typed, where each of these has the type of the variable in its place.
use Rattle.std.proofs.Common.{◌≡◌, Bool, true, not, ◌&&◌, List, [], ◌∷◌, map, Option, Some, None, refl, sym, ap, ◌∙◌}
use Rattle.std.specs.Prelude.{slice_get}
use Rattle.s7_base.specs.declared.word.Width.{Width}
use Rattle.st_tree.specs.TypeRules.{type_of_binary, type_of_choice, type_of_conversion, type_of_read, type_of_shift, type_of_unary, where_true}
use Rattle.st_tree.specs.Naming.{is_conversion}
use Rattle.st_tree.specs.Values.{type_of_width}
use Rattle.st_tree.specs.WellTyped.{CaseCheck, Check, Head, UnitScope, are_cases, are_given, are_well_typed, arm_step, case_step, each, each_case, expression_step, expression_type, has_type, is_arm, is_assigned, is_call, is_case_arm, is_seen, is_well_typed, on_type, statement_step, variable_type}
use Rattle.st_tree.specs.declared.expr.BinaryOp.{BinaryOp}
use Rattle.st_tree.specs.declared.expr.Expr.{Expr}
use Rattle.st_tree.specs.declared.expr.Expr.TheOpen as E
use Rattle.st_tree.specs.declared.expr.Expr.TheVariants as expr
use Rattle.st_tree.specs.declared.expr.ShiftOp.{ShiftOp}
use Rattle.st_tree.specs.declared.expr.StType.{StType}
use Rattle.st_tree.specs.declared.expr.StType.TheVariants as type
use Rattle.st_tree.specs.declared.expr.UnaryOp.{UnaryOp}
use Rattle.st_tree.specs.declared.expr.Var.{Var}
use Rattle.st_tree.specs.declared.program.Arm.{Arm}
use Rattle.st_tree.specs.declared.program.CaseArm.{CaseArm}
use Rattle.st_tree.specs.declared.program.Local.{Local}
use Rattle.st_tree.specs.declared.program.Located.{Located}
use Rattle.st_tree.specs.declared.program.Stmt.{Stmt}
use Rattle.st_tree.specs.declared.program.Stmt.TheOpen as S
use Rattle.st_tree.specs.declared.program.Stmt.TheVariants as stmt
use Rattle.st_tree.proofs.Common.{and_parts}
use Rattle.st_tree.proofs.Induction.{Each, ExprSteps, InArm, InCase, StmtSteps, every_body, every_expr}
use Rattle.st_tree.proofs.TypedParts.{body_of_case, both_sides, parts_of_arm, parts_of_arms, parts_of_body, parts_of_case, parts_of_cases, parts_of_if, parts_of_while}
use Rattle.st_tree.proofs.TypingEquations.{good_area_write, good_assign, good_invoke, type_had, typed_area_read, typed_binary, typed_convert, typed_read, typed_select, typed_shift, typed_unary}
use Rattle.st_globals.specs.WithVariables.{arm_with, body_with, case_with, expr_with, stmt_with}
use Rattle.st_globals.proofs.With.{arm_layer, body_fold, both, expr_fold, expr_layer, stmt_layer, with_area_read, with_area_write, with_arm, with_assign, with_binary, with_case, with_case_arm, with_continue, with_convert, with_exit, with_if, with_invoke, with_literal, with_read, with_return, with_select, with_shift, with_unary, with_while}

module _ (sight : UnitScope) (new : List Located) (f : Var → Var)
    (same : (v : Var) → variable_type (record sight { globals = new }) (f v) ≡ variable_type sight v)
  where
    abbrev wider : UnitScope
    wider = record sight { globals = new }

    type_layers : (y : E.Expr-F (Option StType)) → expression_step wider (expr_layer f y) ≡ expression_step sight y
    type_layers (E.Literal ty n) = refl
    type_layers (E.Read v) = same v
    type_layers (E.Unary op a) = refl
    type_layers (E.Binary op a b) = refl
    type_layers (E.Convert from to a) = refl
    type_layers (E.Select gate a b) = refl
    type_layers (E.Shift op a b) = refl
    type_layers (E.AreaRead w a) = refl

    types_same : (e : Expr) → expression_type wider (expr_with f e) ≡ expression_type sight e
    types_same e = expr_fold f (expression_step wider) (expression_step sight) type_layers e

    given_same : (formals : List Local) (vars : List Var) → are_given wider formals (map f vars) ≡ are_given sight formals vars
    given_same [] [] = refl
    given_same [] (v ∷ vars) = refl
    given_same (formal ∷ formals) [] = refl
    given_same (formal ∷ formals) (v ∷ vars) =
        both (λ (t : Option StType) (b : Bool). has_type formal.ty t && b) (same v) (given_same formals vars)

    call_same : (head : Option Head) (vars : List Var) → is_call wider head (map f vars) ≡ is_call sight head vars
    call_same None vars = refl
    call_same (Some head) vars = ap (λ b. not head.program && is_seen sight head.name && b) (given_same head.formals vars)

    check_layers : (y : S.Stmt-F Check Check CaseCheck) → statement_step wider (stmt_layer f y) ≡ statement_step sight y
    check_layers (S.Assign v e) = λ i inside. is_assigned (same v i) (types_same e i)
    check_layers (S.AreaWrite w p e) =
        λ i inside. has_type type.Dword (types_same p i) && has_type (type_of_width w) (types_same e i)
    check_layers (S.Invoke n vars) = λ i inside. call_same (slice_get sight.heads n) vars i
    check_layers (S.If arms other) = refl
    check_layers (S.Case e arms other) = λ i inside. are_cases (types_same e i) inside arms && each inside other
    check_layers (S.While test body) = λ i inside. has_type type.Bool (types_same test i) && each true body
    check_layers S.Exit = refl
    check_layers S.Continue = refl
    check_layers S.Return = refl

    arm_checks : (y : S.Arm-F Check Check CaseCheck) → arm_step wider (arm_layer f y) ≡ arm_step sight y
    arm_checks y = λ i inside. has_type type.Bool (types_same y.test i) && each inside y.body

    pub typed_same : (inside : Bool) (body : List Stmt) → are_well_typed wider inside (body_with f body)
        ≡ are_well_typed sight inside body
    typed_same inside body =
        ap (each inside)
        (body_fold f (statement_step wider) (statement_step sight) (arm_step wider) (arm_step sight) case_step case_step check_layers
        arm_checks (λ y. refl) body)

-- Two ways to give variables that agree on those that have a type give the same well typed statements

on_some : (o : Option StType) (rule : StType → Option StType) (ty : StType) → on_type o rule ≡ Some ty
    → (u : StType) × (o ≡ Some u) × (rule u ≡ Some ty)
on_some None rule ty h = cc
on_some (Some u) rule ty h = (u, refl, h)

module _ (sight : UnitScope) (f g : Var → Var)
    (agree : (v : Var) (ty : StType) → variable_type sight v ≡ Some ty → f v ≡ g v)
  where
    abbrev T : Expr → Option StType
    T = expression_type sight

    abbrev SameExpr : Expr → Type 0
    SameExpr e = (ty : StType) → T e ≡ Some ty → expr_with f e ≡ expr_with g e

    unary_agrees : (op : UnaryOp) (a : Expr) → SameExpr a → SameExpr (expr.Unary op a)
    unary_agrees op a h ty e =
        let p = on_some (T a) (type_of_unary op) ty (sym (typed_unary sight op a) ∙ e) in
        with_unary f op a ∙ ap (λ (x : Expr). expr.Unary op x) (h p.0 p.1) ∙ sym (with_unary g op a)

    binary_agrees : (op : BinaryOp) (a b : Expr) → SameExpr a → SameExpr b → SameExpr (expr.Binary op a b)
    binary_agrees op a b h k ty e =
        let p = on_some (T a) (λ t. on_type (T b) (type_of_binary op t)) ty (sym (typed_binary sight op a b) ∙ e) in
        let q = on_some (T b) (type_of_binary op p.0) ty p.2 in
        with_binary f op a b ∙ both (λ (x y : Expr). expr.Binary op x y) (h p.0 p.1) (k q.0 q.1) ∙ sym (with_binary g op a b)

    convert_agrees : (from to : StType) (a : Expr) → SameExpr a → SameExpr (expr.Convert from to a)
    convert_agrees from to a h ty e =
        let p = on_some (T a) (λ t. on_type (type_of_conversion from to t) (where_true (is_conversion from to))) ty
        (sym (typed_convert sight from to a) ∙ e) in
        with_convert f from to a ∙ ap (λ (x : Expr). expr.Convert from to x) (h p.0 p.1) ∙ sym (with_convert g from to a)

    select_agrees : (a b c : Expr) → SameExpr a → SameExpr b → SameExpr c → SameExpr (expr.Select a b c)
    select_agrees a b c h k l ty e =
        let p = on_some (T a) (λ r. on_type (T b) (λ t. on_type (T c) (type_of_choice r t))) ty
        (sym (typed_select sight a b c) ∙ e) in
        let q = on_some (T b) (λ t. on_type (T c) (type_of_choice p.0 t)) ty p.2 in
        let r = on_some (T c) (type_of_choice p.0 q.0) ty q.2 in
        with_select f a b c ∙ both (λ (x y : Expr). expr.Select x y (expr_with f c)) (h p.0 p.1) (k q.0 q.1)
        ∙ ap (λ (z : Expr). expr.Select (expr_with g a) (expr_with g b) z) (l r.0 r.1) ∙ sym (with_select g a b c)

    shift_agrees : (op : ShiftOp) (a b : Expr) → SameExpr a → SameExpr b → SameExpr (expr.Shift op a b)
    shift_agrees op a b h k ty e =
        let p = on_some (T a) (λ t. on_type (T b) (type_of_shift t)) ty (sym (typed_shift sight op a b) ∙ e) in
        let q = on_some (T b) (type_of_shift p.0) ty p.2 in
        with_shift f op a b ∙ both (λ (x y : Expr). expr.Shift op x y) (h p.0 p.1) (k q.0 q.1) ∙ sym (with_shift g op a b)

    read_agrees : (w : Width) (a : Expr) → SameExpr a → SameExpr (expr.AreaRead w a)
    read_agrees w a h ty e =
        let p = on_some (T a) (type_of_read w) ty (sym (typed_area_read sight w a) ∙ e) in
        with_area_read f w a ∙ ap (λ (x : Expr). expr.AreaRead w x) (h p.0 p.1) ∙ sym (with_area_read g w a)

    expr_steps : ExprSteps SameExpr
    expr_steps =
        record {
          literal = λ ty n t e. with_literal f ty n ∙ sym (with_literal g ty n);
          read = λ v t e.
              with_read f v ∙ ap (λ (x : Var). expr.Read x) (agree v t (sym (typed_read sight v) ∙ e)) ∙ sym (with_read g v);
          unary = unary_agrees;
          binary = binary_agrees;
          convert = convert_agrees;
          select = select_agrees;
          shift = shift_agrees;
          area_read = read_agrees;
        }

    expr_agrees : (e : Expr) (ty : StType) → T e ≡ Some ty → expr_with f e ≡ expr_with g e
    expr_agrees e = every_expr SameExpr expr_steps e

    has_agrees : (ty : StType) (e : Expr) → has_type ty (T e) ≡ true → expr_with f e ≡ expr_with g e
    has_agrees ty e h = expr_agrees e ty (type_had ty (T e) h)

    given_agrees : (formals : List Local) (vars : List Var) → are_given sight formals vars ≡ true → map f vars ≡ map g vars
    given_agrees [] [] h = refl
    given_agrees [] (v ∷ vars) h = cc
    given_agrees (formal ∷ formals) [] h = cc
    given_agrees (formal ∷ formals) (v ∷ vars) h =
        let parts = and_parts (has_type formal.ty (variable_type sight v)) (are_given sight formals vars) h in
        both (λ (x : Var) (xs : List Var). x ∷ xs) (agree v formal.ty (type_had formal.ty (variable_type sight v) parts.0))
        (given_agrees formals vars parts.1)

    call_agrees : (head : Option Head) (vars : List Var) → is_call sight head vars ≡ true → map f vars ≡ map g vars
    call_agrees None vars h = cc
    call_agrees (Some head) vars h = given_agrees head.formals vars (and_parts _ (are_given sight head.formals vars) h).1

    abbrev SameStmt : Stmt → Type 0
    SameStmt x = (inside : Bool) → is_well_typed sight x inside ≡ true → stmt_with f x ≡ stmt_with g x

    body_agrees : (xs : List Stmt) → Each SameStmt xs → (inside : Bool) → are_well_typed sight inside xs ≡ true
        → body_with f xs ≡ body_with g xs
    body_agrees [] h inside e = refl
    body_agrees (x ∷ xs) h inside e =
        let parts = parts_of_body sight inside x xs e in
        both (λ (y : Stmt) (ys : List Stmt). y ∷ ys) (h.0 inside parts.0) (body_agrees xs h.1 inside parts.1)

    abbrev arm_of : Expr → List Stmt → Arm
    arm_of e body = record { test = e; body = body }

    abbrev case_of : CaseArm → List Stmt → CaseArm
    case_of a body = record { labels = a.labels; body = body }

    arms_agree : (arms : List Arm) → Each (InArm SameStmt) arms → (inside : Bool) → each inside (map (is_arm sight) arms) ≡ true
        → map (arm_with f) arms ≡ map (arm_with g) arms
    arms_agree [] h inside e = refl
    arms_agree (arm ∷ arms) h inside e =
        let parts = parts_of_arms sight inside arm arms e in
        let own = parts_of_arm sight inside arm parts.0 in
        both (λ (y : Arm) (ys : List Arm). y ∷ ys)
        (with_arm f arm ∙ both arm_of (has_agrees type.Bool arm.test own.0) (body_agrees arm.body h.0 inside own.1)
        ∙ sym (with_arm g arm))
        (arms_agree arms h.1 inside parts.1)

    cases_agree : (arms : List CaseArm) → Each (InCase SameStmt) arms → (ty : StType) (inside : Bool)
        → each_case ty inside (map (is_case_arm sight) arms) ≡ true → map (case_with f) arms ≡ map (case_with g) arms
    cases_agree [] h ty inside e = refl
    cases_agree (arm ∷ arms) h ty inside e =
        let parts = parts_of_cases sight inside ty arm arms e in
        both (λ (y : CaseArm) (ys : List CaseArm). y ∷ ys)
        (with_case_arm f arm
        ∙ ap (λ (body : List Stmt). case_of arm body) (body_agrees arm.body h.0 inside (body_of_case sight inside arm ty parts.0))
        ∙ sym (with_case_arm g arm))
        (cases_agree arms h.1 ty inside parts.1)

    stmt_steps : StmtSteps SameStmt
    stmt_steps =
        record {
          assign = λ v e inside h.
              let sides = both_sides (variable_type sight v) (T e) (sym (good_assign sight inside v e) ∙ h) in
              with_assign f v e ∙ both (λ (x : Var) (y : Expr). stmt.Assign x y) (agree v sides.type sides.left) (expr_agrees e sides.type sides.right)
              ∙ sym (with_assign g v e);
          area_write = λ w p e inside h.
              let parts = and_parts (has_type type.Dword (T p)) (has_type (type_of_width w) (T e))
              (sym (good_area_write sight inside w p e) ∙ h) in
              with_area_write f w p e
              ∙ both (λ (x y : Expr). stmt.AreaWrite w x y) (has_agrees type.Dword p parts.0) (has_agrees (type_of_width w) e parts.1)
              ∙ sym (with_area_write g w p e);
          invoke = λ n vars inside h.
              with_invoke f n vars
              ∙ ap (λ (xs : List Var). stmt.Invoke n xs) (call_agrees (slice_get sight.heads n) vars (sym (good_invoke sight inside n vars) ∙ h))
              ∙ sym (with_invoke g n vars);
          choice = λ arms other in_arms in_other inside h.
              let parts = parts_of_if sight inside arms other h in
              with_if f arms other
              ∙ both (λ (xs : List Arm) (ys : List Stmt). stmt.If xs ys) (arms_agree arms in_arms inside parts.0) (body_agrees other in_other inside parts.1)
              ∙ sym (with_if g arms other);
          selection = λ e arms other in_arms in_other inside h.
              let parts = parts_of_case sight inside e arms other h in
              with_case f e arms other
              ∙ both (λ (x : Expr) (y : List CaseArm). stmt.Case x y (body_with f other)) (expr_agrees e parts.0.type parts.0.selector)
              (cases_agree arms in_arms parts.0.type inside parts.0.arms)
              ∙ ap (λ (ys : List Stmt). stmt.Case (expr_with g e) (map (case_with g) arms) ys) (body_agrees other in_other inside parts.1)
              ∙ sym (with_case g e arms other);
          loop = λ test body in_body inside h.
              let parts = parts_of_while sight inside test body h in
              with_while f test body
              ∙ both (λ (x : Expr) (ys : List Stmt). stmt.While x ys) (has_agrees type.Bool test parts.0) (body_agrees body in_body true parts.1)
              ∙ sym (with_while g test body);
          exit = λ inside h. with_exit f ∙ sym (with_exit g);
          continue = λ inside h. with_continue f ∙ sym (with_continue g);
          return = λ inside h. with_return f ∙ sym (with_return g);
        }

    pub same_body : (inside : Bool) (body : List Stmt) → are_well_typed sight inside body ≡ true → body_with f body ≡ body_with g body
    same_body inside body h = body_agrees body (every_body SameStmt stmt_steps body) inside h
