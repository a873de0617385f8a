-- Well typed statements name only locals that there are.
use Rattle.std.proofs.Common.{◌≡◌, ◌≢◌, ℕ, Bool, true, List, [], ◌∷◌, ◌++◌, length, map, Option, Some, None, refl, sym, ap, ◌∙◌, subst, arith}
use Rattle.std.specs.Prelude.{All, flat_map, slice_get}
use Rattle.std.proofs.lemmas.List.Elements.{All-append, All-cons, All-nil}
use Rattle.std.proofs.lemmas.Option.{slice_get_past}
use Rattle.s7_base.specs.declared.word.Width.{Width}
use Rattle.st_tree.specs.BodyParts.{inner_statements, reads_of, reads_step, statements_in}
use Rattle.st_tree.specs.TypeRules.{type_of_binary, type_of_choice, type_of_conversion, type_of_read, type_of_shift, type_of_unary, where_true}
use Rattle.st_tree.specs.Naming.{is_conversion}
use Rattle.st_tree.specs.Values.{type_of_width}
use Rattle.st_tree.specs.WellTyped.{Head, UnitScope, are_given, are_well_typed, each, each_case, expression_step, expression_type, has_type, is_arm, is_call, is_case_arm, is_value, is_well_typed, on_type, type_inside, variable_type}
use Rattle.st_tree.specs.declared.expr.Expr.{Expr}
use Rattle.st_tree.specs.declared.expr.Expr.TheOpen as E
use Rattle.st_tree.specs.declared.expr.StType.{StType}
use Rattle.st_tree.specs.declared.expr.StType.TheVariants as type
use Rattle.st_tree.specs.declared.expr.Var.{Var}
use Rattle.st_tree.specs.declared.expr.Var.TheVariants as var
use Rattle.st_tree.specs.declared.program.Arm.{Arm}
use Rattle.st_tree.specs.declared.program.CaseArm.{CaseArm}
use Rattle.st_tree.specs.declared.program.Local.{Local}
use Rattle.st_tree.specs.declared.program.Stmt.{Stmt, out-Stmt, out-roll-Stmt, roll-Stmt}
use Rattle.st_tree.specs.declared.program.Stmt.TheOpen as S
use Rattle.st_tree.specs.declared.program.Stmt.TheVariants as stmt
use Rattle.st_tree.proofs.Common.{and_parts}
use Rattle.st_tree.proofs.Induction.{Both, Each, InArm, InCase, Layers, StmtSteps, every_body, folds_related}
use Rattle.st_tree.proofs.PartEquations.{inner_bodies, inner_rolled}
use Rattle.st_tree.proofs.TypedParts.{body_of_case, both_sides, parts_of_arm, parts_of_arms, parts_of_body, parts_of_case, parts_of_cases, parts_of_if, parts_of_while}
use Rattle.st_tree.proofs.TypingEquations.{good_area_write, good_assign, good_invoke, type_had}
use Rattle.text_shapes.specs.NodeCounts.{LeaveLocal, LeavesLocal}
use Rattle.text_shapes.specs.Shape.{AreOthers}

module _ (sight : UnitScope) (next : ℕ) (off : (v : Var) (ty : StType) → variable_type sight v ≡ Some ty → v ≢ var.Local next) where
  -- Expressions

  -- what has a type reads other variables alone
  abbrev Others : Option StType → List Var → Type 0
  Others None vars = Unit {0}
  Others (Some ty) vars = AreOthers next vars

  any_others : (o : Option StType) (vars : List Var) → AreOthers next vars → Others o vars
  any_others None vars h = tt
  any_others (Some ty) vars h = h

  on_others : (rule : StType → Option StType) (vars : List Var) (a : Both Others)
      → ((ty : StType) → AreOthers next a.1 → Others (rule ty) vars) → Others (on_type a.0 rule) vars
  on_others rule vars (None, own, h) given = tt
  on_others rule vars (Some ty, own, h) given = given ty h

  read_others : (v : Var) (o : Option StType) → variable_type sight v ≡ o → Others o (v ∷ [])
  read_others v None e = tt
  read_others v (Some ty) e = All-cons (λ (x : Var). x ≢ var.Local next) v [] (off v ty e) (All-nil (λ (x : Var). x ≢ var.Local next))

  both_others : (xs ys : List Var) → AreOthers next xs → AreOthers next ys → AreOthers next (xs ++ ys)
  both_others xs ys h k = All-append (λ (x : Var). x ≢ var.Local next) xs ys h k

  layers : Layers Others (expression_step sight) reads_step
  layers (E.Literal ty n) = any_others (where_true (is_value ty n) ty) [] (All-nil (λ (x : Var). x ≢ var.Local next))
  layers (E.Read v) = read_others v (variable_type sight v) refl
  layers (E.Unary op a) = on_others (type_of_unary op) a.1 a (λ ty h. any_others (type_of_unary op ty) a.1 h)
  layers (E.Binary op a b) =
      on_others (λ ty. on_type b.0 (type_of_binary op ty)) (a.1 ++ b.1) a (λ ty h.
      on_others (type_of_binary op ty) (a.1 ++ b.1) b (λ u k.
      any_others (type_of_binary op ty u) (a.1 ++ b.1) (both_others a.1 b.1 h k)))
  layers (E.Convert from to a) =
      on_others (λ ty. on_type (type_of_conversion from to ty) (where_true (is_conversion from to))) a.1 a (λ ty h.
      any_others (on_type (type_of_conversion from to ty) (where_true (is_conversion from to))) a.1 h)
  layers (E.Select gate a b) =
      on_others (λ g. on_type a.0 (λ ty. on_type b.0 (type_of_choice g ty))) (gate.1 ++ a.1 ++ b.1) gate (λ g d.
      on_others (λ ty. on_type b.0 (type_of_choice g ty)) (gate.1 ++ a.1 ++ b.1) a (λ ty h.
      on_others (type_of_choice g ty) (gate.1 ++ a.1 ++ b.1) b (λ u k.
      any_others (type_of_choice g ty u) (gate.1 ++ a.1 ++ b.1) (both_others (gate.1 ++ a.1) b.1 (both_others gate.1 a.1 d h) k))))
  layers (E.Shift op a b) =
      on_others (λ ty. on_type b.0 (type_of_shift ty)) (a.1 ++ b.1) a (λ ty h.
      on_others (type_of_shift ty) (a.1 ++ b.1) b (λ u k.
      any_others (type_of_shift ty u) (a.1 ++ b.1) (both_others a.1 b.1 h k)))
  layers (E.AreaRead w a) = on_others (type_of_read w) a.1 a (λ ty h. any_others (type_of_read w ty) a.1 h)

  reads_others : (e : Expr) (ty : StType) → expression_type sight e ≡ Some ty → AreOthers next (reads_of e)
  reads_others e ty h =
      subst (λ (o : Option StType). Others o (reads_of e)) h (folds_related Others (expression_step sight) reads_step layers e)

  has_others : (ty : StType) (e : Expr) → has_type ty (expression_type sight e) ≡ true → AreOthers next (reads_of e)
  has_others ty e h = reads_others e ty (type_had ty (expression_type sight e) h)

  -- Calls

  given_others : (formals : List Local) (vars : List Var) → are_given sight formals vars ≡ true → AreOthers next vars
  given_others [] [] h = All-nil (λ (x : Var). x ≢ var.Local next)
  given_others [] (v ∷ vars) h = cc
  given_others (f ∷ formals) [] h = cc
  given_others (f ∷ formals) (v ∷ vars) h =
      let parts = and_parts (has_type f.ty (variable_type sight v)) (are_given sight formals vars) h in
      All-cons (λ (x : Var). x ≢ var.Local next) v vars (off v f.ty (type_had f.ty (variable_type sight v) parts.0))
      (given_others formals vars parts.1)

  call_others : (head : Option Head) (vars : List Var) → is_call sight head vars ≡ true → AreOthers next vars
  call_others None vars h = cc
  call_others (Some head) vars h = given_others head.formals vars (and_parts _ (are_given sight head.formals vars) h).1

  -- Statements

  abbrev Off : Stmt → Type 0
  Off x = LeavesLocal next (out-Stmt x)

  abbrev ReadsOthers : Expr → Type 0
  ReadsOthers e = AreOthers next (reads_of e)

  -- a statement and those inside it
  abbrev WhollyOff : Stmt → Type 0
  WhollyOff x = (inside : Bool) → is_well_typed sight x inside ≡ true → All Off (x ∷ inner_statements x)

  by_layer : (y : S.Stmt-F Stmt Arm CaseArm) (x : Stmt) → roll-Stmt y ≡ x → LeavesLocal next y → All Off (inner_bodies y)
      → All Off (x ∷ inner_statements x)
  by_layer y x e own inner =
      subst (λ (z : Stmt). All Off (z ∷ inner_statements z)) e
      (All-cons Off (roll-Stmt y) (inner_statements (roll-Stmt y)) (subst (LeavesLocal next) (sym (out-roll-Stmt y)) own)
      (subst (All Off) (sym (inner_rolled y)) inner))

  body_off : (xs : List Stmt) → Each WhollyOff xs → (inside : Bool) → are_well_typed sight inside xs ≡ true → All Off (statements_in xs)
  body_off [] each inside h = All-nil Off
  body_off (x ∷ rest) each inside h =
      let parts = parts_of_body sight inside x rest h in
      All-append Off (x ∷ inner_statements x) (statements_in rest) (each.0 inside parts.0) (body_off rest each.1 inside parts.1)

  arms_off : (arms : List Arm) → Each (InArm WhollyOff) arms → (inside : Bool) → each inside (map (is_arm sight) arms) ≡ true
      → All ReadsOthers (map (λ (arm : Arm). arm.test) arms) × All Off (flat_map (λ (arm : Arm). statements_in arm.body) arms)
  arms_off [] each inside h = (All-nil ReadsOthers, All-nil Off)
  arms_off (arm ∷ arms) each inside h =
      let parts = parts_of_arms sight inside arm arms h in
      let own = parts_of_arm sight inside arm parts.0 in
      let rest = arms_off arms each.1 inside parts.1 in (
        All-cons ReadsOthers arm.test (map (λ (arm : Arm). arm.test) arms) (has_others type.Bool arm.test own.0) rest.0,
        All-append Off (statements_in arm.body) (flat_map (λ (arm : Arm). statements_in arm.body) arms)
            (body_off arm.body each.0 inside own.1) rest.1,
      )

  cases_off : (arms : List CaseArm) → Each (InCase WhollyOff) arms → (ty : StType) (inside : Bool)
      → each_case ty inside (map (is_case_arm sight) arms) ≡ true → All Off (flat_map (λ (arm : CaseArm). statements_in arm.body) arms)
  cases_off [] each ty inside h = All-nil Off
  cases_off (arm ∷ arms) each ty inside h =
      let parts = parts_of_cases sight inside ty arm arms h in
      All-append Off (statements_in arm.body) (flat_map (λ (arm : CaseArm). statements_in arm.body) arms)
      (body_off arm.body each.0 inside (body_of_case sight inside arm ty parts.0)) (cases_off arms each.1 ty inside parts.1)

  assign_off : (v : Var) (e : Expr) → WhollyOff (stmt.Assign v e)
  assign_off v e inside h =
      let sides = both_sides (variable_type sight v) (expression_type sight e) (sym (good_assign sight inside v e) ∙ h) in
      by_layer (S.Assign v e) (stmt.Assign v e) (stmt.rolls-Assign v e) (off v sides.type sides.left, reads_others e sides.type sides.right)
      (All-nil Off)

  write_off : (w : Width) (p e : Expr) → WhollyOff (stmt.AreaWrite w p e)
  write_off w p e inside h =
      let parts = and_parts (has_type type.Dword (expression_type sight p)) (has_type (type_of_width w) (expression_type sight e))
      (sym (good_area_write sight inside w p e) ∙ h) in
      by_layer (S.AreaWrite w p e) (stmt.AreaWrite w p e) (stmt.rolls-AreaWrite w p e)
      (All-cons ReadsOthers p (e ∷ []) (has_others type.Dword p parts.0)
      (All-cons ReadsOthers e [] (has_others (type_of_width w) e parts.1) (All-nil ReadsOthers)))
      (All-nil Off)

  call_off : (n : ℕ) (vars : List Var) → WhollyOff (stmt.Invoke n vars)
  call_off n vars inside h =
      by_layer (S.Invoke n vars) (stmt.Invoke n vars) (stmt.rolls-Invoke n vars)
      (call_others (slice_get sight.heads n) vars (sym (good_invoke sight inside n vars) ∙ h)) (All-nil Off)

  if_off : (arms : List Arm) (other : List Stmt) → Each (InArm WhollyOff) arms → Each WhollyOff other → WhollyOff (stmt.If arms other)
  if_off arms other in_arms in_other inside h =
      let parts = parts_of_if sight inside arms other h in
      let own = arms_off arms in_arms inside parts.0 in
      by_layer (S.If arms other) (stmt.If arms other) (stmt.rolls-If arms other) own.0
      (All-append Off (flat_map (λ (arm : Arm). statements_in arm.body) arms) (statements_in other) own.1
      (body_off other in_other inside parts.1))

  case_off : (e : Expr) (arms : List CaseArm) (other : List Stmt) → Each (InCase WhollyOff) arms → Each WhollyOff other
      → WhollyOff (stmt.Case e arms other)
  case_off e arms other in_arms in_other inside h =
      let parts = parts_of_case sight inside e arms other h in
      by_layer (S.Case e arms other) (stmt.Case e arms other) (stmt.rolls-Case e arms other)
      (All-cons ReadsOthers e [] (reads_others e parts.0.type parts.0.selector) (All-nil ReadsOthers))
      (All-append Off (flat_map (λ (arm : CaseArm). statements_in arm.body) arms) (statements_in other)
      (cases_off arms in_arms parts.0.type inside parts.0.arms) (body_off other in_other inside parts.1))

  loop_off : (test : Expr) (body : List Stmt) → Each WhollyOff body → WhollyOff (stmt.While test body)
  loop_off test body in_body inside h =
      let parts = parts_of_while sight inside test body h in
      by_layer (S.While test body) (stmt.While test body) (stmt.rolls-While test body)
      (All-cons ReadsOthers test [] (has_others type.Bool test parts.0) (All-nil ReadsOthers)) (body_off body in_body true parts.1)

  each_off : StmtSteps WhollyOff
  each_off =
      record {
        assign = assign_off;
        area_write = write_off;
        invoke = call_off;
        choice = if_off;
        selection = case_off;
        loop = loop_off;
        exit = λ inside h. by_layer S.Exit stmt.Exit stmt.rolls-Exit (All-nil ReadsOthers) (All-nil Off);
        continue = λ inside h. by_layer S.Continue stmt.Continue stmt.rolls-Continue (All-nil ReadsOthers) (All-nil Off);
        return = λ inside h. by_layer S.Return stmt.Return stmt.rolls-Return (All-nil ReadsOthers) (All-nil Off);
      }

  all_off : (inside : Bool) (body : List Stmt) → are_well_typed sight inside body ≡ true → LeaveLocal next body
  all_off inside body h = body_off body (every_body WhollyOff each_off body) inside h

-- nothing has a type and has none
clash : (o : Option StType) (ty : StType) → o ≡ None → o ≡ Some ty → ⊥
clash o ty e f = cc

-- well typed statements leave the local behind the last one alone
pub leave_next : (sight : UnitScope) (inside : Bool) (body : List Stmt) → are_well_typed sight inside body ≡ true
    → LeaveLocal (length sight.locals) body
leave_next sight inside body h = all_off sight (length sight.locals) off inside body h
  where
    none : variable_type sight (var.Local (length sight.locals)) ≡ None
    none = ap type_inside (slice_get_past sight.locals (length sight.locals) (omega arith))

    off : (v : Var) (ty : StType) → variable_type sight v ≡ Some ty → v ≢ var.Local (length sight.locals)
    off v ty e same =
        clash (variable_type sight (var.Local (length sight.locals))) ty none (ap (variable_type sight) (sym same) ∙ e)
