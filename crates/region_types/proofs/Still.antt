-- What is well typed in a scope is well typed in one that names no less.
use Rattle.std.proofs.Common.{◌≡◌, Bool, true, ◌&&◌, List, [], ◌∷◌, map, Option, Some, None, refl, sym, ap, ◌∙◌, subst}
use Rattle.s7_base.specs.declared.word.Width.{Width}
use Rattle.region_types.specs.TextLaws.{IsWider}
use Rattle.st_tree.specs.Naming.{is_conversion}
use Rattle.st_tree.specs.TypeRules.{is_selector, is_type, type_of_binary, type_of_choice, type_of_conversion, type_of_read, type_of_shift, type_of_unary, where_true}
use Rattle.st_tree.specs.Values.{type_of_width}
use Rattle.st_tree.specs.WellTyped.{UnitScope, are_cases, are_well_typed, each, each_case, expression_step, expression_type, has_type, is_arm, is_case_arm, is_some_of, is_value, is_well_typed, on_type, variable_type}
use Rattle.st_tree.specs.declared.expr.Expr.{Expr}
use Rattle.st_tree.specs.declared.expr.Expr.TheOpen as E
use Rattle.st_tree.specs.declared.expr.StType.{StType}
use Rattle.st_tree.specs.declared.expr.StType.TheVariants as type
use Rattle.st_tree.specs.declared.expr.Var.{Var}
use Rattle.st_tree.specs.declared.program.Arm.{Arm}
use Rattle.st_tree.specs.declared.program.CaseArm.{CaseArm}
use Rattle.st_tree.specs.declared.program.Stmt.{Stmt}
use Rattle.st_tree.specs.declared.program.Stmt.TheVariants as stmt
use Rattle.st_tree.proofs.Common.{and_parts}
use Rattle.st_tree.proofs.Induction.{Both, Each, InArm, InCase, Layers, StmtSteps, every_body, folds_related}
use Rattle.st_tree.proofs.TypedParts.{both_sides, parts_of_arm, parts_of_arms, parts_of_body, parts_of_cases, parts_of_if, parts_of_while}
use Rattle.st_tree.proofs.TypingEquations.{good_area_write, good_arm, good_assign, good_case, good_case_arm, good_continue, good_exit, good_if, good_invoke, good_return, good_while, type_had}

pub both_true : (a b : Bool) → a ≡ true → b ≡ true → (a && b) ≡ true
both_true a b h k = rw (h, k) refl

type_itself : (ty : StType) → is_type ty ty ≡ true
type_itself type.Bool = refl
type_itself type.Byte = refl
type_itself type.Word = refl
type_itself type.Dword = refl
type_itself type.Int = refl
type_itself type.Dint = refl
type_itself type.Lint = refl

pub has : (ty : StType) (o : Option StType) → o ≡ Some ty → has_type ty o ≡ true
has ty o e = rw e (type_itself ty)

-- Expressions

-- the second is this type where the first is one
abbrev pub Carries : Option StType → Option StType → Type 0
Carries None b = Unit {0}
Carries (Some ty) b = b ≡ Some ty

itself : (o : Option StType) → Carries o o
itself None = tt
itself (Some ty) = refl

on_both : (rule more : StType → Option StType) (a : Both Carries) → ((ty : StType) → Carries (rule ty) (more ty))
    → Carries (on_type a.0 rule) (on_type a.1 more)
on_both rule more (None, b, h) k = tt
on_both rule more (Some ty, b, h) k = subst (λ (o : Option StType). Carries (rule ty) (on_type o more)) (sym h) (k ty)

on_one : (rule : StType → Option StType) (a : Both Carries) → Carries (on_type a.0 rule) (on_type a.1 rule)
on_one rule a = on_both rule rule a (λ ty. itself (rule ty))

carries_by_types : (a b : Option StType) → ((ty : StType) → a ≡ Some ty → b ≡ Some ty) → Carries a b
carries_by_types None b h = tt
carries_by_types (Some ty) b h = h ty refl

still_had : (ty : StType) (a b : Option StType) → Carries a b → has_type ty a ≡ true → has_type ty b ≡ true
still_had ty None b h k = cc
still_had ty (Some found) b h k = has ty b (h ∙ type_had ty (Some found) k)

some_still : {A B C : Type 0} (f : A → B) (g : A → C) (xs : List A) → is_some_of (map f xs) ≡ is_some_of (map g xs)
some_still f g [] = refl
some_still f g (x ∷ xs) = refl

module _ (small large : UnitScope) (wider : IsWider small large) where
  layers : Layers Carries (expression_step small) (expression_step large)
  layers (E.Literal ty n) = itself (where_true (is_value ty n) ty)
  layers (E.Read v) = carries_by_types (variable_type small v) (variable_type large v) (wider.declared v)
  layers (E.Unary op a) = on_one (type_of_unary op) a
  layers (E.Binary op a b) =
      on_both (λ x. on_type b.0 (type_of_binary op x)) (λ x. on_type b.1 (type_of_binary op x)) a (λ x. on_one (type_of_binary op x) b)
  layers (E.Convert from to a) = on_one (λ x. on_type (type_of_conversion from to x) (where_true (is_conversion from to))) a
  layers (E.Select gate a b) =
      on_both (λ k. on_type a.0 (λ x. on_type b.0 (type_of_choice k x))) (λ k. on_type a.1 (λ x. on_type b.1 (type_of_choice k x))) gate
      (λ k. on_both (λ x. on_type b.0 (type_of_choice k x)) (λ x. on_type b.1 (type_of_choice k x)) a (λ x. on_one (type_of_choice k x) b))
  layers (E.Shift op a b) = on_both (λ x. on_type b.0 (type_of_shift x)) (λ x. on_type b.1 (type_of_shift x)) a (λ x. on_one (type_of_shift x) b)
  layers (E.AreaRead w a) = on_one (type_of_read w) a

  carries : (e : Expr) → Carries (expression_type small e) (expression_type large e)
  carries e = folds_related Carries (expression_step small) (expression_step large) layers e

  -- Statements

  -- a statement that is well typed is so still, inside a loop where it was
  abbrev Stays : Stmt → Type 0
  Stays x = (a b : Bool) → (a ≡ true → b ≡ true) → is_well_typed small x a ≡ true → is_well_typed large x b ≡ true

  body_stays : (xs : List Stmt) → Each Stays xs → (a b : Bool) → (a ≡ true → b ≡ true) → are_well_typed small a xs ≡ true → are_well_typed large b xs ≡ true
  body_stays [] each a b more h = refl
  body_stays (x ∷ xs) each a b more h =
      let parts = parts_of_body small a x xs h in both_true _ _ (each.0 a b more parts.0) (body_stays xs each.1 a b more parts.1)

  arms_stay : (xs : List Arm) → Each (InArm Stays) xs → (a b : Bool) → (a ≡ true → b ≡ true) → each a (map (is_arm small) xs) ≡ true
      → each b (map (is_arm large) xs) ≡ true
  arms_stay [] every a b more h = refl
  arms_stay (x ∷ xs) every a b more h =
      let parts = parts_of_arms small a x xs h in
      let own = parts_of_arm small a x parts.0 in
      both_true _ _
      (good_arm large b x
      ∙ both_true _ _ (still_had type.Bool (expression_type small x.test) (expression_type large x.test) (carries x.test) own.0)
      (body_stays x.body every.0 a b more own.1))
      (arms_stay xs every.1 a b more parts.1)

  cases_stay : (ty : StType) (xs : List CaseArm) → Each (InCase Stays) xs → (a b : Bool) → (a ≡ true → b ≡ true)
      → each_case ty a (map (is_case_arm small) xs) ≡ true → each_case ty b (map (is_case_arm large) xs) ≡ true
  cases_stay ty [] every a b more h = refl
  cases_stay ty (x ∷ xs) every a b more h =
      let parts = parts_of_cases small a ty x xs h in
      let own = and_parts _ _ (sym (good_case_arm small a x ty) ∙ parts.0) in
      both_true _ _ (good_case_arm large b x ty ∙ both_true _ _ own.0 (body_stays x.body every.0 a b more own.1))
      (cases_stay ty xs every.1 a b more parts.1)

  selector_stays : (o p : Option StType) → Carries o p → (xs : List CaseArm) → Each (InCase Stays) xs → (a b : Bool) → (a ≡ true → b ≡ true)
      → are_cases o a (map (is_case_arm small) xs) ≡ true → are_cases p b (map (is_case_arm large) xs) ≡ true
  selector_stays None p h xs every a b more k = cc
  selector_stays (Some ty) p h xs every a b more k =
      let whole = and_parts (is_selector ty && is_some_of (map (is_case_arm small) xs)) (each_case ty a (map (is_case_arm small) xs)) k in
      let first = and_parts (is_selector ty) (is_some_of (map (is_case_arm small) xs)) whole.0 in
      ap (λ (q : Option StType). are_cases q b (map (is_case_arm large) xs)) h
      ∙ both_true _ _ (both_true _ _ first.0 (some_still (is_case_arm large) (is_case_arm small) xs ∙ first.1)) (cases_stay ty xs every a b more whole.1)

  assign_stays : (v : Var) (e : Expr) → Stays (stmt.Assign v e)
  assign_stays v e a b more h =
      let sides = both_sides (variable_type small v) (expression_type small e) (sym (good_assign small a v e) ∙ h) in
      let right : expression_type large e ≡ Some sides.type =
      subst (λ (o : Option StType). Carries o (expression_type large e)) sides.right (carries e) in
      good_assign large b v e ∙ rw (wider.declared v sides.type sides.left, right) (type_itself sides.type)

  write_stays : (w : Width) (p e : Expr) → Stays (stmt.AreaWrite w p e)
  write_stays w p e a b more h =
      let both = and_parts (has_type type.Dword (expression_type small p)) (has_type (type_of_width w) (expression_type small e))
      (sym (good_area_write small a w p e) ∙ h) in
      good_area_write large b w p e
      ∙ both_true _ _ (still_had type.Dword _ _ (carries p) both.0) (still_had (type_of_width w) _ _ (carries e) both.1)

  if_stays : (arms : List Arm) (other : List Stmt) → Each (InArm Stays) arms → Each Stays other → Stays (stmt.If arms other)
  if_stays arms other every each_other a b more h =
      let parts = parts_of_if small a arms other h in
      let first = and_parts (is_some_of (map (is_arm small) arms) && each a (map (is_arm small) arms)) (are_well_typed small a other)
      (sym (good_if small a arms other) ∙ h) in
      let some = and_parts (is_some_of (map (is_arm small) arms)) (each a (map (is_arm small) arms)) first.0 in
      good_if large b arms other
      ∙ both_true _ _ (both_true _ _ (some_still (is_arm large) (is_arm small) arms ∙ some.0) (arms_stay arms every a b more some.1))
      (body_stays other each_other a b more first.1)

  case_stays : (e : Expr) (arms : List CaseArm) (other : List Stmt) → Each (InCase Stays) arms → Each Stays other → Stays (stmt.Case e arms other)
  case_stays e arms other every each_other a b more h =
      let first = and_parts (are_cases (expression_type small e) a (map (is_case_arm small) arms)) (are_well_typed small a other)
      (sym (good_case small a e arms other) ∙ h) in
      good_case large b e arms other
      ∙ both_true _ _ (selector_stays (expression_type small e) (expression_type large e) (carries e) arms every a b more first.0)
      (body_stays other each_other a b more first.1)

  while_stays : (test : Expr) (body : List Stmt) → Each Stays body → Stays (stmt.While test body)
  while_stays test body every a b more h =
      let parts = parts_of_while small a test body h in
      good_while large b test body
      ∙ both_true _ _ (still_had type.Bool _ _ (carries test) parts.0) (body_stays body every true true (λ e. e) parts.1)

  steps : StmtSteps Stays
  steps =
      record {
        assign = assign_stays;
        area_write = write_stays;
        invoke = λ n vars a b more h. good_invoke large b n vars ∙ wider.calls n vars (sym (good_invoke small a n vars) ∙ h);
        choice = if_stays;
        selection = case_stays;
        loop = while_stays;
        exit = λ a b more h. good_exit large b ∙ more (sym (good_exit small a) ∙ h);
        continue = λ a b more h. good_continue large b ∙ more (sym (good_continue small a) ∙ h);
        return = λ a b more h. good_return large b;
      }

  pub still_typed : (xs : List Stmt) (a b : Bool) → (a ≡ true → b ≡ true) → are_well_typed small a xs ≡ true → are_well_typed large b xs ≡ true
  still_typed xs = body_stays xs (every_body Stays steps xs)
