-- What is made of well typed statements is well typed.
use Rattle.std.proofs.Common.{◌≡◌, ℕ, ◌-◌, Bool, true, false, ◌&&◌, if◌then◌else◌, List, [], ◌∷◌, ◌++◌, map, Option, Some, None, refl, sym, ap, ◌∙◌, subst}
use Rattle.std.specs.List.{list_all}
use Rattle.std.proofs.lemmas.Bool.{and_parts}
use Rattle.condition_laws.specs.inner.Negation.{negation, negation_between, negation_step, opposite}
use Rattle.condition_laws.specs.inner.Rewriting.{otherwise}
use Rattle.condition_laws.proofs.Heights.{rolled}
use Rattle.condition_laws.proofs.Rewrites.{Rules, arms_with, bodies, cases_with, handed_on}
use Rattle.st_tree.proofs.Induction.{Each}
use Rattle.st_tree.proofs.TypedParts.{parts_of_arm, parts_of_arms, parts_of_body, parts_of_if, parts_of_while}
use Rattle.st_tree.proofs.TypingEquations.{good_arm, good_case, good_case_arm, good_if, good_while, typed_binary, typed_unary}
use Rattle.st_tree.specs.TypeRules.{is_selector, is_type, type_of_binary, type_of_unary, type_on_equals}
use Rattle.st_tree.specs.WellTyped.{UnitScope, are_cases, are_well_typed, each, each_case, expression_type, has_type, is_arm, is_case_arm, is_some_of, is_value, is_well_typed, on_type}
use Rattle.st_tree.specs.declared.expr.BinaryOp.{BinaryOp}
use Rattle.st_tree.specs.declared.expr.BinaryOp.TheVariants as binary
use Rattle.st_tree.specs.declared.expr.Expr.{Expr, out-Expr}
use Rattle.st_tree.specs.declared.expr.Expr.TheOpen as E
use Rattle.st_tree.specs.declared.expr.Expr.TheVariants as expr
use Rattle.st_tree.specs.declared.expr.StType.{StType}
use Rattle.st_tree.specs.declared.expr.StType.TheVariants as type
use Rattle.st_tree.specs.declared.expr.UnaryOp.TheVariants as unary
use Rattle.st_tree.specs.declared.program.Arm.{Arm}
use Rattle.st_tree.specs.declared.program.CaseArm.{CaseArm}
use Rattle.st_tree.specs.declared.program.Stmt.{Stmt}
use Rattle.st_tree.specs.declared.program.Stmt.TheVariants as stmt

pub both_hold : (a b : Bool) → a ≡ true → b ≡ true → (a && b) ≡ true
both_hold true true h k = refl
both_hold a b h k = cc

-- Tests

-- the operand of NOT has its type
operand_typed : (o : Option StType) → has_type type.Bool (on_type o (type_of_unary unary.Not)) ≡ true → o ≡ Some type.Bool
operand_typed None h = cc
operand_typed (Some type.Bool) h = refl
operand_typed (Some ty) h = cc

not_typed : (o : Option StType) → has_type type.Bool o ≡ true → has_type type.Bool (on_type o (type_of_unary unary.Not)) ≡ true
not_typed None h = cc
not_typed (Some type.Bool) h = refl
not_typed (Some ty) h = cc

-- an operator gives a BOOL, of operands of a type
abbrev is_bool : StType → Option BinaryOp → Bool
is_bool s None = false
is_bool s (Some op) = has_type type.Bool (type_on_equals op s)

-- a comparison of operands that have one type is a BOOL
compared : (op other : BinaryOp) (a b : Option StType) → opposite op ≡ Some other
    → has_type type.Bool (on_type a (λ ty. on_type b (type_of_binary op ty))) ≡ true
    → has_type type.Bool (on_type a (λ ty. on_type b (type_of_binary other ty))) ≡ true
compared op other None b e h = cc
compared op other (Some s) None e h = cc
compared op other (Some s) (Some t) e h = by op e (is_type s t) h
  where
    by : (op : BinaryOp) → opposite op ≡ Some other → (u : Bool)
        → has_type type.Bool (if u then type_on_equals op s else None) ≡ true
        → has_type type.Bool (if u then type_on_equals other s else None) ≡ true
    by binary.Lt e true h = subst (λ (o : Option BinaryOp). is_bool s o ≡ true) e refl
    by binary.Gt e true h = subst (λ (o : Option BinaryOp). is_bool s o ≡ true) e refl
    by binary.Le e true h = subst (λ (o : Option BinaryOp). is_bool s o ≡ true) e refl
    by binary.Ge e true h = subst (λ (o : Option BinaryOp). is_bool s o ≡ true) e refl
    by binary.Eq e true h = subst (λ (o : Option BinaryOp). is_bool s o ≡ true) e refl
    by binary.Ne e true h = subst (λ (o : Option BinaryOp). is_bool s o ≡ true) e refl
    by op e u h = cc

module _ (sight : UnitScope) where
  abbrev IsTest : Expr → Type 0
  IsTest e = has_type type.Bool (expression_type sight e) ≡ true

  after_not : (e : Expr) → IsTest e → IsTest (expr.Unary unary.Not e)
  after_not e h = rw (typed_unary sight unary.Not e) (not_typed (expression_type sight e) h)

  pub under_not : (e a : Expr) → e ≡ expr.Unary unary.Not a → IsTest e → expression_type sight a ≡ Some type.Bool
  under_not e a same h =
      operand_typed (expression_type sight a)
      (subst (λ (o : Option StType). has_type type.Bool o ≡ true) (ap (expression_type sight) same ∙ typed_unary sight unary.Not a) h)

  between_typed : (o : Option BinaryOp) (op : BinaryOp) (e a b : Expr) → opposite op ≡ o → e ≡ expr.Binary op a b → IsTest e
      → IsTest (negation_between o e a b)
  between_typed None op e a b is same h = after_not e h
  between_typed (Some other) op e a b is same h =
      rw (typed_binary sight other a b)
      (compared op other (expression_type sight a) (expression_type sight b) is
      (subst (λ (o : Option StType). has_type type.Bool o ≡ true) (ap (expression_type sight) same ∙ typed_binary sight op a b) h))

  pub negation_typed : (e : Expr) → IsTest e → IsTest (negation e)
  negation_typed e h = by (out-Expr e) refl
    where
      by : (y : E.Expr-F Expr) → out-Expr e ≡ y → IsTest (negation_step e y)
      by (E.Unary unary.Not a) is = rw (under_not e a (rolled e (E.Unary unary.Not a) is ∙ expr.rolls-Unary unary.Not a) h) refl
      by (E.Binary op a b) is = between_typed (opposite op) op e a b refl (rolled e (E.Binary op a b) is ∙ expr.rolls-Binary op a b) h
      by y is = after_not e h

  -- Statements

  abbrev pub Typed : ℕ → List Stmt → List Stmt → Type 0
  Typed room xs ys = (inside : Bool) → are_well_typed sight inside xs ≡ true → are_well_typed sight inside ys ≡ true

  one : (x : Stmt) (inside : Bool) → is_well_typed sight x inside ≡ true → are_well_typed sight inside (x ∷ []) ≡ true
  one x inside h = both_hold (is_well_typed sight x inside) true h refl

  the_one : (x : Stmt) (inside : Bool) → are_well_typed sight inside (x ∷ []) ≡ true → is_well_typed sight x inside ≡ true
  the_one x inside h = (parts_of_body sight inside x [] h).0

  pub append_typed : (xs ys : List Stmt) (inside : Bool) → are_well_typed sight inside xs ≡ true
      → are_well_typed sight inside ys ≡ true → are_well_typed sight inside (xs ++ ys) ≡ true
  append_typed [] ys inside h k = k
  append_typed (x ∷ xs) ys inside h k =
      let parts = parts_of_body sight inside x xs h in
      both_hold (is_well_typed sight x inside) (are_well_typed sight inside (xs ++ ys)) parts.0 (append_typed xs ys inside parts.1 k)

  -- Arms of an IF

  abbrev AreArms : Bool → List Arm → Type 0
  AreArms inside arms = each inside (map (is_arm sight) arms) ≡ true

  arm_typed : (inside : Bool) (arm : Arm) → IsTest arm.test → are_well_typed sight inside arm.body ≡ true
      → is_arm sight arm inside ≡ true
  arm_typed inside arm test body =
      good_arm sight inside arm ∙ both_hold (has_type type.Bool (expression_type sight arm.test)) (are_well_typed sight inside arm.body) test body

  arms_typed : (room : ℕ) (inside : Bool) (g : List Stmt → List Stmt) (arms : List Arm)
      → Each (λ (arm : Arm). Typed room arm.body (g arm.body)) arms → AreArms inside arms
      → AreArms inside (arms_with g arms)
  arms_typed room inside g [] all h = refl
  arms_typed room inside g (x ∷ xs) all h =
      let parts = parts_of_arms sight inside x xs h in
      let own = parts_of_arm sight inside x parts.0 in
      both_hold (is_arm sight (record { test = x.test; body = g x.body }) inside)
      (each inside (map (is_arm sight) (arms_with g xs)))
      (arm_typed inside (record { test = x.test; body = g x.body }) own.0 (all.0 inside own.1))
      (arms_typed room inside g xs all.1 parts.1)

  arms_append : (inside : Bool) (xs ys : List Arm) → AreArms inside xs → AreArms inside ys → AreArms inside (xs ++ ys)
  arms_append inside [] ys h k = k
  arms_append inside (x ∷ xs) ys h k =
      let parts = parts_of_arms sight inside x xs h in
      both_hold (is_arm sight x inside) (each inside (map (is_arm sight) (xs ++ ys))) parts.0 (arms_append inside xs ys parts.1 k)

  -- an IF by its arms, of which there is one
  abbrev pub HasArms : List Arm → Type 0
  HasArms arms = is_some_of arms ≡ true

  some_checks : (arms : List Arm) → is_some_of (map (is_arm sight) arms) ≡ is_some_of arms
  some_checks [] = refl
  some_checks (x ∷ xs) = refl

  if_typed : (inside : Bool) (arms : List Arm) (other : List Stmt) → HasArms arms → AreArms inside arms
      → are_well_typed sight inside other ≡ true → is_well_typed sight (stmt.If arms other) inside ≡ true
  if_typed inside arms other some h k =
      good_if sight inside arms other
      ∙ both_hold (is_some_of (map (is_arm sight) arms) && each inside (map (is_arm sight) arms)) (are_well_typed sight inside other)
      (both_hold (is_some_of (map (is_arm sight) arms)) (each inside (map (is_arm sight) arms)) (some_checks arms ∙ some) h) k

  some_arms : (inside : Bool) (arms : List Arm) (other : List Stmt) → is_well_typed sight (stmt.If arms other) inside ≡ true
      → HasArms arms
  some_arms inside arms other h =
      sym (some_checks arms)
      ∙ (and_parts (is_some_of (map (is_arm sight) arms)) (each inside (map (is_arm sight) arms))
      (and_parts (is_some_of (map (is_arm sight) arms) && each inside (map (is_arm sight) arms)) (are_well_typed sight inside other)
      (sym (good_if sight inside arms other) ∙ h)).0).0

  some_with : (g : List Stmt → List Stmt) (arms : List Arm) → HasArms arms → HasArms (arms_with g arms)
  some_with g [] h = h
  some_with g (x ∷ xs) h = refl

  some_append : (xs ys : List Arm) → HasArms xs → HasArms (xs ++ ys)
  some_append [] ys h = cc
  some_append (x ∷ xs) ys h = refl

  while_typed : (inside : Bool) (test : Expr) (body : List Stmt) → IsTest test → are_well_typed sight true body ≡ true
      → are_well_typed sight inside (stmt.While test body ∷ []) ≡ true
  while_typed inside test body h k =
      one (stmt.While test body) inside
      (good_while sight inside test body ∙ both_hold (has_type type.Bool (expression_type sight test)) (are_well_typed sight true body) h k)

  -- Arms of a CASE

  cases_typed : (room : ℕ) (inside : Bool) (ty : StType) (g : List Stmt → List Stmt) (arms : List CaseArm)
      → Each (λ (arm : CaseArm). Typed room arm.body (g arm.body)) arms
      → each_case ty inside (map (is_case_arm sight) arms) ≡ true
      → each_case ty inside (map (is_case_arm sight) (cases_with g arms)) ≡ true
  cases_typed room inside ty g [] all h = refl
  cases_typed room inside ty g (x ∷ xs) all h =
      let parts = and_parts (is_case_arm sight x ty inside) (each_case ty inside (map (is_case_arm sight) xs)) h in
      let own = and_parts (is_some_of x.labels && list_all (is_value ty) x.labels) (are_well_typed sight inside x.body)
      (sym (good_case_arm sight inside x ty) ∙ parts.0) in
      both_hold (is_case_arm sight (record { labels = x.labels; body = g x.body }) ty inside)
      (each_case ty inside (map (is_case_arm sight) (cases_with g xs)))
      (good_case_arm sight inside (record { labels = x.labels; body = g x.body }) ty
      ∙ both_hold (is_some_of x.labels && list_all (is_value ty) x.labels) (are_well_typed sight inside (g x.body)) own.0 (all.0 inside own.1))
      (cases_typed room inside ty g xs all.1 parts.1)

  some_cases : (g : List Stmt → List Stmt) (arms : List CaseArm)
      → is_some_of (map (is_case_arm sight) arms) ≡ is_some_of (map (is_case_arm sight) (cases_with g arms))
  some_cases g [] = refl
  some_cases g (x ∷ xs) = refl

  are_cases_with : (room : ℕ) (inside : Bool) (o : Option StType) (g : List Stmt → List Stmt) (arms : List CaseArm)
      → Each (λ (arm : CaseArm). Typed room arm.body (g arm.body)) arms
      → are_cases o inside (map (is_case_arm sight) arms) ≡ true
      → are_cases o inside (map (is_case_arm sight) (cases_with g arms)) ≡ true
  are_cases_with room inside None g arms all h = cc
  are_cases_with room inside (Some ty) g arms all h =
      let parts = and_parts (is_selector ty && is_some_of (map (is_case_arm sight) arms)) (each_case ty inside (map (is_case_arm sight) arms)) h in
      both_hold (is_selector ty && is_some_of (map (is_case_arm sight) (cases_with g arms)))
      (each_case ty inside (map (is_case_arm sight) (cases_with g arms)))
      (subst (λ (b : Bool). (is_selector ty && b) ≡ true) (some_cases g arms) parts.0)
      (cases_typed room inside ty g arms all parts.1)

  -- The rules

  -- of a loop whose first statement is an IF
  pub loop_parts : (inside : Bool) (always : Expr) (arm : Arm) (more : List Arm) (other rest : List Stmt)
      → are_well_typed sight inside (stmt.While always (stmt.If (arm ∷ more) other ∷ rest) ∷ []) ≡ true
      → IsTest arm.test × (are_well_typed sight true arm.body ≡ true) × AreArms true more
      × (are_well_typed sight true other ≡ true) × (are_well_typed sight true rest ≡ true)
  loop_parts inside always arm more other rest h =
      let body = (parts_of_while sight inside always (stmt.If (arm ∷ more) other ∷ rest) (the_one _ inside h)).1 in
      let parts = parts_of_body sight true (stmt.If (arm ∷ more) other) rest body in
      let choice = parts_of_if sight true (arm ∷ more) other parts.0 in
      let arms = parts_of_arms sight true arm more choice.0 in
      let own = parts_of_arm sight true arm arms.0 in
      (own.0, own.1, arms.1, choice.1, parts.1)

  otherwise_typed : (more : List Arm) (other : List Stmt) → AreArms true more → are_well_typed sight true other ≡ true
      → are_well_typed sight true (otherwise more other) ≡ true
  otherwise_typed [] other h k = k
  otherwise_typed (x ∷ xs) other h k =
      one (stmt.If (x ∷ xs) other) true (if_typed true (x ∷ xs) other refl h k)

  pub typed_rules : Rules Typed
  typed_rules =
      record {
        assign = λ room v e inside h. h;
        area_write = λ room w p e inside h. h;
        invoke = λ room n vars inside h. h;
        exit = λ room inside h. h;
        continue = λ room inside h. h;
        return = λ room inside h. h;
        none = λ room inside h. h;
        more = λ room x y xs ys h k inside good.
            let parts = parts_of_body sight inside x xs good in
            both_hold (is_well_typed sight y inside) (are_well_typed sight inside ys)
            (the_one y inside (h inside (one x inside parts.0))) (k inside parts.1);
        choice = λ room g arms other all rest inside good.
            let it = the_one (stmt.If arms other) inside good in
            let parts = parts_of_if sight inside arms other it in
            one (stmt.If (arms_with g arms) (g other)) inside
            (if_typed inside (arms_with g arms) (g other) (some_with g arms (some_arms inside arms other it))
            (arms_typed (room - 1) inside g arms all parts.0) (rest inside parts.1));
        selection = λ room g e arms other all rest inside good.
            let parts = and_parts (are_cases (expression_type sight e) inside (map (is_case_arm sight) arms)) (are_well_typed sight inside other)
            (sym (good_case sight inside e arms other) ∙ the_one (stmt.Case e arms other) inside good) in
            one (stmt.Case e (cases_with g arms) (g other)) inside
            (good_case sight inside e (cases_with g arms) (g other)
            ∙ both_hold (are_cases (expression_type sight e) inside (map (is_case_arm sight) (cases_with g arms)))
            (are_well_typed sight inside (g other))
            (are_cases_with (room - 1) inside (expression_type sight e) g arms all parts.0) (rest inside parts.1));
        loop = λ room g test body h inside good.
            let parts = parts_of_while sight inside test body (the_one (stmt.While test body) inside good) in
            while_typed inside test (g body) parts.0 (h true parts.1);
        join = λ room xs arms more last h inside good.
            let it = the_one (stmt.If arms (stmt.If more last ∷ [])) inside (h inside good) in
            let parts = parts_of_if sight inside arms (stmt.If more last ∷ []) it in
            let inner = parts_of_if sight inside more last (the_one (stmt.If more last) inside parts.1) in
            one (stmt.If (arms ++ more) last) inside
            (if_typed inside (arms ++ more) last
            (some_append arms more (some_arms inside arms (stmt.If more last ∷ []) it))
            (arms_append inside arms more parts.0 inner.0) inner.1);
        lead = λ room xs always arm rest a some low h inside good.
            let parts = loop_parts inside always arm [] (stmt.Exit ∷ []) rest (h inside good) in
            while_typed inside arm.test (arm.body ++ rest) parts.0 (append_typed arm.body rest true parts.1 parts.4);
        opposite = λ room xs always arm more other rest a some low is h inside good.
            let parts = loop_parts inside always arm more other rest (h inside good) in
            while_typed inside (negation arm.test) (otherwise more other ++ rest) (negation_typed arm.test parts.0)
            (append_typed (otherwise more other) rest true (otherwise_typed more other parts.2 parts.3) parts.4);
      }

  pub stays_typed : (room : ℕ) (inside : Bool) (body : List Stmt) → are_well_typed sight inside body ≡ true
      → are_well_typed sight inside (bodies room body) ≡ true
  stays_typed room inside body = handed_on Typed typed_rules room body inside
