-- What is made of statements, by their form; and one law that hands on a relation between statements and what is made of
-- them: from what they are made of, and along each change.
use Rattle.std.proofs.Common.{◌≡◌, ℕ, ◌-◌, ◌≤◌, Bool, true, false, ◌&&◌, if◌then◌else◌, List, [], ◌∷◌, ◌++◌, map, refl, sym, ap, ◌∙◌, subst}
use Rattle.std.specs.Prelude.{nat_lt}
use Rattle.std.proofs.lemmas.Bool.{and_parts, ltb-true}
use Rattle.condition_laws.proofs.Heights.{low_is, negation_low}
use Rattle.condition_laws.specs.inner.Negation.{has_low_negation, is_low, negation}
use Rattle.condition_laws.specs.inner.Rewriting.{ArmRewrite, CaseRewrite, Rewrite, arm_step, at, case_step, choice_of, choice_step, is_always, is_empty, is_exit, is_exit_step, leads_out, leads_step, loop_of, loop_step, loop_with_test, otherwise, rewrite, rewrite_arm, rewrite_case, rewrite_step}
use Rattle.s7_base.specs.declared.word.Width.{Width}
use Rattle.st_tree.proofs.Equations.{fold_stmt}
use Rattle.st_tree.proofs.Induction.{Each, InArm, InCase, StmtSteps, every_body}
use Rattle.st_tree.specs.BodyParts.{height}
use Rattle.st_tree.specs.declared.expr.Expr.{Expr}
use Rattle.st_tree.specs.declared.expr.Var.{Var}
use Rattle.st_tree.specs.declared.program.Arm.{Arm, fold_out-Arm}
use Rattle.st_tree.specs.declared.program.CaseArm.{CaseArm, fold_out-CaseArm}
use Rattle.st_tree.specs.declared.program.Stmt.{Stmt, map-Stmt, out-Stmt, roll-Stmt, roll-out-Stmt}
use Rattle.st_tree.specs.declared.program.Stmt.TheOpen as S
use Rattle.st_tree.specs.declared.program.Stmt.TheVariants as stmt

-- Each statement

pub rewritten : {x : Stmt} (y : S.Stmt-F Stmt Arm CaseArm) → roll-Stmt y ≡ x → (room : ℕ) → rewrite x room
    ≡ rewrite_step (map-Stmt Stmt Arm CaseArm Rewrite ArmRewrite CaseRewrite rewrite rewrite_arm rewrite_case y) room
rewritten y e room =
    ap (λ (r : Rewrite). r room) (fold_stmt Rewrite ArmRewrite CaseRewrite rewrite_step arm_step case_step y e)

-- what is made of a body
abbrev pub bodies : ℕ → List Stmt → List Stmt
bodies room xs = at room (map rewrite xs)

-- arms of an IF with other statements
abbrev pub arms_with : (List Stmt → List Stmt) → List Arm → List Arm
arms_with g arms = map (λ (arm : Arm). record { test = arm.test; body = g arm.body }) arms

-- arms of a CASE with other statements
abbrev pub cases_with : (List Stmt → List Stmt) → List CaseArm → List CaseArm
cases_with g arms = map (λ (arm : CaseArm). record { labels = arm.labels; body = g arm.body }) arms

arm_at : (room : ℕ) (x : Arm) → rewrite_arm x room ≡ record { test = x.test; body = bodies room x.body }
arm_at room x =
    ap (λ (r : ArmRewrite). r room) (fold_out-Arm Rewrite ArmRewrite CaseRewrite rewrite_step arm_step case_step x)

case_at : (room : ℕ) (x : CaseArm) → rewrite_case x room ≡ record { labels = x.labels; body = bodies room x.body }
case_at room x =
    ap (λ (r : CaseRewrite). r room)
    (fold_out-CaseArm Rewrite ArmRewrite CaseRewrite rewrite_step arm_step case_step x)

arms_at : (room : ℕ) (arms : List Arm) → at room (map rewrite_arm arms) ≡ arms_with (bodies room) arms
arms_at room [] = refl
arms_at room (x ∷ xs) =
    ap (λ (arm : Arm). arm ∷ at room (map rewrite_arm xs)) (arm_at room x)
    ∙ ap (λ (arms : List Arm). record { test = x.test; body = bodies room x.body } ∷ arms) (arms_at room xs)

cases_at : (room : ℕ) (arms : List CaseArm) → at room (map rewrite_case arms) ≡ cases_with (bodies room) arms
cases_at room [] = refl
cases_at room (x ∷ xs) =
    ap (λ (arm : CaseArm). arm ∷ at room (map rewrite_case xs)) (case_at room x)
    ∙ ap (λ (arms : List CaseArm). record { labels = x.labels; body = bodies room x.body } ∷ arms) (cases_at room xs)

pub rewritten_if : (arms : List Arm) (other : List Stmt) (room : ℕ) → rewrite (stmt.If arms other) room
    ≡ choice_of (arms_with (bodies (room - 1)) arms) (bodies (room - 1) other)
rewritten_if arms other room =
    rewritten (S.If arms other) (stmt.rolls-If arms other) room
    ∙ ap (λ (new : List Arm). choice_of new (bodies (room - 1) other)) (arms_at (room - 1) arms)

pub rewritten_case : (e : Expr) (arms : List CaseArm) (other : List Stmt) (room : ℕ) → rewrite (stmt.Case e arms other) room
    ≡ stmt.Case e (cases_with (bodies (room - 1)) arms) (bodies (room - 1) other)
rewritten_case e arms other room =
    rewritten (S.Case e arms other) (stmt.rolls-Case e arms other) room
    ∙ ap (λ (new : List CaseArm). stmt.Case e new (bodies (room - 1) other)) (cases_at (room - 1) arms)

pub rewritten_while : (test : Expr) (body : List Stmt) (room : ℕ) → rewrite (stmt.While test body) room
    ≡ loop_of room test (bodies (room - 1) body)
rewritten_while test body room = rewritten (S.While test body) (stmt.rolls-While test body) room

-- What the tests of forms say

pub if_is : (x : Stmt) (arms : List Arm) (other : List Stmt) → out-Stmt x ≡ S.If arms other → x ≡ stmt.If arms other
if_is x arms other e = sym (roll-out-Stmt x) ∙ (ap roll-Stmt e ∙ stmt.rolls-If arms other)

exit_is : (x : Stmt) → is_exit_step (out-Stmt x) ≡ true → x ≡ stmt.Exit
exit_is x h = by (out-Stmt x) refl h
  where
    by : (y : S.Stmt-F Stmt Arm CaseArm) → out-Stmt x ≡ y → is_exit_step y ≡ true → x ≡ stmt.Exit
    by S.Exit e h = sym (roll-out-Stmt x) ∙ (ap roll-Stmt e ∙ stmt.rolls-Exit)
    by y e h = cc

exit_alone : (body : List Stmt) → is_exit body ≡ true → body ≡ stmt.Exit ∷ []
exit_alone [] h = cc
exit_alone (x ∷ y ∷ rest) h = cc
exit_alone (x ∷ []) h = ap (λ (z : Stmt). z ∷ []) (exit_is x h)

none_left : (arms : List Arm) → is_empty arms ≡ true → arms ≡ []
none_left [] h = refl
none_left (x ∷ xs) h = cc

-- A relation that is handed on

-- what shows a relation between statements and what is made of them with some room
pub record Rules (R : ℕ → List Stmt → List Stmt → Type 0) : Type 0 where
  pub assign : (room : ℕ) (v : Var) (e : Expr) → R room (stmt.Assign v e ∷ []) (stmt.Assign v e ∷ [])
  pub area_write : (room : ℕ) (w : Width) (p e : Expr)
      → R room (stmt.AreaWrite w p e ∷ []) (stmt.AreaWrite w p e ∷ [])
  pub invoke : (room n : ℕ) (vars : List Var) → R room (stmt.Invoke n vars ∷ []) (stmt.Invoke n vars ∷ [])
  pub exit : (room : ℕ) → R room (stmt.Exit ∷ []) (stmt.Exit ∷ [])
  pub continue : (room : ℕ) → R room (stmt.Continue ∷ []) (stmt.Continue ∷ [])
  pub return : (room : ℕ) → R room (stmt.Return ∷ []) (stmt.Return ∷ [])
  pub none : (room : ℕ) → R room [] []
  pub more : (room : ℕ) (x y : Stmt) (xs ys : List Stmt) → R room (x ∷ []) (y ∷ []) → R room xs ys
      → R room (x ∷ xs) (y ∷ ys)
  pub choice : (room : ℕ) (g : List Stmt → List Stmt) (arms : List Arm) (other : List Stmt)
      → Each (λ (arm : Arm). R (room - 1) arm.body (g arm.body)) arms → R (room - 1) other (g other)
      → R room (stmt.If arms other ∷ []) (stmt.If (arms_with g arms) (g other) ∷ [])
  pub selection : (room : ℕ) (g : List Stmt → List Stmt) (e : Expr) (arms : List CaseArm) (other : List Stmt)
      → Each (λ (arm : CaseArm). R (room - 1) arm.body (g arm.body)) arms → R (room - 1) other (g other)
      → R room (stmt.Case e arms other ∷ []) (stmt.Case e (cases_with g arms) (g other) ∷ [])
  pub loop : (room : ℕ) (g : List Stmt → List Stmt) (test : Expr) (body : List Stmt) → R (room - 1) body (g body)
      → R room (stmt.While test body ∷ []) (stmt.While test (g body) ∷ [])
  -- an ELSE that is one IF
  pub join : (room : ℕ) (xs : List Stmt) (arms more : List Arm) (last : List Stmt)
      → R room xs (stmt.If arms (stmt.If more last ∷ []) ∷ []) → R room xs (stmt.If (arms ++ more) last ∷ [])
  -- a loop that leaves by EXIT in an ELSE
  pub lead : (room : ℕ) (xs : List Stmt) (always : Expr) (arm : Arm) (rest : List Stmt) → is_always always ≡ true
      → 1 ≤ room → height arm.test ≤ 32
      → R room xs (stmt.While always (stmt.If (arm ∷ []) (stmt.Exit ∷ []) ∷ rest) ∷ [])
      → R room xs (stmt.While arm.test (arm.body ++ rest) ∷ [])
  -- a loop that leaves by EXIT in the first arm
  pub opposite : (room : ℕ) (xs : List Stmt) (always : Expr) (arm : Arm) (more : List Arm) (other rest : List Stmt)
      → is_always always ≡ true → 1 ≤ room → height (negation arm.test) ≤ 32 → arm.body ≡ stmt.Exit ∷ []
      → R room xs (stmt.While always (stmt.If (arm ∷ more) other ∷ rest) ∷ [])
      → R room xs (stmt.While (negation arm.test) (otherwise more other ++ rest) ∷ [])

module _ (R : ℕ → List Stmt → List Stmt → Type 0) (rules : Rules R) where
  abbrev P : Stmt → Type 0
  P x = (room : ℕ) → R room (x ∷ []) (rewrite x room ∷ [])

  -- a statement of which this is made
  given : (x y : Stmt) (room : ℕ) → rewrite x room ≡ y → R room (x ∷ []) (y ∷ []) → R room (x ∷ []) (rewrite x room ∷ [])
  given x y room e h = subst (λ (z : Stmt). R room (x ∷ []) (z ∷ [])) (sym e) h

  bodies_hold : (room : ℕ) (xs : List Stmt) → Each P xs → R room xs (bodies room xs)
  bodies_hold room [] all = rules.none room
  bodies_hold room (x ∷ xs) all =
      rules.more room x (rewrite x room) xs (bodies room xs) (all.0 room) (bodies_hold room xs all.1)

  arms_hold : (room : ℕ) (arms : List Arm) → Each (InArm P) arms
      → Each (λ (arm : Arm). R room arm.body (bodies room arm.body)) arms
  arms_hold room [] all = tt
  arms_hold room (x ∷ xs) all = (bodies_hold room x.body all.0, arms_hold room xs all.1)

  cases_hold : (room : ℕ) (arms : List CaseArm) → Each (InCase P) arms
      → Each (λ (arm : CaseArm). R room arm.body (bodies room arm.body)) arms
  cases_hold room [] all = tt
  cases_hold room (x ∷ xs) all = (bodies_hold room x.body all.0, cases_hold room xs all.1)

  -- Choices

  joined : (room : ℕ) (xs : List Stmt) (arms : List Arm) (other : List Stmt) → R room xs (stmt.If arms other ∷ [])
      → R room xs (choice_of arms other ∷ [])
  joined room xs arms [] h = h
  joined room xs arms (x ∷ z ∷ rest) h = h
  joined room xs arms (x ∷ []) h = by (out-Stmt x) refl
    where
      by : (y : S.Stmt-F Stmt Arm CaseArm) → out-Stmt x ≡ y → R room xs (choice_step arms x y ∷ [])
      by (S.If more last) e =
          rules.join room xs arms more last
          (subst (λ (z : Stmt). R room xs (stmt.If arms (z ∷ []) ∷ [])) (if_is x more last e) h)
      by y e = h

  -- Loops

  by_arm : (room : ℕ) (xs : List Stmt) (always : Expr) (arm : Arm) (more : List Arm) (other rest : List Stmt)
      → is_always always ≡ true → 1 ≤ room → (t : Bool) → is_exit arm.body ≡ t
      → (if t then has_low_negation arm.test else is_empty more && is_exit other && is_low arm.test 32) ≡ true
      → R room xs (stmt.While always (stmt.If (arm ∷ more) other ∷ rest) ∷ [])
      → R room xs ((if t then stmt.While (negation arm.test) (otherwise more other ++ rest)
      else stmt.While arm.test (arm.body ++ rest)) ∷ [])
  by_arm room xs always arm more other rest a some true e low h =
      rules.opposite room xs always arm more other rest a some (negation_low arm.test low) (exit_alone arm.body e) h
  by_arm room xs always arm more other rest a some false e low h =
      let parts = and_parts (is_empty more && is_exit other) (is_low arm.test 32) low in
      let first = and_parts (is_empty more) (is_exit other) parts.0 in
      rules.lead room xs always arm rest a some (low_is arm.test 32 parts.1)
      (subst (λ (ys : List Stmt). R room xs (stmt.While always (stmt.If (arm ∷ []) ys ∷ rest) ∷ []))
      (exit_alone other first.1)
      (subst (λ (arms : List Arm). R room xs (stmt.While always (stmt.If (arm ∷ arms) other ∷ rest) ∷ []))
      (none_left more first.0) h))

  by_layer : (room : ℕ) (xs : List Stmt) (always : Expr) (y : S.Stmt-F Stmt Arm CaseArm) (x : Stmt) (rest : List Stmt)
      → out-Stmt x ≡ y → is_always always ≡ true → 1 ≤ room → leads_step y ≡ true
      → R room xs (stmt.While always (x ∷ rest) ∷ []) → R room xs (loop_step y rest ∷ [])
  by_layer room xs always (S.If [] other) x rest e a some leads h = cc
  by_layer room xs always (S.If (arm ∷ more) other) x rest e a some leads h =
      by_arm room xs always arm more other rest a some (is_exit arm.body) refl leads
      (subst (λ (z : Stmt). R room xs (stmt.While always (z ∷ rest) ∷ [])) (if_is x (arm ∷ more) other e) h)
  by_layer room xs always y x rest e a some leads h = cc

  led : (room : ℕ) (xs : List Stmt) (always : Expr) (body : List Stmt) → is_always always ≡ true → 1 ≤ room
      → leads_out body ≡ true → R room xs (stmt.While always body ∷ []) → R room xs (loop_with_test body ∷ [])
  led room xs always [] a some leads h = cc
  led room xs always (x ∷ rest) a some leads h =
      by_layer room xs always (out-Stmt x) x rest refl a some leads h

  looped : (room : ℕ) (xs : List Stmt) (test : Expr) (body : List Stmt) → R room xs (stmt.While test body ∷ [])
      → R room xs (loop_of room test body ∷ [])
  looped room xs test body h = by (nat_lt 0 room && is_always test && leads_out body) refl
    where
      by : (t : Bool) → (nat_lt 0 room && is_always test && leads_out body) ≡ t
          → R room xs ((if t then loop_with_test body else stmt.While test body) ∷ [])
      by true e =
          let parts = and_parts (nat_lt 0 room && is_always test) (leads_out body) e in
          let first = and_parts (nat_lt 0 room) (is_always test) parts.0 in
          led room xs test body first.1 (ltb-true 0 room first.0) parts.1 h
      by false e = h

  -- Each statement

  steps : StmtSteps P
  steps =
      record {
        assign = λ v e room. given _ _ room (rewritten (S.Assign v e) (stmt.rolls-Assign v e) room) (rules.assign room v e);
        area_write = λ w p e room.
            given _ _ room (rewritten (S.AreaWrite w p e) (stmt.rolls-AreaWrite w p e) room) (rules.area_write room w p e);
        invoke = λ n vars room. given _ _ room (rewritten (S.Invoke n vars) (stmt.rolls-Invoke n vars) room) (rules.invoke room n vars);
        choice = λ arms other all rest room.
            given _ _ room (rewritten_if arms other room)
            (joined room (stmt.If arms other ∷ []) (arms_with (bodies (room - 1)) arms) (bodies (room - 1) other)
            (rules.choice room (bodies (room - 1)) arms other (arms_hold (room - 1) arms all)
            (bodies_hold (room - 1) other rest)));
        selection = λ e arms other all rest room.
            given _ _ room (rewritten_case e arms other room)
            (rules.selection room (bodies (room - 1)) e arms other (cases_hold (room - 1) arms all)
            (bodies_hold (room - 1) other rest));
        loop = λ test body all room.
            given _ _ room (rewritten_while test body room)
            (looped room (stmt.While test body ∷ []) test (bodies (room - 1) body)
            (rules.loop room (bodies (room - 1)) test body (bodies_hold (room - 1) body all)));
        exit = λ room. given _ _ room (rewritten S.Exit stmt.rolls-Exit room) (rules.exit room);
        continue = λ room. given _ _ room (rewritten S.Continue stmt.rolls-Continue room) (rules.continue room);
        return = λ room. given _ _ room (rewritten S.Return stmt.rolls-Return room) (rules.return room);
      }

  -- a body, and what is made of it
  pub handed_on : (room : ℕ) (xs : List Stmt) → R room xs (bodies room xs)
  handed_on room xs = bodies_hold room xs (every_body P steps xs)
