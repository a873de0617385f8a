-- No statement leaves more units of work than there were, where no call does.
use Rattle.std.proofs.Common.{◌≡◌, ℕ, zero, suc, ◌≤◌, Bool, true, false, if◌then◌else◌, ℤ, List, [], ◌∷◌, map, Result, Ok, Err, sym, subst, arith}
use Rattle.std.specs.List.{list_any}
use Rattle.std.specs.Ordering.{int_eq}
use Rattle.s7_base.specs.declared.outcome.Fault.{Fault}
use Rattle.st_tree.specs.Meaning.{Calls, Continues, Exits, Faults, NoUnits, Normal, Out, Returns, Sem, after_body, area_assignment, arm_meaning, assignment, body_meaning, case_meaning, first_true, first_with, meaning, state_or_fault, then_do, turns, with_value}
use Rattle.st_tree.specs.State.{State}
use Rattle.st_tree.specs.Value.{Worth, value}
use Rattle.st_tree.specs.Values.{is_set}
use Rattle.st_tree.specs.declared.expr.Var.{Var}
use Rattle.st_tree.specs.declared.program.Arm.{Arm}
use Rattle.st_tree.specs.declared.program.CaseArm.{CaseArm}
use Rattle.st_tree.specs.declared.program.Located.{Located}
use Rattle.st_tree.specs.declared.program.Stmt.{Stmt}
use Rattle.st_tree.specs.declared.state.Value.{Value}
use Rattle.st_tree.proofs.Equations.{meaning_area_write, meaning_arm, meaning_assign, meaning_case, meaning_case_arm, meaning_continue, meaning_exit, meaning_if, meaning_invoke, meaning_return, meaning_while}
use Rattle.st_tree.proofs.Induction.{Each, InArm, InCase, StmtSteps, every_body}

-- so many units or fewer are left
abbrev pub Left : ℕ → Out → Type 0
Left u (Normal v s) = v ≤ u
Left u (Exits v s) = v ≤ u
Left u (Continues v s) = v ≤ u
Left u (Returns v s) = v ≤ u
Left u (Faults f s) = Unit {0}
Left u (NoUnits s) = Unit {0}

pub weaker : (u v : ℕ) → u ≤ v → (o : Out) → Left u o → Left v o
weaker u v h (Faults f s) l = tt
weaker u v h (NoUnits s) l = tt
weaker u v h o l = omega (arith, l)

-- what is done with some units
abbrev Leaves : Sem → Type 0
Leaves f = (u : ℕ) (s : State) → Left u (f u s)

pub then_left : (u : ℕ) (o : Out) (f : Sem) → Leaves f → Left u o → Left u (then_do o f)
then_left u (Normal v s) f h l = weaker v u l (f v s) (h v s)
then_left u o f h l = l

body_left : (u : ℕ) (o : Out) (f : Sem) → Leaves f → Left u o → Left u (after_body o f)
body_left u (Normal v s) f h l = weaker v u l (f v s) (h v s)
body_left u (Continues v s) f h l = weaker v u l (f v s) (h v s)
body_left u o f h l = l

changed_left : (r : Result State Fault) (u : ℕ) (s : State) → Left u (state_or_fault r u s)
changed_left (Ok new) u s = omega arith
changed_left (Err f) u s = tt

picked_left : (b : Bool) (u : ℕ) (o p : Out) → Left u o → Left u p → Left u (if b then o else p)
picked_left true u o p l k = l
picked_left false u o p l k = k

valued_left : (r : Result Value Fault) (u v : ℕ) (s : State) (f : Value → Out) → ((x : Value) → Left u (f x)) → Left u (with_value r v s f)
valued_left (Ok x) u v s f h = h x
valued_left (Err x) u v s f h = tt

turns_left : (most : ℕ) (test : Worth) (f : Sem) → Leaves f → Leaves (turns most test f)
turns_left zero test f h u s = tt
turns_left (suc most) test f h zero s = tt
turns_left (suc most) test f h (suc u) s =
    valued_left (test s) (suc u) u s _ (λ x.
    picked_left (is_set x) (suc u) (after_body (f u s) (turns most test f)) (Normal u s)
    (body_left (suc u) (f u s) (turns most test f) (turns_left most test f h) (weaker u (suc u) (omega arith) (f u s) (h u s))) (omega arith))

-- calls leave no more units than there were
abbrev pub CallsLeave : Calls → Type 0
CallsLeave c = (n : ℕ) (vars : List Var) → Leaves (c n vars)

module _ (g : List Located) (c : Calls) (calls : CallsLeave c) where
  abbrev P : Stmt → Type 0
  P x = Leaves (meaning g c x)

  list_left : (xs : List Stmt) → Each P xs → Leaves (body_meaning g c xs)
  list_left [] each u s = omega arith
  list_left (x ∷ xs) each u s = then_left u (meaning g c x u s) (body_meaning g c xs) (list_left xs each.1) (each.0 u s)

  arms_left : (arms : List Arm) → Each (InArm P) arms → (f : Sem) → Leaves f → Leaves (first_true (map (arm_meaning g c) arms) f)
  arms_left [] each f h u s = h u s
  arms_left (x ∷ xs) each f h u s =
      rw (meaning_arm g c x)
      (valued_left (value g x.test s) u u s _ (λ v.
      picked_left (is_set v) u (body_meaning g c x.body u s) (first_true (map (arm_meaning g c) xs) f u s) (list_left x.body each.0 u s)
      (arms_left xs each.1 f h u s)))

  cases_left : (n : ℤ) (arms : List CaseArm) → Each (InCase P) arms → (f : Sem) → Leaves f → Leaves (first_with n (map (case_meaning g c) arms) f)
  cases_left n [] each f h u s = h u s
  cases_left n (x ∷ xs) each f h u s =
      rw (meaning_case_arm g c x)
      (picked_left (list_any (λ label. int_eq label n) x.labels) u (body_meaning g c x.body u s) (first_with n (map (case_meaning g c) xs) f u s)
      (list_left x.body each.0 u s) (cases_left n xs each.1 f h u s))

  same_left : (u : ℕ) (o p : Out) → o ≡ p → Left u p → Left u o
  same_left u o p e l = subst (Left u) (sym e) l

  steps : StmtSteps P
  steps =
      record {
        assign = λ v e u s. same_left u _ _ (meaning_assign g c u s v e) (changed_left (assignment g v e s) u s);
        area_write = λ w p e u s. same_left u _ _ (meaning_area_write g c u s w p e) (changed_left (area_assignment g w p e s) u s);
        invoke = λ n vars u s. same_left u _ _ (meaning_invoke g c u s n vars) (calls n vars u s);
        choice = λ arms other each rest u s.
            same_left u _ _ (meaning_if g c u s arms other) (arms_left arms each (body_meaning g c other) (list_left other rest) u s);
        selection = λ e arms other each rest u s.
            same_left u _ _ (meaning_case g c u s e arms other)
            (valued_left (value g e s) u u s _ (λ v. cases_left v.n arms each (body_meaning g c other) (list_left other rest) u s));
        loop = λ test body each u s.
            same_left u _ _ (meaning_while g c u s test body) (turns_left u (value g test) (body_meaning g c body) (list_left body each) u s);
        exit = λ u s. same_left u _ _ (meaning_exit g c u s) (omega arith);
        continue = λ u s. same_left u _ _ (meaning_continue g c u s) (omega arith);
        return = λ u s. same_left u _ _ (meaning_return g c u s) (omega arith);
      }

  pub statements_left : (body : List Stmt) (u : ℕ) (s : State) → Left u (body_meaning g c body u s)
  statements_left body = list_left body (every_body P steps body)
