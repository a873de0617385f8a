-- The steps of a node come to their end, have a fault or lack units of work: no EXIT, CONTINUE or RETURN ends them.
use Rattle.std.proofs.Common.{ℕ, Bool, true, false, if◌then◌else◌, List, [], ◌∷◌, Result, Ok, Err, sym, ap, ◌∙◌, subst}
use Rattle.std.specs.Prelude.{All}
use Rattle.std.proofs.lemmas.List.Elements.{All-head, All-tail}
use Rattle.s7_base.specs.declared.outcome.Fault.{Fault}
use Rattle.s7_base.specs.declared.word.Width.{Width}
use Rattle.st_tree.specs.Calls.{after_unit}
use Rattle.st_tree.specs.Meaning.{Calls, Faults, Guarded, NoUnits, Normal, Out, Sem, area_assignment, assignment, body_meaning, first_true, in_order, meaning, state_or_fault, then_do, with_value}
use Rattle.st_tree.specs.State.{State}
use Rattle.st_tree.specs.Value.{value}
use Rattle.st_tree.specs.Values.{is_set}
use Rattle.st_tree.specs.declared.expr.Expr.{Expr}
use Rattle.st_tree.specs.declared.expr.Var.{Var}
use Rattle.st_tree.specs.declared.program.Arm.{Arm}
use Rattle.st_tree.specs.declared.program.Located.{Located}
use Rattle.st_tree.specs.declared.program.Stmt.{Stmt}
use Rattle.st_tree.specs.declared.program.Stmt.TheVariants as stmt
use Rattle.st_tree.specs.declared.state.Value.{Value}
use Rattle.st_tree.proofs.Equations.{meaning_area_write, meaning_arm, meaning_assign, meaning_if, meaning_invoke}
use Rattle.graph_rules.specs.Plain.{AreSteps, IsGuarded}
use Rattle.region_laws.proofs.Steps.{each_guarded, each_step}

-- statements are not ended by EXIT, CONTINUE or RETURN
abbrev pub IsStraight : Out → Type 0
IsStraight (Normal u s) = Unit {0}
IsStraight (Faults f s) = Unit {0}
IsStraight (NoUnits s) = Unit {0}
IsStraight o = ⊥

-- so behind a unit
pub after_straight : (o : Out) → IsStraight (after_unit o)
after_straight (Normal u s) = tt
after_straight o = tt

then_straight : (o : Out) (f : Sem) → IsStraight o → ((u : ℕ) (s : State) → IsStraight (f u s)) → IsStraight (then_do o f)
then_straight (Normal u s) f k h = h u s
then_straight o f k h = k

module _ (g : List Located) (c : Calls) (calls : (n : ℕ) (vars : List Var) (u : ℕ) (s : State) → IsStraight (c n vars u s)) where
  abbrev P : Stmt → Type 0
  P x = (u : ℕ) (s : State) → IsStraight (meaning g c x u s)

  changed : (r : Result State Fault) (u : ℕ) (s : State) → IsStraight (state_or_fault r u s)
  changed (Ok new) u s = tt
  changed (Err f) u s = tt

  assigns : (v : Var) (e : Expr) → P (stmt.Assign v e)
  assigns v e u s = rw (meaning_assign g c u s v e) (changed (assignment g v e s) u s)

  writes : (w : Width) (p e : Expr) → P (stmt.AreaWrite w p e)
  writes w p e u s = rw (meaning_area_write g c u s w p e) (changed (area_assignment g w p e s) u s)

  invokes : (n : ℕ) (vars : List Var) → P (stmt.Invoke n vars)
  invokes n vars u s = rw (meaning_invoke g c u s n vars) (calls n vars u s)

  all_straight : (xs : List Stmt) → All P xs → (u : ℕ) (s : State) → IsStraight (body_meaning g c xs u s)
  all_straight [] all u s = tt
  all_straight (x ∷ xs) all u s =
      then_straight (meaning g c x u s) (body_meaning g c xs) (All-head P x xs all u s) (all_straight xs (All-tail P x xs all))

  tested : (b : Bool) (o : Out) (u : ℕ) (s : State) → IsStraight o → IsStraight (if b then o else Normal u s)
  tested true o u s k = k
  tested false o u s k = tt

  valued : (r : Result Value Fault) (body : List Stmt) (u : ℕ) (s : State) → IsStraight (body_meaning g c body u s)
      → IsStraight (with_value r u s (λ v. if is_set v then body_meaning g c body u s else Normal u s))
  valued (Ok v) body u s k = tested (is_set v) (body_meaning g c body u s) u s k
  valued (Err f) body u s k = tt

  guards : (arm : Arm) → IsGuarded arm.body → P (stmt.If (arm ∷ []) [])
  guards arm h u s =
      subst IsStraight
      (sym (meaning_if g c u s (arm ∷ []) [] ∙ ap (λ (x : Guarded). first_true (x ∷ []) (in_order []) u s) (meaning_arm g c arm)))
      (valued (value g arm.test s) arm.body u s (all_straight arm.body (each_guarded P assigns invokes arm.body h) u s))

  pub steps_straight : (steps : List Stmt) → AreSteps steps → (u : ℕ) (s : State) → IsStraight (body_meaning g c steps u s)
  steps_straight steps h = all_straight steps (each_step P assigns invokes writes guards steps h)
