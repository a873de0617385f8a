-- A proper tree can be run.
use Rattle.st_tree.proofs.Common.{◌≡◌, ℕ, suc, ◌≤◌, ◌==◌, Bool, true, false, not, ◌&&◌, if◌then◌else◌, List, [], ◌∷◌, length, map, slice_get, All, Option, Some, None, option_map, refl, sym, ap, ◌∙◌, subst, arith, and_parts, All-head, All-tail, slice_get-map, IsActivation, Area, Width, greatest, arm_nesting, body_nesting, case_nesting, nesting, IsGlobal, IsProperUnit, Proper, width_at, Head, UnitScope, are_given, are_well_typed, each, each_case, has_type, head_of, is_arm, is_call, is_case_arm, is_seen, is_well_typed, unit_scope_in, variable_type}
use Rattle.std.proofs.Common.{eq-eqb}
use Rattle.memory_areas.specs.declared.place.Area.TheVariants as place
use Rattle.st_runner.proofs.Common.{Costs, arm_most, body_most, case_most, most, AreGlobals, IsRunnable, formals_of_unit, misfit_costs, nesting_costs, StType, Var, Arm, CaseArm, Local, Located, Pou, StProgram, Stmt}
use Rattle.st_tree.specs.PlaceRules.{is_located}
use Rattle.st_runner.specs.inner.Runnable.{misfit}
use Rattle.st_tree.specs.declared.program.Stmt.TheOpen as S
use Rattle.st_tree.specs.declared.program.Stmt.TheVariants as stmt
use Rattle.st_runner.proofs.Costs.{most_arm, most_case_arm, most_stmt}
use Rattle.st_tree.proofs.FittingCalls.{at_position}
use Rattle.st_tree.proofs.Induction.{Each, InArm, InCase, StmtSteps, every_body}
use Rattle.st_tree.proofs.TypedParts.{body_of_case, parts_of_arm, parts_of_arms, parts_of_body, parts_of_case, parts_of_cases, parts_of_if, parts_of_while}
use Rattle.st_tree.proofs.TypingEquations.{good_invoke, nesting_arm, nesting_case, nesting_case_arm, nesting_if, nesting_while}

-- IF, CASE and WHILE alone nest no deeper than a text does

abbrev Shallow : Stmt → Type 0
Shallow x = most nesting_costs x ≤ nesting x

shallow_list : (xs : List Stmt) → Each Shallow xs → body_most nesting_costs xs ≤ body_nesting xs
shallow_list [] all = omega arith
shallow_list (x ∷ xs) all = omega (arith, all.0, shallow_list xs all.1)

shallow_arms : (arms : List Arm) → Each (InArm Shallow) arms
    → greatest (map (arm_most nesting_costs) arms) ≤ greatest (map arm_nesting arms)
shallow_arms [] all = omega arith
shallow_arms (x ∷ xs) all =
    omega (arith, most_arm nesting_costs x, nesting_arm x, shallow_list x.body all.0, shallow_arms xs all.1)

shallow_cases : (arms : List CaseArm) → Each (InCase Shallow) arms
    → greatest (map (case_most nesting_costs) arms) ≤ greatest (map case_nesting arms)
shallow_cases [] all = omega arith
shallow_cases (x ∷ xs) all =
    omega (arith, most_case_arm nesting_costs x, nesting_case_arm x, shallow_list x.body all.0, shallow_cases xs all.1)

-- what costs nothing
free : (x : Stmt) → most nesting_costs x ≡ 0 → Shallow x
free x e = omega arith

shallow_steps : StmtSteps Shallow
shallow_steps =
    record {
      assign = λ v e. free _ (most_stmt nesting_costs (S.Assign v e) (stmt.rolls-Assign v e));
      area_write = λ w p e. free _ (most_stmt nesting_costs (S.AreaWrite w p e) (stmt.rolls-AreaWrite w p e));
      invoke = λ n actuals. free _ (most_stmt nesting_costs (S.Invoke n actuals) (stmt.rolls-Invoke n actuals));
      choice = λ arms other all rest.
          let cost = most_stmt nesting_costs (S.If arms other) (stmt.rolls-If arms other) in
          omega (arith, cost, nesting_if arms other, shallow_arms arms all, shallow_list other rest);
      selection = λ e arms other all rest.
          let cost = most_stmt nesting_costs (S.Case e arms other) (stmt.rolls-Case e arms other) in
          omega (arith, cost, nesting_case e arms other, shallow_cases arms all, shallow_list other rest);
      loop = λ test body all.
          let cost = most_stmt nesting_costs (S.While test body) (stmt.rolls-While test body) in
          omega (arith, cost, nesting_while test body, shallow_list body all);
      exit = free _ (most_stmt nesting_costs S.Exit stmt.rolls-Exit);
      continue = free _ (most_stmt nesting_costs S.Continue stmt.rolls-Continue);
      return = free _ (most_stmt nesting_costs S.Return stmt.rolls-Return);
    }

body_shallow : (body : List Stmt) → body_most nesting_costs body ≤ body_nesting body
body_shallow body = shallow_list body (every_body Shallow shallow_steps body)

-- Well typed calls give as many actuals as there are formals

as_many : (sight : UnitScope) (fs : List Local) (vars : List Var) → are_given sight fs vars ≡ true
    → length vars ≡ length fs
as_many sight [] [] h = refl
as_many sight [] (v ∷ vars) h = cc
as_many sight (f ∷ fs) [] h = cc
as_many sight (f ∷ fs) (v ∷ vars) h =
    ap suc (as_many sight fs vars (and_parts (has_type f.ty (variable_type sight v)) (are_given sight fs vars) h).1)

module _ (tree : StProgram) (unit : Pou) where
  abbrev sight : UnitScope
  sight = unit_scope_in tree unit

  abbrev costs : Costs
  costs = misfit_costs tree

  abbrev cost : Bool → ℕ
  cost b = if b then 0 else 1

  call_fits : (o : Option Pou) (actuals : List Var) → is_call sight (option_map head_of o) actuals ≡ true
      → cost (length actuals == formals_of_unit o) ≡ 0
  call_fits None actuals h = cc
  call_fits (Some callee) actuals h =
      let called : Bool = not callee.program && is_seen sight callee.name in
      let given = (and_parts called (are_given sight callee.formals actuals) h).1 in
      let same = eq-eqb (length actuals) (length callee.formals) (as_many sight callee.formals actuals given) in
      ap cost same

  invoke_fits : (n : ℕ) (actuals : List Var) → is_call sight (slice_get sight.heads n) actuals ≡ true
      → misfit tree n actuals ≡ 0
  invoke_fits n actuals h =
      call_fits (slice_get tree.pous n) actuals
      (subst (λ (o : Option Head). is_call sight o actuals ≡ true) (slice_get-map head_of tree.pous n) h)

  abbrev Given : Stmt → Type 0
  Given x = (inside : Bool) → is_well_typed sight x inside ≡ true → most costs x ≡ 0

  given_list : (xs : List Stmt) → Each Given xs → (inside : Bool) → are_well_typed sight inside xs ≡ true
      → body_most costs xs ≡ 0
  given_list [] all inside good = refl
  given_list (x ∷ xs) all inside good =
      let parts = parts_of_body sight inside x xs good in
      omega (arith, all.0 inside parts.0, given_list xs all.1 inside parts.1)

  given_arms : (arms : List Arm) → Each (InArm Given) arms → (inside : Bool)
      → each inside (map (is_arm sight) arms) ≡ true → greatest (map (arm_most costs) arms) ≡ 0
  given_arms [] all inside good = refl
  given_arms (x ∷ xs) all inside good =
      let parts = parts_of_arms sight inside x xs good in
      let body = given_list x.body all.0 inside (parts_of_arm sight inside x parts.0).1 in
      omega (arith, most_arm costs x, body, given_arms xs all.1 inside parts.1)

  given_cases : (ty : StType) (arms : List CaseArm) → Each (InCase Given) arms → (inside : Bool)
      → each_case ty inside (map (is_case_arm sight) arms) ≡ true → greatest (map (case_most costs) arms) ≡ 0
  given_cases ty [] all inside good = refl
  given_cases ty (x ∷ xs) all inside good =
      let parts = parts_of_cases sight inside ty x xs good in
      let body = given_list x.body all.0 inside (body_of_case sight inside x ty parts.0) in
      omega (arith, most_case_arm costs x, body, given_cases ty xs all.1 inside parts.1)

  steps : StmtSteps Given
  steps =
      record {
        assign = λ v e inside good. most_stmt costs (S.Assign v e) (stmt.rolls-Assign v e);
        area_write = λ w p e inside good. most_stmt costs (S.AreaWrite w p e) (stmt.rolls-AreaWrite w p e);
        invoke = λ n actuals inside good.
            most_stmt costs (S.Invoke n actuals) (stmt.rolls-Invoke n actuals)
            ∙ invoke_fits n actuals (sym (good_invoke sight inside n actuals) ∙ good);
        choice = λ arms other all rest inside good.
            let parts = parts_of_if sight inside arms other good in
            let m = most_stmt costs (S.If arms other) (stmt.rolls-If arms other) in
            omega (arith, m, given_arms arms all inside parts.0, given_list other rest inside parts.1);
        selection = λ e arms other all rest inside good.
            let parts = parts_of_case sight inside e arms other good in
            let m = most_stmt costs (S.Case e arms other) (stmt.rolls-Case e arms other) in
            omega (arith, m, given_cases parts.0.type arms all inside parts.0.arms, given_list other rest inside parts.1);
        loop = λ test body all inside good.
            let m = most_stmt costs (S.While test body) (stmt.rolls-While test body) in
            omega (arith, m, given_list body all true (parts_of_while sight inside test body good).1);
        exit = λ inside good. most_stmt costs S.Exit stmt.rolls-Exit;
        continue = λ inside good. most_stmt costs S.Continue stmt.rolls-Continue;
        return = λ inside good. most_stmt costs S.Return stmt.rolls-Return;
      }

  pub body_given : (body : List Stmt) → are_well_typed sight false body ≡ true → body_most costs body ≡ 0
  body_given body good = given_list body (every_body Given steps body) false good

-- The tree

area_there : (a : Area) (w : Width) (byte bit : ℕ) → is_located a w byte bit ≡ true → IsActivation a
area_there (place.Local d) w byte bit h = cc
area_there (place.Cell d) w byte bit h = cc
area_there a w byte bit h = tt

globals_there : (globals : List Located) → All IsGlobal globals → AreGlobals globals
globals_there [] all = tt
globals_there (g ∷ rest) all = (
  area_there g.place.area (width_at g.ty) g.place.byte g.place.bit (All-head IsGlobal g rest all).place,
  globals_there rest (All-tail IsGlobal g rest all),
)

pub proper_runs : (tree : StProgram) → Proper tree → IsRunnable tree
proper_runs tree proper =
    record {
      units = λ n unit e.
          let own = at_position (IsProperUnit tree.globals (map head_of tree.pous)) tree.pous n unit proper.units e in
          let shallow = body_shallow unit.body in
          let deep = own.nesting in
          record {
            chain = proper.chains n unit e;
            nesting = omega arith;
            actuals = body_given tree unit unit.body own.typed;
          };
      globals = globals_there tree.globals proper.globals;
    }
