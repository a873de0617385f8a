-- Chains of calls, and what statements cost by several measures; what a body costs by its calls alone is the
-- greatest that the units give which it calls.
use Rattle.st_tree.proofs.Common.{◌≡◌, ℕ, List, [], ◌∷◌, map, refl, sym, ◌∙◌, arith, zero, suc, ◌+◌, ◌*◌, ◌<◌, ◌≤◌, Option, Some, None, ap, greatest, slice_get, ACTIVATIONS, called_in, chain_of, chain_to, unit_chain}
use Rattle.st_runner.proofs.Costs.{most_arm, most_case_arm, most_stmt}
use Rattle.st_runner.proofs.Common.{Costs, arm_most, body_most, case_most, most, most_step, nesting_costs, Arm, CaseArm, Stmt, map-Stmt, roll-Stmt, depth_costs, stack_costs, UNIT_FRAMES, Pou, StProgram}
use Rattle.st_runner.specs.inner.Runnable.{chain_costs, IsRunnableUnit}
use Rattle.st_tree.proofs.CalledMost.{called_area_write, called_assign, called_case, called_continue, called_exit, called_first, called_if, called_in_arm, called_in_case, called_invoke, called_most, called_return, called_while}
use Rattle.st_tree.proofs.Induction.{Each, InArm, InCase, StmtSteps, every_body}
use Rattle.st_tree.specs.declared.program.Stmt.TheOpen as S
use Rattle.st_tree.specs.declared.program.Stmt.TheVariants as stmt

-- Calls alone

module _ (f : ℕ → ℕ) where
  abbrev k : Costs
  k = chain_costs f

  abbrev Same : Stmt → Type 0
  Same x = most k x ≡ called_most f (x ∷ [])

  body_same : (xs : List Stmt) → Each Same xs → body_most k xs ≡ called_most f xs
  body_same [] all = refl
  body_same (x ∷ xs) all = omega (arith, called_first f x xs, all.0, body_same xs all.1)

  arms_same : (arms : List Arm) → Each (InArm Same) arms
      → greatest (map (arm_most k) arms) ≡ greatest (map (called_in_arm f) arms)
  arms_same [] all = refl
  arms_same (x ∷ xs) all = omega (arith, most_arm k x, body_same x.body all.0, arms_same xs all.1)

  cases_same : (arms : List CaseArm) → Each (InCase Same) arms
      → greatest (map (case_most k) arms) ≡ greatest (map (called_in_case f) arms)
  cases_same [] all = refl
  cases_same (x ∷ xs) all = omega (arith, most_case_arm k x, body_same x.body all.0, cases_same xs all.1)

  same_steps : StmtSteps Same
  same_steps =
      record {
        assign = λ v e. most_stmt k (S.Assign v e) (stmt.rolls-Assign v e) ∙ sym (called_assign f v e);
        area_write = λ w p e. most_stmt k (S.AreaWrite w p e) (stmt.rolls-AreaWrite w p e) ∙ sym (called_area_write f w p e);
        invoke = λ n actuals. most_stmt k (S.Invoke n actuals) (stmt.rolls-Invoke n actuals) ∙ sym (called_invoke f n actuals);
        choice = λ arms other all rest.
            let most = most_stmt k (S.If arms other) (stmt.rolls-If arms other) in
            omega (arith, most, called_if f arms other, arms_same arms all, body_same other rest);
        selection = λ e arms other all rest.
            let most = most_stmt k (S.Case e arms other) (stmt.rolls-Case e arms other) in
            omega (arith, most, called_case f e arms other, cases_same arms all, body_same other rest);
        loop = λ test body all.
            let most = most_stmt k (S.While test body) (stmt.rolls-While test body) in
            omega (arith, most, called_while f test body, body_same body all);
        exit = most_stmt k S.Exit stmt.rolls-Exit ∙ sym (called_exit f);
        continue = most_stmt k S.Continue stmt.rolls-Continue ∙ sym (called_continue f);
        return = most_stmt k S.Return stmt.rolls-Return ∙ sym (called_return f);
      }

  pub called_cost : (body : List Stmt) → body_most k body ≡ called_most f body
  called_cost body = body_same body (every_body Same same_steps body)

-- Chains

-- where each that is less than a bound is no more by another count, so is the greatest of some
greatest_stays : (f g : ℕ → ℕ) (k : ℕ) → ((n : ℕ) → g n < k → f n ≤ g n) → (ns : List ℕ)
    → greatest (map g ns) < k → greatest (map f ns) ≤ greatest (map g ns)
greatest_stays f g k each [] less = omega arith
greatest_stays f g k each (n ∷ ns) less =
    omega (arith, each n (omega arith), greatest_stays f g k each ns (omega arith))

-- a chain that is shorter than the count is no longer by a greater count
unit_stays : (k : ℕ) (tree : StProgram) (o : Option Pou)
    → ((n : ℕ) → chain_to k tree n < k → chain_to (suc k) tree n ≤ chain_to k tree n)
    → unit_chain (chain_to k tree) k o < suc k → unit_chain (chain_to (suc k) tree) (suc k) o ≤ unit_chain (chain_to k tree) k o
unit_stays k tree None calls less = absurd (omega arith)
unit_stays k tree (Some unit) calls less =
    let h = greatest_stays (chain_to (suc k) tree) (chain_to k tree) k calls (called_in unit.body) (omega arith) in
    omega (arith, h)

chain_stays : (k : ℕ) (tree : StProgram) (n : ℕ) → chain_to k tree n < k → chain_to (suc k) tree n ≤ chain_to k tree n
chain_stays zero tree n less = absurd (omega arith)
chain_stays (suc k) tree n less = unit_stays k tree (slice_get tree.pous n) (chain_stays k tree) less

-- a unit's chain is one longer than those of its calls
pub chain_covers : (tree : StProgram) (n : ℕ) (unit : Pou) → slice_get tree.pous n ≡ Some unit
    → chain_of tree n ≤ ACTIVATIONS → 1 + body_most (depth_costs tree) unit.body ≤ chain_of tree n
chain_covers tree n unit e few =
    let is : chain_of tree n ≡ suc (greatest (map (chain_to 8 tree) (called_in unit.body))) = ap (unit_chain (chain_to 8 tree) 8) e in
    let h = greatest_stays (chain_to 9 tree) (chain_to 8 tree) 8 (chain_stays 8 tree) (called_in unit.body) (omega arith) in
    omega (arith, is, h, called_cost (chain_of tree) unit.body)

-- a unit whose chain ends is there
unit_found : (f : ℕ → ℕ) (o : Option Pou) → unit_chain f 8 o ≤ 8 → (unit : Pou) × (o ≡ Some unit)
unit_found f None h = absurd (omega arith)
unit_found f (Some unit) h = (unit, refl)

pub unit_there : (tree : StProgram) (n : ℕ) → chain_of tree n ≤ ACTIVATIONS → (unit : Pou) × (slice_get tree.pous n ≡ Some unit)
unit_there tree n h = unit_found (chain_to 8 tree) (slice_get tree.pous n) h

some_chain : (f : ℕ → ℕ) (o : Option Pou) → 1 ≤ unit_chain f 8 o
some_chain f None = omega arith
some_chain f (Some unit) = omega arith

pub chain_some : (tree : StProgram) (n : ℕ) → 1 ≤ chain_of tree n
chain_some tree n = some_chain (chain_to 8 tree) (slice_get tree.pous n)

-- Frames: two for each level of nesting, and those of the calls

module _ (tree : StProgram) where
  -- by what something costs
  abbrev Within : (Costs → ℕ) → Type 0
  Within size = size (stack_costs tree) ≤ 2 * size nesting_costs + UNIT_FRAMES * size (depth_costs tree)

  abbrev Stacked : Stmt → Type 0
  Stacked x = Within (λ k. most k x)

  -- a measure of one layer of a statement
  abbrev layer : Costs → S.Stmt-F Stmt Arm CaseArm → ℕ
  layer k y = most_step k (map-Stmt Stmt Arm CaseArm ℕ ℕ ℕ (most k) (arm_most k) (case_most k) y)

  stacked_by : {x : Stmt} (y : S.Stmt-F Stmt Arm CaseArm) → roll-Stmt y ≡ x → Within (λ k. layer k y) → Stacked x
  stacked_by y e h = omega (arith, most_stmt (stack_costs tree) y e, most_stmt nesting_costs y e, most_stmt (depth_costs tree) y e)

  stacked_list : (xs : List Stmt) → Each Stacked xs → Within (λ k. body_most k xs)
  stacked_list [] each = omega arith
  stacked_list (x ∷ xs) each = omega (arith, each.0, stacked_list xs each.1)

  stacked_arms : (xs : List Arm) → Each (InArm Stacked) xs → Within (λ k. greatest (map (arm_most k) xs))
  stacked_arms [] each = omega arith
  stacked_arms (x ∷ xs) each =
      omega (arith, most_arm (stack_costs tree) x, most_arm nesting_costs x, most_arm (depth_costs tree) x, stacked_list x.body each.0, stacked_arms xs each.1)

  stacked_cases : (xs : List CaseArm) → Each (InCase Stacked) xs → Within (λ k. greatest (map (case_most k) xs))
  stacked_cases [] each = omega arith
  stacked_cases (x ∷ xs) each = omega (
    arith,
    most_case_arm (stack_costs tree) x,
    most_case_arm nesting_costs x,
    most_case_arm (depth_costs tree) x,
    stacked_list x.body each.0,
    stacked_cases xs each.1,
  )

  stacked_steps : StmtSteps Stacked
  stacked_steps =
      record {
        assign = λ v e. stacked_by (S.Assign v e) (stmt.rolls-Assign v e) (omega arith);
        area_write = λ w a e. stacked_by (S.AreaWrite w a e) (stmt.rolls-AreaWrite w a e) (omega arith);
        invoke = λ n actuals. stacked_by (S.Invoke n actuals) (stmt.rolls-Invoke n actuals) (omega arith);
        choice =
            λ arms other each rest. stacked_by (S.If arms other) (stmt.rolls-If arms other) (omega (arith, stacked_arms arms each, stacked_list other rest));
        selection =
            λ e arms other each rest. stacked_by (S.Case e arms other) (stmt.rolls-Case e arms other)
            (omega (arith, stacked_cases arms each, stacked_list other rest));
        loop = λ test body each. stacked_by (S.While test body) (stmt.rolls-While test body) (omega (arith, stacked_list body each));
        exit = stacked_by S.Exit stmt.rolls-Exit (omega arith);
        continue = stacked_by S.Continue stmt.rolls-Continue (omega arith);
        return = stacked_by S.Return stmt.rolls-Return (omega arith);
      }

pub stack_covers : (tree : StProgram) (n : ℕ) (unit : Pou) → slice_get tree.pous n ≡ Some unit
    → IsRunnableUnit tree n unit → 1 + (1 + body_most (stack_costs tree) unit.body) ≤ UNIT_FRAMES * chain_of tree n
stack_covers tree n unit e runnable =
    omega
    (arith, stacked_list tree unit.body (every_body (Stacked tree) (stacked_steps tree) unit.body), runnable.nesting, chain_covers tree n unit e runnable.chain)
