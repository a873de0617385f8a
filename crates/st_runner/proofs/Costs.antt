-- What statements cost and weigh by one layer, and that what is chosen costs and weighs no more than the choice.
use Rattle.st_tree.proofs.Common.{◌≡◌, ℕ, ◌+◌, ◌≤◌, Bool, true, false, if◌then◌else◌, ℤ, max, List, [], ◌∷◌, map, Result, Ok, Err, subst, arith, and_then, Fault, greatest, State, value, is_set}
use Rattle.st_runner.proofs.Common.{has_label, case_body, if_body, body_weight, weight, Costs, arm_most, body_most, case_most, most, most_step, Expr, Arm, CaseArm, Located, Stmt, map-Stmt, roll-Stmt, Value}
use Rattle.st_runner.specs.inner.Measures.{arm_weight, case_weight, sum, weight_step}
use Rattle.st_tree.specs.declared.program.Arm.{fold_out-Arm}
use Rattle.st_tree.specs.declared.program.CaseArm.{fold_out-CaseArm}
use Rattle.st_tree.specs.declared.program.Stmt.TheOpen as S
use Rattle.st_tree.specs.declared.program.Stmt.TheVariants as stmt
use Rattle.st_tree.proofs.Equations.{fold_stmt}

-- by one layer of a statement
pub most_stmt : (k : Costs) {x : Stmt} (y : S.Stmt-F Stmt Arm CaseArm) → roll-Stmt y ≡ x
    → most k x ≡ most_step k (map-Stmt Stmt Arm CaseArm ℕ ℕ ℕ (most k) (arm_most k) (case_most k) y)
most_stmt k y e = fold_stmt ℕ ℕ ℕ (most_step k) (λ arm. greatest arm.body) (λ arm. greatest arm.body) y e

pub most_arm : (k : Costs) (arm : Arm) → arm_most k arm ≡ body_most k arm.body
most_arm k arm = fold_out-Arm ℕ ℕ ℕ (most_step k) (λ arm. greatest arm.body) (λ arm. greatest arm.body) arm

pub most_case_arm : (k : Costs) (arm : CaseArm) → case_most k arm ≡ body_most k arm.body
most_case_arm k arm = fold_out-CaseArm ℕ ℕ ℕ (most_step k) (λ arm. greatest arm.body) (λ arm. greatest arm.body) arm

pub weight_stmt : {x : Stmt} (y : S.Stmt-F Stmt Arm CaseArm) → roll-Stmt y ≡ x
    → weight x ≡ weight_step (map-Stmt Stmt Arm CaseArm ℕ ℕ ℕ weight arm_weight case_weight y)
weight_stmt y e = fold_stmt ℕ ℕ ℕ weight_step (λ arm. sum arm.body) (λ arm. sum arm.body) y e

arm_weighs : (arm : Arm) → arm_weight arm ≡ body_weight arm.body
arm_weighs = fold_out-Arm ℕ ℕ ℕ weight_step (λ arm. sum arm.body) (λ arm. sum arm.body)

case_weighs : (arm : CaseArm) → case_weight arm ≡ body_weight arm.body
case_weighs = fold_out-CaseArm ℕ ℕ ℕ weight_step (λ arm. sum arm.body) (λ arm. sum arm.body)

-- what is chosen costs no more than all that may be
abbrev Within : (List Stmt → ℕ) → ℕ → Result (List Stmt) Fault → Type 0
Within size most (Ok body) = size body ≤ most
Within size most (Err f) = Unit {0}

module _ (size : List Stmt → ℕ) where
  fewer : (a b : ℕ) (r : Result (List Stmt) Fault) → a ≤ b → Within size a r → Within size b r
  fewer a b (Ok body) h w = omega arith
  fewer a b (Err f) h w = tt

  chosen_within : (r : Result Value Fault) (body : List Stmt) (rest : Result (List Stmt) Fault) (n : ℕ)
      → size body ≤ n → Within size n rest → Within size n (and_then r (λ v. if is_set v then Ok body else rest))
  chosen_within (Ok v) body rest n h w = by (is_set v)
    where
      by : (b : Bool) → Within size n (if b then Ok body else rest)
      by true = h
      by false = w
  chosen_within (Err f) body rest n h w = tt

  pub picked_within : (arm_size : Arm → ℕ) → ((a : Arm) → arm_size a ≡ size a.body) → (g : List Located) (arms : List Arm) (other : List Stmt) (s : State) →
      Within size (max (greatest (map arm_size arms)) (size other)) (if_body g arms other s)
  picked_within arm_size is g [] other s = omega arith
  picked_within arm_size is g (a ∷ arms) other s =
      let n : ℕ = max (max (arm_size a) (greatest (map arm_size arms))) (size other) in
      let m : ℕ = max (greatest (map arm_size arms)) (size other) in
      let rest = fewer m n (if_body g arms other s) (omega arith) (picked_within arm_size is g arms other s) in
      chosen_within (value g a.test s) a.body (if_body g arms other s) n (omega (arith, is a)) rest

  pick_less : (b : Bool) (p q : List Stmt) (n : ℕ) → size p ≤ n → size q ≤ n → size (if b then p else q) ≤ n
  pick_less true p q n h k = h
  pick_less false p q n h k = k

  pub labelled_within : (arm_size : CaseArm → ℕ) → ((a : CaseArm) → arm_size a ≡ size a.body) → (n : ℤ) (arms : List CaseArm) (other : List Stmt) →
      size (case_body n arms other) ≤ max (greatest (map arm_size arms)) (size other)
  labelled_within arm_size is n [] other = omega arith
  labelled_within arm_size is n (a ∷ arms) other =
      pick_less (has_label a.labels n) a.body (case_body n arms other) (max (max (arm_size a) (greatest (map arm_size arms))) (size other))
      (omega (arith, is a)) (omega (arith, labelled_within arm_size is n arms other))

pub picked_most : (k : Costs) (g : List Located) (arms : List Arm) (other : List Stmt) (s : State) (body : List Stmt)
    → if_body g arms other s ≡ Ok body → k.rest + body_most k body ≤ most k (stmt.If arms other)
picked_most k g arms other s body e =
    let w =
    subst (λ r. Within (body_most k) (max (greatest (map (arm_most k) arms)) (body_most k other)) r) e
    (picked_within (body_most k) (arm_most k) (most_arm k) g arms other s) in
    omega (arith, w, most_stmt k (S.If arms other) (stmt.rolls-If arms other))

pub picked_weight : (g : List Located) (arms : List Arm) (other : List Stmt) (s : State) (body : List Stmt)
    → if_body g arms other s ≡ Ok body → 2 + body_weight body ≤ weight (stmt.If arms other)
picked_weight g arms other s body e =
    let w =
    subst (λ r. Within body_weight (max (greatest (map arm_weight arms)) (body_weight other)) r) e
    (picked_within body_weight arm_weight arm_weighs g arms other s) in
    omega (arith, w, weight_stmt (S.If arms other) (stmt.rolls-If arms other))

pub labelled_most : (k : Costs) (e : Expr) (n : ℤ) (arms : List CaseArm) (other : List Stmt)
    → k.rest + body_most k (case_body n arms other) ≤ most k (stmt.Case e arms other)
labelled_most k e n arms other =
    omega (arith, labelled_within (body_most k) (case_most k) (most_case_arm k) n arms other, most_stmt k (S.Case e arms other) (stmt.rolls-Case e arms other))

pub labelled_weight : (e : Expr) (n : ℤ) (arms : List CaseArm) (other : List Stmt) → 2 + body_weight (case_body n arms other) ≤ weight (stmt.Case e arms other)
labelled_weight e n arms other =
    omega (arith, labelled_within body_weight case_weight case_weighs n arms other, weight_stmt (S.Case e arms other) (stmt.rolls-Case e arms other))
