-- What statements cost at a time, by what a waiting frame and a call cost.
use Rattle.std.specs.Prelude.{ℕ, ◌+◌, max, List, map}
use Rattle.s7_base.specs.Numbers.{greatest}
use Rattle.st_tree.specs.declared.expr.Var.{Var}
use Rattle.st_tree.specs.declared.program.Arm.{Arm, fold-Arm}
use Rattle.st_tree.specs.declared.program.CaseArm.{CaseArm, fold-CaseArm}
use Rattle.st_tree.specs.declared.program.Stmt.{Stmt, fold-Stmt}
use Rattle.st_tree.specs.declared.program.Stmt.TheOpen as S

-- what a frame of each kind costs, and a call of a unit with these actuals
pub record Costs : Type 0 where
  pub rest : ℕ
  pub again : ℕ
  pub unit : ℕ
  pub call : ℕ → List Var → ℕ

-- the most that a statement costs at a time without the frame of its list
abbrev pub most_step : Costs → S.Stmt-F ℕ ℕ ℕ → ℕ
most_step k (S.Assign v e) = 0
most_step k (S.AreaWrite w p e) = 0
most_step k (S.Invoke n actuals) = k.call n actuals
most_step k (S.If arms other) = k.rest + max (greatest arms) (greatest other)
most_step k (S.Case e arms other) = k.rest + max (greatest arms) (greatest other)
most_step k (S.While test body) = k.again + k.rest + greatest body
most_step k S.Exit = 0
most_step k S.Continue = 0
most_step k S.Return = 0

-- the most that a statement costs at a time, with the statements in it, without the frame of its list
abbrev pub most : Costs → Stmt → ℕ
most k = fold-Stmt ℕ ℕ ℕ (most_step k) (λ arm. greatest arm.body) (λ arm. greatest arm.body)

-- the most that the statements of an arm of an IF cost at a time
abbrev pub arm_most : Costs → Arm → ℕ
arm_most k = fold-Arm ℕ ℕ ℕ (most_step k) (λ arm. greatest arm.body) (λ arm. greatest arm.body)

-- the most that the statements of an arm of a CASE cost at a time
abbrev pub case_most : Costs → CaseArm → ℕ
case_most k = fold-CaseArm ℕ ℕ ℕ (most_step k) (λ arm. greatest arm.body) (λ arm. greatest arm.body)

-- the most that a list of statements costs at a time: that of its dearest statement
abbrev pub body_most : Costs → List Stmt → ℕ
body_most k body = greatest (map (most k) body)
