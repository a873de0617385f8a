-- How deep statements stand in one another.
-- Held against: this project's own bounds.
use Rattle.std.specs.Prelude.{ℕ, suc, max, List, map}
use Rattle.s7_base.specs.Numbers.{greatest}
use Rattle.st_tree.specs.declared.program.Arm.{Arm, Arm-F, fold-Arm}
use Rattle.st_tree.specs.declared.program.CaseArm.{CaseArm, CaseArm-F, fold-CaseArm}
use Rattle.st_tree.specs.declared.program.Stmt.{Stmt, fold-Stmt}
use Rattle.st_tree.specs.declared.program.Stmt.TheOpen as S

-- how many IF, CASE and WHILE a statement opens, by those of its parts
abbrev pub depth_step : S.Stmt-F ℕ ℕ ℕ → ℕ
depth_step (S.If arms other) = suc (max (greatest arms) (greatest other))
depth_step (S.Case e arms other) = suc (max (greatest arms) (greatest other))
depth_step (S.While test body) = suc (greatest body)
depth_step other = 0

-- how many an arm of an IF opens inside it
abbrev pub arm_step : Arm-F ℕ ℕ ℕ → ℕ
arm_step arm = greatest arm.body

-- how many an arm of a CASE opens inside it
abbrev pub case_step : CaseArm-F ℕ ℕ ℕ → ℕ
case_step arm = greatest arm.body

-- how many IF, CASE and WHILE a statement opens
abbrev pub depth_of : Stmt → ℕ
depth_of = fold-Stmt ℕ ℕ ℕ depth_step arm_step case_step

-- how many an arm of an IF opens inside it
abbrev pub arm_depth : Arm → ℕ
arm_depth = fold-Arm ℕ ℕ ℕ depth_step arm_step case_step

-- how many an arm of a CASE opens inside it
abbrev pub case_depth : CaseArm → ℕ
case_depth = fold-CaseArm ℕ ℕ ℕ depth_step arm_step case_step

-- how many the statements of a body open
abbrev pub body_depth : List Stmt → ℕ
body_depth body = greatest (map depth_of body)
