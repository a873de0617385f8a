-- The variables that statements name, at every depth: those that they assign, that they read, and that they give to
-- calls.
-- Held against: IEC 61131-3, 'Statements'.
use Rattle.std.specs.Prelude.{List, [], ◌∷◌, ◌++◌}
use Rattle.std.specs.List.{flat_map}
use Rattle.st_tree.specs.BodyParts.{reads_of}
use Rattle.st_tree.specs.declared.expr.Var.{Var}
use Rattle.st_tree.specs.declared.program.Arm.{Arm, fold-Arm}
use Rattle.st_tree.specs.declared.program.CaseArm.{CaseArm, fold-CaseArm}
use Rattle.st_tree.specs.declared.program.Pou.{Pou}
use Rattle.st_tree.specs.declared.program.Stmt.{Stmt, fold-Stmt}
use Rattle.st_tree.specs.declared.program.Stmt.TheOpen as S

-- the variables of several parts, one after another
abbrev pub all_of : List (List Var) → List Var
all_of parts = flat_map (λ (vars : List Var). vars) parts

-- the variables of a statement, by those of the statements inside it
abbrev pub variables_step : S.Stmt-F (List Var) (List Var) (List Var) → List Var
variables_step (S.Assign v e) = v ∷ reads_of e
variables_step (S.AreaWrite w p e) = reads_of p ++ reads_of e
variables_step (S.Invoke n actuals) = actuals
variables_step (S.If arms other) = all_of arms ++ all_of other
variables_step (S.Case e arms other) = reads_of e ++ (all_of arms ++ all_of other)
variables_step (S.While test body) = reads_of test ++ all_of body
variables_step S.Exit = []
variables_step S.Continue = []
variables_step S.Return = []

-- the variables of an arm of an IF
abbrev pub arm_step : S.Arm-F (List Var) (List Var) (List Var) → List Var
arm_step arm = reads_of arm.test ++ all_of arm.body

-- the variables of an arm of a CASE
abbrev pub case_step : S.CaseArm-F (List Var) (List Var) (List Var) → List Var
case_step arm = all_of arm.body

-- the variables of a statement
abbrev pub variables_of : Stmt → List Var
variables_of = fold-Stmt (List Var) (List Var) (List Var) variables_step arm_step case_step

-- the variables of an arm of an IF
abbrev pub arm_variables : Arm → List Var
arm_variables = fold-Arm (List Var) (List Var) (List Var) variables_step arm_step case_step

-- the variables of an arm of a CASE
abbrev pub case_variables : CaseArm → List Var
case_variables = fold-CaseArm (List Var) (List Var) (List Var) variables_step arm_step case_step

-- the variables of some statements
abbrev pub variables_in : List Stmt → List Var
variables_in body = flat_map variables_of body

-- the variables of some units
abbrev pub unit_variables : List Pou → List Var
unit_variables units = flat_map (λ (unit : Pou). variables_in unit.body) units
