-- Statements with other variables in the place of their own. Nothing else of them changes.
-- Held against: IEC 61131-3, 'Variables'.
use Rattle.std.specs.Prelude.{List, map}
use Rattle.st_tree.specs.declared.expr.Expr.{Expr, fold-Expr}
use Rattle.st_tree.specs.declared.expr.Expr.TheOpen as E
use Rattle.st_tree.specs.declared.expr.Expr.TheVariants as expr
use Rattle.st_tree.specs.declared.expr.Var.{Var}
use Rattle.st_tree.specs.declared.program.Arm.{Arm, fold-Arm}
use Rattle.st_tree.specs.declared.program.CaseArm.{CaseArm, fold-CaseArm}
use Rattle.st_tree.specs.declared.program.Pou.{Pou}
use Rattle.st_tree.specs.declared.program.Stmt.{Stmt, fold-Stmt}
use Rattle.st_tree.specs.declared.program.Stmt.TheOpen as S
use Rattle.st_tree.specs.declared.program.Stmt.TheVariants as stmt

-- an expression by its operands, where `f` gives each variable the one in its place
abbrev pub expr_step : (Var → Var) → E.Expr-F Expr → Expr
expr_step f (E.Literal ty n) = expr.Literal ty n
expr_step f (E.Read v) = expr.Read (f v)
expr_step f (E.Unary op a) = expr.Unary op a
expr_step f (E.Binary op a b) = expr.Binary op a b
expr_step f (E.Convert from to a) = expr.Convert from to a
expr_step f (E.Select gate a b) = expr.Select gate a b
expr_step f (E.Shift op a count) = expr.Shift op a count
expr_step f (E.AreaRead w p) = expr.AreaRead w p

-- an expression with other variables
abbrev pub expr_with : (Var → Var) → Expr → Expr
expr_with f = fold-Expr Expr (expr_step f)

-- a statement by the statements inside it
abbrev pub stmt_step : (Var → Var) → S.Stmt-F Stmt Arm CaseArm → Stmt
stmt_step f (S.Assign v e) = stmt.Assign (f v) (expr_with f e)
stmt_step f (S.AreaWrite w p e) = stmt.AreaWrite w (expr_with f p) (expr_with f e)
stmt_step f (S.Invoke n actuals) = stmt.Invoke n (map f actuals)
stmt_step f (S.If arms other) = stmt.If arms other
stmt_step f (S.Case e arms other) = stmt.Case (expr_with f e) arms other
stmt_step f (S.While test body) = stmt.While (expr_with f test) body
stmt_step f S.Exit = stmt.Exit
stmt_step f S.Continue = stmt.Continue
stmt_step f S.Return = stmt.Return

-- an arm of an IF by its statements
abbrev pub arm_step : (Var → Var) → S.Arm-F Stmt Arm CaseArm → Arm
arm_step f arm = record { test = expr_with f arm.test; body = arm.body }

-- an arm of a CASE by its statements
abbrev pub case_step : S.CaseArm-F Stmt Arm CaseArm → CaseArm
case_step arm = record { labels = arm.labels; body = arm.body }

-- a statement with other variables
abbrev pub stmt_with : (Var → Var) → Stmt → Stmt
stmt_with f = fold-Stmt Stmt Arm CaseArm (stmt_step f) (arm_step f) case_step

-- an arm of an IF with other variables
abbrev pub arm_with : (Var → Var) → Arm → Arm
arm_with f = fold-Arm Stmt Arm CaseArm (stmt_step f) (arm_step f) case_step

-- an arm of a CASE with other variables
abbrev pub case_with : (Var → Var) → CaseArm → CaseArm
case_with f = fold-CaseArm Stmt Arm CaseArm (stmt_step f) (arm_step f) case_step

-- some statements with other variables
abbrev pub body_with : (Var → Var) → List Stmt → List Stmt
body_with f body = map (stmt_with f) body

-- a unit whose statements have other variables; its head and its locals stay
abbrev pub unit_with : (Var → Var) → Pou → Pou
unit_with f unit = record unit { body = body_with f unit.body }
