-- What statements keep where others stand in the place of their variables: how many there are of each kind, what is
-- inside of each, the expressions and their heights, the calls, and how deep they nest.
-- Held against: IEC 61131-3, 'Statements'.
use Rattle.std.specs.Prelude.{◌≡◌, List, map}
use Rattle.st_tree.specs.BodyParts.{height, reads_of, statements_in}
use Rattle.st_tree.specs.Nesting.{body_nesting, expression_nesting}
use Rattle.st_tree.specs.declared.expr.Expr.{Expr}
use Rattle.st_tree.specs.declared.expr.Var.{Var}
use Rattle.st_tree.specs.declared.program.Arm.{Arm}
use Rattle.st_tree.specs.declared.program.CaseArm.{CaseArm}
use Rattle.st_tree.specs.declared.program.Stmt.{Stmt, out-Stmt}
use Rattle.st_tree.specs.declared.program.Stmt.TheOpen as S
use Rattle.st_globals.specs.Variables.{variables_in}
use Rattle.st_globals.specs.WithVariables.{arm_with, body_with, case_with, expr_with, stmt_with}

-- a statement with other variables: the same kind, with parts that have them
abbrev pub layer_with : (Var → Var) → S.Stmt-F Stmt Arm CaseArm → S.Stmt-F Stmt Arm CaseArm
layer_with f (S.Assign v e) = S.Assign (f v) (expr_with f e)
layer_with f (S.AreaWrite w p e) = S.AreaWrite w (expr_with f p) (expr_with f e)
layer_with f (S.Invoke n actuals) = S.Invoke n (map f actuals)
layer_with f (S.If arms other) = S.If (map (arm_with f) arms) (body_with f other)
layer_with f (S.Case e arms other) = S.Case (expr_with f e) (map (case_with f) arms) (body_with f other)
layer_with f (S.While test body) = S.While (expr_with f test) (body_with f body)
layer_with f S.Exit = S.Exit
layer_with f S.Continue = S.Continue
layer_with f S.Return = S.Return

-- a statement stays of its kind
abbrev pub KindsAreKept : Type 0
KindsAreKept = (f : Var → Var) (x : Stmt) → out-Stmt (stmt_with f x) ≡ layer_with f (out-Stmt x)

-- the statements of a body, at every depth, are the old ones with the other variables
abbrev pub StatementsAreKept : Type 0
StatementsAreKept = (f : Var → Var) (body : List Stmt)
    → statements_in (body_with f body) ≡ body_with f (statements_in body)

-- an expression reads the other variables, in the same order
abbrev pub ReadsAreKept : Type 0
ReadsAreKept = (f : Var → Var) (e : Expr) → reads_of (expr_with f e) ≡ map f (reads_of e)

-- so do statements name them
abbrev pub VariablesAreKept : Type 0
VariablesAreKept = (f : Var → Var) (body : List Stmt) → variables_in (body_with f body) ≡ map f (variables_in body)

-- an expression is as high, and as deep with its brackets
pub record HeightIsKept (f : Var → Var) (e : Expr) : Type 0 where
  pub height : height (expr_with f e) ≡ height e
  pub nesting : expression_nesting (expr_with f e) ≡ expression_nesting e

abbrev pub HeightsAreKept : Type 0
HeightsAreKept = (f : Var → Var) (e : Expr) → HeightIsKept f e

-- statements nest as deep
abbrev pub NestingIsKept : Type 0
NestingIsKept = (f : Var → Var) (body : List Stmt) → body_nesting (body_with f body) ≡ body_nesting body
