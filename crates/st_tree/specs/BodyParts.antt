-- The parts of a body. They are lists: its statements at every depth, and the calls, the expressions and the reads in
-- them; also how high an expression is.
-- Held against: IEC 61131-3, 'Statements'.
use Rattle.std.specs.Prelude.{ℕ, ◌+◌, max, List, [], ◌∷◌, ◌++◌, map}
use Rattle.std.specs.List.{flat_map}
use Rattle.st_tree.specs.declared.expr.Expr.{Expr, fold-Expr}
use Rattle.st_tree.specs.declared.expr.Expr.TheOpen as E
use Rattle.st_tree.specs.declared.expr.Var.{Var}
use Rattle.st_tree.specs.declared.program.Arm.{Arm}
use Rattle.st_tree.specs.declared.program.CaseArm.{CaseArm}
use Rattle.st_tree.specs.declared.program.Stmt.{Stmt, out-Stmt, para-Stmt}
use Rattle.st_tree.specs.declared.program.Stmt.TheOpen as S

-- Statements

-- some statements, each before those inside it
abbrev pub all_of : List (Stmt × List Stmt) → List Stmt
all_of parts = flat_map (λ (part : Stmt × List Stmt). part.0 ∷ part.1) parts

-- the statements inside a statement, by those inside its parts
abbrev pub inner_step : S.Stmt-F (Stmt × List Stmt) (Arm × List Stmt) (CaseArm × List Stmt) → List Stmt
inner_step (S.Assign v e) = []
inner_step (S.AreaWrite w p e) = []
inner_step (S.Invoke n actuals) = []
inner_step (S.If arms other) = flat_map (λ (arm : Arm × List Stmt). arm.1) arms ++ all_of other
inner_step (S.Case e arms other) = flat_map (λ (arm : CaseArm × List Stmt). arm.1) arms ++ all_of other
inner_step (S.While test body) = all_of body
inner_step S.Exit = []
inner_step S.Continue = []
inner_step S.Return = []

-- the statements inside a statement, at every depth
abbrev pub inner_statements : Stmt → List Stmt
inner_statements =
    para-Stmt (List Stmt) (List Stmt) (List Stmt) inner_step (λ arm. all_of arm.body) (λ arm. all_of arm.body)

-- the statements of a body, at every depth
abbrev pub statements_in : List Stmt → List Stmt
statements_in body = flat_map (λ (x : Stmt). x ∷ inner_statements x) body

-- Calls

-- the call that a statement is, if it is one
abbrev pub call_step : S.Stmt-F Stmt Arm CaseArm → List (ℕ × List Var)
call_step (S.Assign v e) = []
call_step (S.AreaWrite w p e) = []
call_step (S.Invoke n actuals) = (n, actuals) ∷ []
call_step (S.If arms other) = []
call_step (S.Case e arms other) = []
call_step (S.While test body) = []
call_step S.Exit = []
call_step S.Continue = []
call_step S.Return = []

-- the unit and the actuals of each call in a body
abbrev pub calls_in : List Stmt → List (ℕ × List Var)
calls_in body = flat_map (λ (x : Stmt). call_step (out-Stmt x)) (statements_in body)

-- Expressions

-- the expressions of a statement, but those of the statements inside it: right sides, the operands of area writes,
-- tests and selectors
abbrev pub expressions_step : S.Stmt-F Stmt Arm CaseArm → List Expr
expressions_step (S.Assign v e) = e ∷ []
expressions_step (S.AreaWrite w p e) = p ∷ e ∷ []
expressions_step (S.Invoke n actuals) = []
expressions_step (S.If arms other) = map (λ (arm : Arm). arm.test) arms
expressions_step (S.Case e arms other) = e ∷ []
expressions_step (S.While test body) = test ∷ []
expressions_step S.Exit = []
expressions_step S.Continue = []
expressions_step S.Return = []

-- the expressions in the statements of a body
abbrev pub expressions_in : List Stmt → List Expr
expressions_in body = flat_map (λ (x : Stmt). expressions_step (out-Stmt x)) (statements_in body)

-- Reads

-- the variables that an expression reads, by those that its operands read
abbrev pub reads_step : E.Expr-F (List Var) → List Var
reads_step (E.Literal ty n) = []
reads_step (E.Read v) = v ∷ []
reads_step (E.Unary op a) = a
reads_step (E.Binary op a b) = a ++ b
reads_step (E.Convert from to a) = a
reads_step (E.Select gate a b) = gate ++ a ++ b
reads_step (E.Shift op a count) = a ++ count
reads_step (E.AreaRead w pointer) = pointer

-- the variables that an expression reads
abbrev pub reads_of : Expr → List Var
reads_of = fold-Expr (List Var) reads_step

-- the variables that the expressions of a body read
abbrev pub reads_in : List Stmt → List Var
reads_in body = flat_map reads_of (expressions_in body)

-- Heights

-- the height of an expression, by those of its operands
abbrev pub height_step : E.Expr-F ℕ → ℕ
height_step (E.Literal ty n) = 1
height_step (E.Read v) = 1
height_step (E.Unary op a) = 1 + a
height_step (E.Binary op a b) = 1 + max a b
height_step (E.Convert from to a) = 1 + a
height_step (E.Select gate a b) = 1 + max gate (max a b)
height_step (E.Shift op a count) = 1 + max a count
height_step (E.AreaRead w pointer) = 1 + pointer

-- the height of an expression: 1 of a literal and of a variable, and one more than the highest operand of an
-- operator and of a function
abbrev pub height : Expr → ℕ
height = fold-Expr ℕ height_step
