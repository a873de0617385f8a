-- How many nodes expressions have: one for each operator, function, literal and variable.
use Rattle.std.specs.Prelude.{ℕ, ◌+◌, List}
use Rattle.std.specs.List.{sum_by}
use Rattle.st_tree.specs.BodyParts.{expressions_in}
use Rattle.st_tree.specs.declared.expr.Expr.{Expr, fold-Expr}
use Rattle.st_tree.specs.declared.expr.Expr.TheOpen as E
use Rattle.st_tree.specs.declared.program.Stmt.{Stmt}

-- the nodes of an expression, by those of its operands
abbrev pub nodes_step : E.Expr-F ℕ → ℕ
nodes_step (E.Literal ty n) = 1
nodes_step (E.Read v) = 1
nodes_step (E.Unary op a) = 1 + a
nodes_step (E.Binary op a b) = 1 + a + b
nodes_step (E.Convert from to a) = 1 + a
nodes_step (E.Select gate a b) = 1 + gate + a + b
nodes_step (E.Shift op a count) = 1 + a + count
nodes_step (E.AreaRead w pointer) = 1 + pointer

-- the nodes of an expression
abbrev pub nodes : Expr → ℕ
nodes = fold-Expr ℕ nodes_step

-- the nodes of all expressions of a body
abbrev pub nodes_in : List Stmt → ℕ
nodes_in body = sum_by nodes (expressions_in body)
