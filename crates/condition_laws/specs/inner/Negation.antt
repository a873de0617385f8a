-- The opposite of a test, and whether an expression is at most so high.
use Rattle.std.specs.Prelude.{ℕ, ◌-◌, Bool, ◌&&◌, nat_lt, if◌then◌else◌, Option, Some, None, is_some}
use Rattle.st_tree.specs.declared.expr.BinaryOp.{BinaryOp}
use Rattle.st_tree.specs.declared.expr.BinaryOp.TheVariants as binary
use Rattle.st_tree.specs.declared.expr.Expr.{Expr, fold-Expr, out-Expr}
use Rattle.st_tree.specs.declared.expr.Expr.TheOpen as E
use Rattle.st_tree.specs.declared.expr.Expr.TheVariants as expr
use Rattle.st_tree.specs.declared.expr.UnaryOp.TheVariants as unary

-- the comparison that holds where another does not
abbrev pub opposite : BinaryOp → Option BinaryOp
opposite binary.Lt = Some binary.Ge
opposite binary.Gt = Some binary.Le
opposite binary.Le = Some binary.Gt
opposite binary.Ge = Some binary.Lt
opposite binary.Eq = Some binary.Ne
opposite binary.Ne = Some binary.Eq
opposite other = None

-- the opposite of an operator between two operands
abbrev pub negation_between : Option BinaryOp → Expr → Expr → Expr → Expr
negation_between None e a b = expr.Unary unary.Not e
negation_between (Some op) e a b = expr.Binary op a b

-- the opposite of a test, by its layer: the operand of NOT, the other comparison, or else the test after NOT
abbrev pub negation_step : Expr → E.Expr-F Expr → Expr
negation_step e (E.Unary unary.Not a) = a
negation_step e (E.Binary op a b) = negation_between (opposite op) e a b
negation_step e other = expr.Unary unary.Not e

-- the opposite of a test
abbrev pub negation : Expr → Expr
negation e = negation_step e (out-Expr e)

-- an expression is at most so high, by its operands
abbrev pub low_step : E.Expr-F (ℕ → Bool) → ℕ → Bool
low_step (E.Literal ty n) most = nat_lt 0 most
low_step (E.Read v) most = nat_lt 0 most
low_step (E.Unary op a) most = nat_lt 0 most && a (most - 1)
low_step (E.Binary op a b) most = nat_lt 0 most && a (most - 1) && b (most - 1)
low_step (E.Convert from to a) most = nat_lt 0 most && a (most - 1)
low_step (E.Select gate a b) most = nat_lt 0 most && gate (most - 1) && a (most - 1) && b (most - 1)
low_step (E.Shift op a count) most = nat_lt 0 most && a (most - 1) && count (most - 1)
low_step (E.AreaRead w pointer) most = nat_lt 0 most && pointer (most - 1)

-- an expression is at most so high
abbrev pub is_low : Expr → ℕ → Bool
is_low = fold-Expr (ℕ → Bool) low_step

-- the opposite of a test is as low as the test of a WHILE, by the test's layer
abbrev pub low_negation_step : Expr → E.Expr-F Expr → Bool
low_negation_step e (E.Unary unary.Not a) = is_low a 32
low_negation_step e (E.Binary op a b) = if is_some (opposite op) then is_low e 32 else is_low e 31
low_negation_step e other = is_low e 31

-- the opposite of a test is as low as the test of a WHILE
abbrev pub has_low_negation : Expr → Bool
has_low_negation e = low_negation_step e (out-Expr e)
