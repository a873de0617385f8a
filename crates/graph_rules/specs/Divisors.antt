-- By what the expressions of a body divide.
use Rattle.std.specs.Prelude.{◌≡◌, ◌≢◌, ℤ, pos, List, [], ◌∷◌, ◌++◌, flat_map, ◌⊎◌}
use Rattle.st_tree.specs.BodyParts.{expressions_in}
use Rattle.st_tree.specs.declared.expr.BinaryOp.TheVariants as binary
use Rattle.st_tree.specs.declared.expr.Expr.{Expr, para-Expr}
use Rattle.st_tree.specs.declared.expr.Expr.TheOpen as E
use Rattle.st_tree.specs.declared.expr.Expr.TheVariants as expr
use Rattle.st_tree.specs.declared.expr.StType.{StType}
use Rattle.st_tree.specs.declared.program.Stmt.{Stmt}

-- the right operands of `/` and MOD in an expression, by its operands, each with those in it
abbrev pub divisors_step : E.Expr-F (Expr × List Expr) → List Expr
divisors_step (E.Literal ty n) = []
divisors_step (E.Read v) = []
divisors_step (E.Unary op a) = a.1
divisors_step (E.Binary binary.Div a b) = b.0 ∷ a.1 ++ b.1
divisors_step (E.Binary binary.Mod a b) = b.0 ∷ a.1 ++ b.1
divisors_step (E.Binary op a b) = a.1 ++ b.1
divisors_step (E.Convert from to a) = a.1
divisors_step (E.Select gate a b) = gate.1 ++ a.1 ++ b.1
divisors_step (E.Shift op a count) = a.1 ++ count.1
divisors_step (E.AreaRead w pointer) = pointer.1

-- the right operands of `/` and MOD in an expression
abbrev pub divisors_of : Expr → List Expr
divisors_of = para-Expr (List Expr) divisors_step

-- the right operands of `/` and MOD in the expressions of a body
abbrev pub divisors_in : List Stmt → List Expr
divisors_in body = flat_map divisors_of (expressions_in body)

-- a number, but 1 where it is 0: SEL(d = 0, d, 1)
abbrev pub one_for_zero : StType → Expr → Expr
one_for_zero ty d =
    expr.Select (expr.Binary binary.Eq d (expr.Literal ty (pos 0))) d (expr.Literal ty (pos 1))

-- a literal other than 0
pub record IsOtherThanZero (e : Expr) : Type 0 where
  pub ty : StType
  pub number : ℤ
  pub literal : e ≡ expr.Literal ty number
  pub other : number ≢ pos 0

-- a number, but 1 where it is 0
pub record IsOneForZero (e : Expr) : Type 0 where
  pub ty : StType
  pub number : Expr
  pub select : e ≡ one_for_zero ty number

-- no division by this expression has a fault
abbrev pub IsSureDivisor : Expr → Type 0
IsSureDivisor e = IsOtherThanZero e ⊎ IsOneForZero e
