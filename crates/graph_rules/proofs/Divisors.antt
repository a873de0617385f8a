-- The divisors in an expression, by its layers.
use Rattle.std.proofs.Common.{◌≡◌, List, [], ◌∷◌, ◌++◌, refl, sym, ap, ◌∙◌}
use Rattle.std.specs.Prelude.{ℤ}
use Rattle.std.specs.List.{flat_map}
use Rattle.st_tree.proofs.Common.{flat_map-append}
use Rattle.s7_base.specs.declared.word.Width.{Width}
use Rattle.st_tree.proofs.PartEquations.{expressions_in_append}
use Rattle.st_tree.specs.BodyParts.{expressions_in}
use Rattle.st_tree.specs.declared.expr.BinaryOp.{BinaryOp}
use Rattle.st_tree.specs.declared.expr.BinaryOp.TheVariants as binary
use Rattle.st_tree.specs.declared.expr.Expr.{Expr, para-roll-Expr}
use Rattle.st_tree.specs.declared.expr.Expr.TheOpen as E
use Rattle.st_tree.specs.declared.expr.Expr.TheVariants as expr
use Rattle.st_tree.specs.declared.expr.ShiftOp.{ShiftOp}
use Rattle.st_tree.specs.declared.expr.StType.{StType}
use Rattle.st_tree.specs.declared.expr.UnaryOp.{UnaryOp}
use Rattle.st_tree.specs.declared.expr.Var.{Var}
use Rattle.st_tree.specs.declared.program.Stmt.{Stmt}
use Rattle.graph_rules.specs.Divisors.{divisors_in, divisors_of, divisors_step}

pub of_literal : (ty : StType) (n : ℤ) → divisors_of (expr.Literal ty n) ≡ []
of_literal ty n = ap divisors_of (sym (expr.rolls-Literal ty n)) ∙ para-roll-Expr (List Expr) divisors_step (E.Literal ty n)

pub of_read : (v : Var) → divisors_of (expr.Read v) ≡ []
of_read v = ap divisors_of (sym (expr.rolls-Read v)) ∙ para-roll-Expr (List Expr) divisors_step (E.Read v)

pub of_unary : (op : UnaryOp) (a : Expr) → divisors_of (expr.Unary op a) ≡ divisors_of a
of_unary op a = ap divisors_of (sym (expr.rolls-Unary op a)) ∙ para-roll-Expr (List Expr) divisors_step (E.Unary op a)

-- an operator but `/` and MOD
abbrev pub IsNoDivision : BinaryOp → Type 0
IsNoDivision binary.Div = ⊥
IsNoDivision binary.Mod = ⊥
IsNoDivision op = Unit {0}

by_operator : (op : BinaryOp) (a b : Expr)
    → divisors_of (expr.Binary op a b) ≡ divisors_step (E.Binary op (a, divisors_of a) (b, divisors_of b))
by_operator op a b = ap divisors_of (sym (expr.rolls-Binary op a b)) ∙ para-roll-Expr (List Expr) divisors_step (E.Binary op a b)

pub of_binary : (op : BinaryOp) → IsNoDivision op → (a b : Expr) → divisors_of (expr.Binary op a b) ≡ divisors_of a ++ divisors_of b
of_binary op h a b = by_operator op a b ∙ by op h
  where
    by : (op : BinaryOp) → IsNoDivision op → divisors_step (E.Binary op (a, divisors_of a) (b, divisors_of b)) ≡ divisors_of a ++ divisors_of b
    by binary.Div h = elim h [ ]
    by binary.Mod h = elim h [ ]
    by op h = refl

pub of_quotient : (a b : Expr) → divisors_of (expr.Binary binary.Div a b) ≡ b ∷ divisors_of a ++ divisors_of b
of_quotient a b = by_operator binary.Div a b

pub of_remainder : (a b : Expr) → divisors_of (expr.Binary binary.Mod a b) ≡ b ∷ divisors_of a ++ divisors_of b
of_remainder a b = by_operator binary.Mod a b

pub of_convert : (from to : StType) (a : Expr) → divisors_of (expr.Convert from to a) ≡ divisors_of a
of_convert from to a =
    ap divisors_of (sym (expr.rolls-Convert from to a)) ∙ para-roll-Expr (List Expr) divisors_step (E.Convert from to a)

pub of_select : (gate a b : Expr) → divisors_of (expr.Select gate a b) ≡ divisors_of gate ++ divisors_of a ++ divisors_of b
of_select gate a b =
    ap divisors_of (sym (expr.rolls-Select gate a b)) ∙ para-roll-Expr (List Expr) divisors_step (E.Select gate a b)

pub of_shift : (op : ShiftOp) (a count : Expr) → divisors_of (expr.Shift op a count) ≡ divisors_of a ++ divisors_of count
of_shift op a count =
    ap divisors_of (sym (expr.rolls-Shift op a count)) ∙ para-roll-Expr (List Expr) divisors_step (E.Shift op a count)

pub of_area_read : (w : Width) (a : Expr) → divisors_of (expr.AreaRead w a) ≡ divisors_of a
of_area_read w a = ap divisors_of (sym (expr.rolls-AreaRead w a)) ∙ para-roll-Expr (List Expr) divisors_step (E.AreaRead w a)

pub in_parts : (xs ys : List Stmt) → divisors_in (xs ++ ys) ≡ divisors_in xs ++ divisors_in ys
in_parts xs ys = ap (flat_map divisors_of) (expressions_in_append xs ys) ∙ flat_map-append divisors_of (expressions_in xs) (expressions_in ys)
