-- Expressions with their brackets. An expression as a text has it, the precedence of operators, and the brackets that
-- a tree needs.
-- Held against: IEC 61131-3, 'Expressions'.
use Rattle.std.specs.Prelude.{ℕ, ◌-◌, ℤ, nat_lt, if◌then◌else◌}
use Rattle.s7_base.specs.declared.word.Width.{Width}
use Rattle.st_tree.specs.declared.expr.StType.{StType}
use Rattle.st_tree.specs.declared.expr.UnaryOp.{UnaryOp}
use Rattle.st_tree.specs.declared.expr.UnaryOp.TheVariants as unary
use Rattle.st_tree.specs.declared.expr.BinaryOp.{BinaryOp}
use Rattle.st_tree.specs.declared.expr.BinaryOp.TheVariants as binary
use Rattle.st_tree.specs.declared.expr.ShiftOp.{ShiftOp}
use Rattle.st_tree.specs.declared.expr.Var.{Var}
use Rattle.st_tree.specs.declared.expr.Expr.{Expr, fold-Expr}
use Rattle.st_tree.specs.declared.expr.Expr.TheOpen as E

-- an expression that keeps its brackets
pub data Form : Type 0 where
  literal : StType → ℤ → Form
  variable : Var → Form
  group : Form → Form
  prefix : UnaryOp → Form → Form
  infix_of : BinaryOp → Form → Form → Form
  digits_to : UnaryOp → Form → Form
  convert : StType → StType → Form → Form
  select : Form → Form → Form → Form
  shift : ShiftOp → Form → Form → Form
  area_read : Width → Form → Form

-- The levels of precedence, the highest first: operands, functions and brackets 0, `-` 1, NOT 2, `*`
-- `/` MOD 3, `+` `-` 4, `<` `>` `<=` `>=` 5, `=` `<>` 6, AND 7, XOR 8, OR 9.

-- the level of an operator before its operand; the BCD conversions are functions
abbrev pub prefix_level : UnaryOp → ℕ
prefix_level unary.Minus = 1
prefix_level unary.Not = 2
prefix_level unary.BcdToInt = 0
prefix_level unary.BcdToDint = 0

-- the level of an operator between its operands
abbrev pub infix_level : BinaryOp → ℕ
infix_level binary.Mul = 3
infix_level binary.Div = 3
infix_level binary.Mod = 3
infix_level binary.Add = 4
infix_level binary.Sub = 4
infix_level binary.Lt = 5
infix_level binary.Gt = 5
infix_level binary.Le = 5
infix_level binary.Ge = 5
infix_level binary.Eq = 6
infix_level binary.Ne = 6
infix_level binary.And = 7
infix_level binary.Xor = 8
infix_level binary.Or = 9

-- the lowest level, that of OR
abbrev pub weakest : ℕ
weakest = 9

-- the precedence of an expression: that of its outermost operator that no brackets enclose
abbrev pub level : Form → ℕ
level (literal ty n) = 0
level (variable v) = 0
level (group f) = 0
level (prefix op f) = prefix_level op
level (infix_of op f g) = infix_level op
level (digits_to op f) = 0
level (convert from to f) = 0
level (select f g h) = 0
level (shift op f g) = 0
level (area_read w f) = 0

-- the expression at a place that takes levels up to k, in brackets where its precedence is lower
abbrev pub wrap : ℕ → Form → Form
wrap k f = if nat_lt k (level f) then group f else f

-- an operator on one operand, before it or as a function
abbrev pub unary_form : UnaryOp → Form → Form
unary_form unary.Minus f = prefix unary.Minus (wrap (prefix_level unary.Minus) f)
unary_form unary.Not f = prefix unary.Not (wrap (prefix_level unary.Not) f)
unary_form unary.BcdToInt f = digits_to unary.BcdToInt f
unary_form unary.BcdToDint f = digits_to unary.BcdToDint f

-- one layer of an expression whose operands have their brackets; operators between operands group to
-- the left
abbrev pub canon_step : E.Expr-F Form → Form
canon_step (E.Literal ty n) = literal ty n
canon_step (E.Read v) = variable v
canon_step (E.Unary op f) = unary_form op f
canon_step (E.Binary op f g) = infix_of op (wrap (infix_level op) f) (wrap (infix_level op - 1) g)
canon_step (E.Convert from to f) = convert from to f
canon_step (E.Select f g h) = select f g h
canon_step (E.Shift op f g) = shift op f g
canon_step (E.AreaRead w f) = area_read w f

-- the expression with the brackets that precedence asks for, and no others
abbrev pub canon : Expr → Form
canon = fold-Expr Form canon_step
