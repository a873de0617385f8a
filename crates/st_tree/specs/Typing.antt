-- The types of variables and expressions. Whether the operands of an expression fit is not asked here.
-- Held against: IEC 61131-3, 'Data types' and 'Expressions'.
use Rattle.std.specs.Prelude.{List, slice_get, Option, Some, None}
use Rattle.st_tree.specs.State.{type_of_register}
use Rattle.st_tree.specs.Values.{type_of_width}
use Rattle.st_tree.specs.declared.expr.StType.{StType}
use Rattle.st_tree.specs.declared.expr.StType.TheVariants as type
use Rattle.st_tree.specs.declared.expr.UnaryOp.{UnaryOp}
use Rattle.st_tree.specs.declared.expr.UnaryOp.TheVariants as unary
use Rattle.st_tree.specs.declared.expr.BinaryOp.{BinaryOp}
use Rattle.st_tree.specs.declared.expr.BinaryOp.TheVariants as binary
use Rattle.st_tree.specs.declared.expr.Var.{Var}
use Rattle.st_tree.specs.declared.expr.Var.TheVariants as var
use Rattle.st_tree.specs.declared.expr.Expr.{Expr, fold-Expr}
use Rattle.st_tree.specs.declared.expr.Expr.TheOpen as E
use Rattle.st_tree.specs.declared.program.Local.{Local}
use Rattle.st_tree.specs.declared.program.Located.{Located}
use Rattle.st_tree.specs.declared.program.Pou.{Pou}

-- what the statements of a unit can name, by position
pub record Names : Type 0 where
  pub globals : List Located
  pub units : List Pou
  pub formals : List Local
  pub locals : List Local

-- the type of a local or a formal; a position past the last has none, and counts as BOOL
abbrev pub local_type : Option Local → StType
local_type None = type.Bool
local_type (Some local) = local.ty

-- the type of a global; a position past the last has none, and counts as BOOL
abbrev pub global_type : Option Located → StType
global_type None = type.Bool
global_type (Some global) = global.ty

-- the type of a variable
abbrev pub var_type : Names → Var → StType
var_type names (var.Register r) = type_of_register r
var_type names (var.Local i) = local_type (slice_get names.locals i)
var_type names (var.Formal i) = local_type (slice_get names.formals i)
var_type names (var.Global i) = global_type (slice_get names.globals i)
var_type names (var.Direct area byte bit w) = type_of_width w
var_type names (var.InBlock block byte bit w) = type_of_width w

-- the type that an operator on one operand gives
abbrev pub unary_type : UnaryOp → StType → StType
unary_type unary.Minus operand = operand
unary_type unary.Not operand = operand
unary_type unary.BcdToInt operand = type.Int
unary_type unary.BcdToDint operand = type.Dint

-- the type that an operator between operands gives: BOOL for a comparison, else that of the left one
abbrev pub binary_type : BinaryOp → StType → StType
binary_type binary.Mul left = left
binary_type binary.Div left = left
binary_type binary.Mod left = left
binary_type binary.Add left = left
binary_type binary.Sub left = left
binary_type binary.Lt left = type.Bool
binary_type binary.Gt left = type.Bool
binary_type binary.Le left = type.Bool
binary_type binary.Ge left = type.Bool
binary_type binary.Eq left = type.Bool
binary_type binary.Ne left = type.Bool
binary_type binary.And left = left
binary_type binary.Xor left = left
binary_type binary.Or left = left

-- the type of an expression by those of its operands; they are not tested here
abbrev pub type_step : Names → E.Expr-F StType → StType
type_step names (E.Literal ty n) = ty
type_step names (E.Read v) = var_type names v
type_step names (E.Unary op operand) = unary_type op operand
type_step names (E.Binary op left right) = binary_type op left
type_step names (E.Convert from to operand) = to
type_step names (E.Select gate first second) = first
type_step names (E.Shift op operand count) = operand
type_step names (E.AreaRead w pointer) = type_of_width w

-- the type of an expression whose operands have the types that their operators ask for
abbrev pub type_of : Names → Expr → StType
type_of names = fold-Expr StType (type_step names)
