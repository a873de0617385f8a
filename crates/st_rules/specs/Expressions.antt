-- How expressions are judged. Their types and what they are in the tree, and the rules that are broken in them. An
-- expression in which a rule is broken has no type, and breaks no TypeMismatch in those around it: on one line that
-- would never be the first.
-- Held against: IEC 61131-3, 'Expressions'.
use Rattle.std.specs.Prelude.{ℤ, ◌++◌, Option, Some, None, Result, Ok, Err}
use Rattle.s7_base.specs.declared.reason.Line.{Line}
use Rattle.s7_base.specs.declared.reason.Reason.{Reason}
use Rattle.s7_base.specs.declared.reason.Reason.TheVariants.{TypeMismatch}
use Rattle.s7_base.specs.declared.word.Width.{Width}
use Rattle.st_tree.specs.declared.expr.BinaryOp.{BinaryOp}
use Rattle.st_tree.specs.declared.expr.Expr.{Expr}
use Rattle.st_tree.specs.declared.expr.Expr.TheVariants as expr
use Rattle.st_tree.specs.declared.expr.ShiftOp.{ShiftOp}
use Rattle.st_tree.specs.declared.expr.StType.{StType}
use Rattle.st_tree.specs.declared.expr.UnaryOp.{UnaryOp}
use Rattle.st_tree.specs.declared.raw.RawVar.{RawVar}
use Rattle.st_tree.specs.declared.raw.RawExpr.{RawExpr, fold-RawExpr}
use Rattle.st_tree.specs.declared.raw.RawExpr.TheOpen as E
use Rattle.st_rules.specs.Judged.{Judged, sound, nothing, breaks_rule, after_breaks}
use Rattle.st_tree.specs.TypeRules.{type_of_unary, type_of_binary, type_of_conversion, type_of_choice, type_of_shift, type_of_read}
use Rattle.st_names.specs.Variables.{variable}
use Rattle.st_rules.specs.declared.expression.Typed.{Typed}
use Rattle.st_names.specs.declared.scope.NameScope.{NameScope}
use Rattle.st_names.specs.declared.variable.TypedVar.{TypedVar}

-- an answer on a line: a part of the tree, or the rule that it breaks
abbrev pub judgement_on : {T : Type 0} → Line → Result T Reason → Judged T
judgement_on line (Ok x) = sound x
judgement_on line (Err rule) = breaks_rule line rule

-- an expression of a type, if its operands fit
abbrev pub typed_as : Line → Option StType → Expr → Judged Typed
typed_as line None e = breaks_rule line TypeMismatch
typed_as line (Some ty) e = sound (record { ty = ty; tree = e })

-- a literal of a type
abbrev pub literal_of : StType → ℤ → Typed
literal_of ty value = record { ty = ty; tree = expr.Literal ty value }

-- a variable that is read
abbrev pub read_of : Option TypedVar → Option Typed
read_of None = None
read_of (Some v) = Some (record { ty = v.ty; tree = expr.Read v.var })

-- minus, NOT or a BCD conversion of an operand; nothing where the operand breaks a rule
abbrev pub unary_of : Line → UnaryOp → Option Typed → Judged Typed
unary_of line op None = nothing
unary_of line op (Some a) = typed_as line (type_of_unary op a.ty) (expr.Unary op a.tree)

-- an operator between two operands; nothing where one of them breaks a rule
abbrev pub binary_of : Line → BinaryOp → Option Typed → Option Typed → Judged Typed
binary_of line op None b = nothing
binary_of line op (Some a) None = nothing
binary_of line op (Some a) (Some b) = typed_as line (type_of_binary op a.ty b.ty) (expr.Binary op a.tree b.tree)

-- `A_TO_B` of an operand, which must have the type A; nothing where the operand breaks a rule
abbrev pub conversion_of : Line → StType → StType → Option Typed → Judged Typed
conversion_of line from to None = nothing
conversion_of line from to (Some a) = typed_as line (type_of_conversion from to a.ty) (expr.Convert from to a.tree)

-- SEL of a BOOL and two values; nothing where one of the three breaks a rule
abbrev pub choice_of : Line → Option Typed → Option Typed → Option Typed → Judged Typed
choice_of line None a b = nothing
choice_of line (Some gate) None b = nothing
choice_of line (Some gate) (Some a) None = nothing
choice_of line (Some gate) (Some a) (Some b) =
    typed_as line (type_of_choice gate.ty a.ty b.ty) (expr.Select gate.tree a.tree b.tree)

-- a shift or a rotation by a count; nothing where the value or the count breaks a rule
abbrev pub shift_of : Line → ShiftOp → Option Typed → Option Typed → Judged Typed
shift_of line op None count = nothing
shift_of line op (Some a) None = nothing
shift_of line op (Some a) (Some count) = typed_as line (type_of_shift a.ty count.ty) (expr.Shift op a.tree count.tree)

-- a read of a width through a pointer; nothing where the pointer breaks a rule
abbrev pub area_read_of : Line → Width → Option Typed → Judged Typed
area_read_of line w None = nothing
area_read_of line w (Some p) = typed_as line (type_of_read w p.ty) (expr.AreaRead w p.tree)

-- a variable on a line
abbrev pub variable_on : NameScope → Line → RawVar → Judged TypedVar
variable_on scope line v = judgement_on line (variable scope v)

-- an expression on a line by its form, with its operands as they are judged
abbrev pub expression_step : NameScope → Line → E.RawExpr-F (Judged Typed) → Judged Typed
expression_step scope line (E.Literal ty value) = sound (literal_of ty value)
expression_step scope line (E.Read v) =
    record { found = read_of (variable_on scope line v).found; breaks = (variable_on scope line v).breaks }
expression_step scope line (E.Unary op a) = after_breaks a.breaks (unary_of line op a.found)
expression_step scope line (E.Binary op a b) = after_breaks (a.breaks ++ b.breaks) (binary_of line op a.found b.found)
expression_step scope line (E.Convert from to a) = after_breaks a.breaks (conversion_of line from to a.found)
expression_step scope line (E.Select gate a b) =
    after_breaks (gate.breaks ++ a.breaks ++ b.breaks) (choice_of line gate.found a.found b.found)
expression_step scope line (E.Shift op a count) =
    after_breaks (a.breaks ++ count.breaks) (shift_of line op a.found count.found)
expression_step scope line (E.AreaRead w p) = after_breaks p.breaks (area_read_of line w p.found)

-- an expression on a line
abbrev pub expression : NameScope → Line → RawExpr → Judged Typed
expression scope line = fold-RawExpr (Judged Typed) (expression_step scope line)
