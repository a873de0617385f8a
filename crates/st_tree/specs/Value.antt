-- What expressions are worth. All operands are evaluated from the left, always, and the first fault is the answer.
-- Held against: IEC 61131-3, 'Expressions'.
use Rattle.std.specs.Prelude.{List, Result, Ok}
use Rattle.memory_areas.specs.Access.{and_then}
use Rattle.s7_base.specs.declared.outcome.Fault.{Fault}
use Rattle.st_tree.specs.Operators.{unary_value, binary_value, converted_value, selected_value, shift_value}
use Rattle.st_tree.specs.State.{State, read, area_read}
use Rattle.st_tree.specs.Values.{Value}
use Rattle.st_tree.specs.declared.expr.Expr.{Expr, fold-Expr}
use Rattle.st_tree.specs.declared.expr.Expr.TheOpen as E
use Rattle.st_tree.specs.declared.program.Located.{Located}

-- the value of an expression in each state, or its fault
abbrev pub Worth : Type 0
Worth = State → Result Value Fault

-- one layer of an expression, in a text with these globals
abbrev pub value_step : List Located → E.Expr-F Worth → Worth
value_step globals (E.Literal ty n) s = Ok (record { ty = ty; n = n })
value_step globals (E.Read v) s = read globals v s
value_step globals (E.Unary op a) s = and_then (a s) (unary_value op)
value_step globals (E.Binary op a b) s = and_then (a s) (λ v. and_then (b s) (binary_value op v))
value_step globals (E.Convert from to a) s = and_then (a s) (λ v. Ok (converted_value to v))
value_step globals (E.Select gate a b) s =
    and_then (gate s) (λ g. and_then (a s) (λ v. and_then (b s) (λ w. Ok (selected_value g v w))))
value_step globals (E.Shift op a b) s = and_then (a s) (λ v. and_then (b s) (λ count. Ok (shift_value op v count)))
value_step globals (E.AreaRead w a) s = and_then (a s) (λ p. area_read w p s)

-- the value of an expression
abbrev pub value : List Located → Expr → Worth
value globals = fold-Expr Worth (value_step globals)
