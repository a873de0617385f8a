-- Truth values as expressions have them.
use Rattle.std.proofs.Common.{◌≡◌, pos, Bool, true, false, not, ◌&&◌, ◌||◌, if◌then◌else◌, List, Ok, Err, refl, ap, ◌∙◌}
use Rattle.memory_areas.specs.Access.{and_then}
use Rattle.s7_base.specs.declared.outcome.Fault.{Fault}
use Rattle.s7_base.specs.declared.register.Reg.{Reg}
use Rattle.st_tree.specs.Operators.{unary_value, binary_value}
use Rattle.st_tree.specs.State.{State, type_of_register}
use Rattle.st_tree.specs.Value.{value}
use Rattle.st_tree.specs.Values.{flag, number_of}
use Rattle.st_tree.specs.declared.expr.BinaryOp.{BinaryOp}
use Rattle.st_tree.specs.declared.expr.BinaryOp.TheVariants as binary
use Rattle.st_tree.specs.declared.expr.Expr.{Expr}
use Rattle.st_tree.specs.declared.expr.Expr.TheVariants as expr
use Rattle.st_tree.specs.declared.expr.StType.TheVariants as type
use Rattle.st_tree.specs.declared.expr.UnaryOp.TheVariants as unary
use Rattle.st_tree.specs.declared.expr.Var.TheVariants as var
use Rattle.st_tree.specs.declared.program.Located.{Located}
use Rattle.st_tree.proofs.Equations.{value_binary, value_literal, value_read, value_unary}
use Rattle.template_parts.specs.Builders.{and_of, literal_of, not_of, or_of, read_of, xor_of}

-- Operators

not_flag : (a : Bool) → unary_value unary.Not (flag a) ≡ Ok (flag (not a))
not_flag true = refl
not_flag false = refl

and_flags : (a b : Bool) → binary_value binary.And (flag a) (flag b) ≡ Ok (flag (a && b))
and_flags true true = refl
and_flags true false = refl
and_flags false true = refl
and_flags false false = refl

or_flags : (a b : Bool) → binary_value binary.Or (flag a) (flag b) ≡ Ok (flag (a || b))
or_flags true true = refl
or_flags true false = refl
or_flags false true = refl
or_flags false false = refl

xor_flags : (a b : Bool) → binary_value binary.Xor (flag a) (flag b) ≡ Ok (flag (if a then not b else b))
xor_flags true true = refl
xor_flags true false = refl
xor_flags false true = refl
xor_flags false false = refl

-- Expressions

module _ (g : List Located) (s : State) where
  -- an expression is worth this truth value
  abbrev pub IsWorth : Expr → Bool → Type 0
  IsWorth e b = value g e s ≡ Ok (flag b)

  -- it faults
  abbrev pub Stops : Expr → Fault → Type 0
  Stops e f = value g e s ≡ Err f

  pub literal_worth : (b : Bool) → IsWorth (literal_of b) b
  literal_worth true = value_literal g type.Bool (pos 1) s
  literal_worth false = value_literal g type.Bool (pos 0) s

  -- a register of type BOOL
  pub register_worth : (r : Reg) (b : Bool) → type_of_register r ≡ type.Bool → s.registers r ≡ number_of b → IsWorth (read_of r) b
  register_worth r b h e = value_read g (var.Register r) s ∙ (rw (h, e) refl)

  pub not_worth : (e : Expr) (a : Bool) → IsWorth e a → IsWorth (not_of e) (not a)
  not_worth e a h = value_unary g unary.Not e s ∙ ap (λ r. and_then r (unary_value unary.Not)) h ∙ not_flag a

  joined_worth : (op : BinaryOp) (e f : Expr) (a b : Bool) → IsWorth e a → IsWorth f b
      → value g (expr.Binary op e f) s ≡ binary_value op (flag a) (flag b)
  joined_worth op e f a b h k =
      value_binary g op e f s
      ∙ ap (λ r. and_then r (λ v. and_then (value g f s) (binary_value op v))) h
      ∙ ap (λ r. and_then r (binary_value op (flag a))) k

  pub and_worth : (e f : Expr) (a b : Bool) → IsWorth e a → IsWorth f b → IsWorth (and_of e f) (a && b)
  and_worth e f a b h k = joined_worth binary.And e f a b h k ∙ and_flags a b

  pub or_worth : (e f : Expr) (a b : Bool) → IsWorth e a → IsWorth f b → IsWorth (or_of e f) (a || b)
  or_worth e f a b h k = joined_worth binary.Or e f a b h k ∙ or_flags a b

  pub xor_worth : (e f : Expr) (a b : Bool) → IsWorth e a → IsWorth f b → IsWorth (xor_of e f) (if a then not b else b)
  xor_worth e f a b h k = joined_worth binary.Xor e f a b h k ∙ xor_flags a b

  -- the first operand that faults

  pub not_stops : (e : Expr) (f : Fault) → Stops e f → Stops (not_of e) f
  not_stops e f h = value_unary g unary.Not e s ∙ ap (λ r. and_then r (unary_value unary.Not)) h

  pub left_stops : (op : BinaryOp) (e d : Expr) (f : Fault) → Stops e f → Stops (expr.Binary op e d) f
  left_stops op e d f h = value_binary g op e d s ∙ ap (λ r. and_then r (λ v. and_then (value g d s) (binary_value op v))) h

  pub right_stops : (op : BinaryOp) (e d : Expr) (a : Bool) (f : Fault) → IsWorth e a → Stops d f → Stops (expr.Binary op e d) f
  right_stops op e d a f h k =
      value_binary g op e d s
      ∙ ap (λ r. and_then r (λ v. and_then (value g d s) (binary_value op v))) h
      ∙ ap (λ r. and_then r (binary_value op (flag a))) k
