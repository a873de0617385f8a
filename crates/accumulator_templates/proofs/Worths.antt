-- What parts of the accumulators are worth at a stage of a row.
use Rattle.std.proofs.Common.{◌≡◌, ℕ, ◌+◌, ◌*◌, ◌/◌, ◌^◌, ◌<◌, pos, List, Ok, ap, ◌∙◌}
use Rattle.std.specs.Prelude.{ℤ}
use Rattle.memory_areas.specs.Access.{and_then}
use Rattle.s7_base.specs.declared.register.Reg.{Reg}
use Rattle.s7_base.specs.declared.register.Reg.TheVariants as reg
use Rattle.st_tree.specs.State.{State}
use Rattle.st_tree.specs.Value.{value}
use Rattle.st_tree.specs.Operators.{binary_value}
use Rattle.st_tree.specs.declared.state.Value.{Value}
use Rattle.st_tree.specs.declared.expr.BinaryOp.{BinaryOp}
use Rattle.st_tree.specs.declared.expr.BinaryOp.TheVariants as binary
use Rattle.st_tree.specs.declared.expr.Expr.{Expr}
use Rattle.st_tree.specs.declared.expr.StType.TheVariants as type
use Rattle.st_tree.specs.declared.program.Located.{Located}
use Rattle.st_tree.proofs.Equations.{value_binary}
use Rattle.template_parts.specs.Builders.{binary_of, or_of}
use Rattle.accumulator_templates.specs.AccumulatorParts.{with_byte_of, with_low_of}
use Rattle.accumulator_templates.proofs.Patterns.{or_high, or_low, put_byte}
use Rattle.template_parts.proofs.Numbers.{put_low}
use Rattle.template_parts.proofs.Stages.{parts, stage}

-- a pattern as a value
abbrev pub dword : ℕ → Value
dword n = record { ty = type.Dword; n = pos n }

abbrev pub word : ℕ → Value
word n = record { ty = type.Word; n = pos n }

abbrev pub byte : ℕ → Value
byte n = record { ty = type.Byte; n = pos n }

module _ (g : List Located) (s : State) (used : ℕ) (kept : List Value) (registers : Reg → ℤ)
    (a : ℕ) (one : registers reg.Accu1 ≡ pos a) (small : a < 2 ^ 32) where
  -- ACCU1 with another low word
  pub low_worth : (e : Expr) (w : ℕ) → w < 2 ^ 16 → value g e (stage s used kept registers) ≡ Ok (word w)
      → value g (with_low_of e) (stage s used kept registers) ≡ Ok (dword (a / 2 ^ 16 * 2 ^ 16 + w))
  low_worth e w h k = simp (parts, one, k, put_low)

  -- and with another low byte
  pub byte_worth : (e : Expr) (w : ℕ) → w < 2 ^ 8 → value g e (stage s used kept registers) ≡ Ok (byte w)
      → value g (with_byte_of e) (stage s used kept registers) ≡ Ok (dword (a / 2 ^ 8 * 2 ^ 8 + w))
  byte_worth e w h k = simp (parts, one, k, put_byte)

module _ (g : List Located) (s : State) where
  -- an operator between operands of these values
  pub joined_worth : (op : BinaryOp) (e f : Expr) (v w : Value) → value g e s ≡ Ok v → value g f s ≡ Ok w
      → value g (binary_of op e f) s ≡ binary_value op v w
  joined_worth op e f v w h k =
      value_binary g op e f s
      ∙ ap (λ r. and_then r (λ x. and_then (value g f s) (binary_value op x))) h
      ∙ ap (λ r. and_then r (binary_value op v)) k

  -- OR of two patterns that have no bit in common, the higher one first
  pub high_first : (e f : Expr) (x k w : ℕ) → w < 2 ^ k → x * 2 ^ k + w < 2 ^ 32 → value g e s ≡ Ok (dword (x * 2 ^ k)) → value g f s ≡ Ok (dword w)
      → value g (or_of e f) s ≡ Ok (dword (x * 2 ^ k + w))
  high_first e f x k w h small one other =
      joined_worth binary.Or e f (dword (x * 2 ^ k)) (dword w) one other ∙ ap (λ (n : ℕ). Ok (dword n)) (or_high x k w h small)

  -- the lower one first
  pub low_first : (e f : Expr) (x k w : ℕ) → w < 2 ^ k → x * 2 ^ k + w < 2 ^ 32 → value g e s ≡ Ok (dword w) → value g f s ≡ Ok (dword (x * 2 ^ k))
      → value g (or_of e f) s ≡ Ok (dword (x * 2 ^ k + w))
  low_first e f x k w h small one other =
      joined_worth binary.Or e f (dword w) (dword (x * 2 ^ k)) one other ∙ ap (λ (n : ℕ). Ok (dword n)) (or_low x k w h small)
