-- What is promised of the statements of arithmetic rows, negations and comparisons.
use Rattle.std.specs.Prelude.{ℕ}
use Rattle.s7_base.specs.declared.word.Width.{Width}
use Rattle.s7_base.specs.declared.word.Width.TheVariants as width
use Rattle.status_word.specs.declared.test.Test.{Test}
use Rattle.stl_tree.specs.Accepted.{HasOperand}
use Rattle.stl_tree.specs.declared.accumulator.Arith.{Arith}
use Rattle.stl_tree.specs.declared.accumulator.UnaryRow.TheVariants as unary
use Rattle.stl_tree.specs.declared.program.Op.TheVariants as op
use Rattle.template_parts.specs.Templates.{Serves}
use Rattle.arithmetic_templates.specs.Calculations.{calculated_of, negated_of, types_of_calculated, types_of_negated}
use Rattle.arithmetic_templates.specs.Comparisons.{compared_of, types_of_compared}

-- the statements of each instruction serve it, with the locals from any one on; a comparison is one that an accepted
-- program may have
pub record ArithmeticServes : Type 0 where
  pub calculated : (a : Arith) (first : ℕ) → Serves (op.Arith a) first (types_of_calculated a) (calculated_of first a)
  pub negi : (first : ℕ)
      → Serves (op.Unary unary.Negi) first (types_of_negated width.Word) (negated_of first width.Word)
  pub negd : (first : ℕ)
      → Serves (op.Unary unary.Negd) first (types_of_negated width.Dword) (negated_of first width.Dword)
  pub compared : (t : Test) (w : Width) (first : ℕ)
      → Serves (op.Compare t w) first (types_of_compared w) (compared_of first t w)
