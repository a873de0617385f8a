-- The statements of each row are a template, and do what the row does.
use Rattle.std.proofs.Common.{◌≡◌, ℕ, ◌≤◌, [], length, refl, subst, arith}
use Rattle.s7_base.specs.declared.word.Width.{Width}
use Rattle.s7_base.specs.declared.word.Width.TheVariants as width
use Rattle.status_word.specs.declared.test.Test.{Test}
use Rattle.status_word.specs.declared.test.Test.TheVariants as test
use Rattle.stl_tree.specs.Reads.{reads_of}
use Rattle.stl_tree.specs.declared.accumulator.Arith.{Arith}
use Rattle.stl_tree.specs.declared.accumulator.Arith.TheVariants as row
use Rattle.stl_tree.specs.declared.accumulator.UnaryRow.{UnaryRow}
use Rattle.stl_tree.specs.declared.accumulator.UnaryRow.TheVariants as unary
use Rattle.stl_tree.specs.declared.program.Op.TheVariants as op
use Rattle.graph_rules.proofs.Runs.{disorder, order_equations}
use Rattle.template_parts.specs.Nodes.{nodes_in}
use Rattle.template_parts.specs.Templates.{IsTemplate}
use Rattle.graph_rules.specs.Writes.{AreWrites}
use Rattle.template_parts.proofs.Obligations.{is_template}
use Rattle.template_parts.proofs.ReadRegisters.{Has}
use Rattle.template_parts.proofs.Sizes.{counts}
use Rattle.template_parts.proofs.Typing.{no_statement}
use Rattle.arithmetic_templates.specs.ArithmeticLaw.{ArithmeticServes}
use Rattle.arithmetic_templates.specs.Calculations.{calculated_of, divisor_kept_of, divisor_of, negated_of, quotient_in_dword_of, quotient_in_words_of, remainder_in_dword_of, types_of_calculated, types_of_negated}
use Rattle.arithmetic_templates.specs.Comparisons.{compared_of, types_of_compared}
use Rattle.arithmetic_templates.proofs.FewReads.{calculated_reads, compared_reads, negated_reads}
use Rattle.graph_rules.proofs.LocalOrder.{local_order}
use Rattle.arithmetic_templates.proofs.PlainStatements.{calculated_plain, compared_plain, negated_plain}
use Rattle.arithmetic_templates.proofs.Effects.{calculated_does, calculated_locals, compared_does, negated_does}

module _ (first : ℕ) where
  -- by what is counted of them
  calculated_counts : (a : Arith) → AreWrites (calculated_of first a) → length (calculated_of first a) ≤ 11 → nodes_in (calculated_of first a) ≤ 91
      → disorder first first (calculated_of first a) ≡ 0 → IsTemplate (op.Arith a) first (types_of_calculated a) (calculated_of first a)
  calculated_counts a writes few small order =
      is_template (op.Arith a) first (types_of_calculated a) (calculated_of first a) writes few small
      (λ P h. calculated_reads P first [] tt a h) order (calculated_locals a first)
      (λ sight formals named operand types. calculated_plain sight [] (no_statement sight) first a types)

  calculated_template : (a : Arith) → IsTemplate (op.Arith a) first (types_of_calculated a) (calculated_of first a)
  unfolding divisor_of divisor_kept_of quotient_in_words_of quotient_in_dword_of remainder_in_dword_of
  calculated_template row.AddI = calculated_counts row.AddI tt (omega arith) (simp counts (omega arith)) (simp order_equations (simp local_order))
  calculated_template other = calculated_counts other tt (omega arith) (simp counts (omega arith)) (simp order_equations (simp local_order))

  -- NEGI, and NEGD, which reads the same registers
  negated_counts : (u : UnaryRow) (w : Width) → reads_of (op.Unary u) ≡ reads_of (op.Unary unary.Negi)
      → nodes_in (negated_of first w) ≤ 91 → disorder first first (negated_of first w) ≡ 0
      → IsTemplate (op.Unary u) first (types_of_negated w) (negated_of first w)
  negated_counts u w same small order =
      is_template (op.Unary u) first (types_of_negated w) (negated_of first w) tt (omega arith) small
      (λ P h. negated_reads P first [] tt w (subst (Has P) same h)) order refl
      (λ sight formals named operand types. negated_plain sight [] (no_statement sight) first w types)

  negi_template : IsTemplate (op.Unary unary.Negi) first (types_of_negated width.Word) (negated_of first width.Word)
  negi_template = negated_counts unary.Negi width.Word refl (simp counts (omega arith)) (simp order_equations (simp local_order))

  negd_template : IsTemplate (op.Unary unary.Negd) first (types_of_negated width.Dword) (negated_of first width.Dword)
  negd_template = negated_counts unary.Negd width.Dword refl (simp counts (omega arith)) (simp order_equations (simp local_order))

  compared_counts : (t : Test) (w : Width) → nodes_in (compared_of first t w) ≤ 91 → disorder first first (compared_of first t w) ≡ 0
      → IsTemplate (op.Compare t w) first (types_of_compared w) (compared_of first t w)
  compared_counts t w small order =
      is_template (op.Compare t w) first (types_of_compared w) (compared_of first t w) tt (omega arith) small
      (λ P h. compared_reads P first [] tt t w h) order refl (λ sight formals named operand types. compared_plain sight [] (no_statement sight) first t w types)

  compared_template : (t : Test) (w : Width) → IsTemplate (op.Compare t w) first (types_of_compared w) (compared_of first t w)
  compared_template test.Eq w = compared_counts test.Eq w (simp counts (omega arith)) (simp order_equations (simp local_order))
  compared_template other w = compared_counts other w (simp counts (omega arith)) (simp order_equations (simp local_order))

pub arithmetic_serves : ArithmeticServes
arithmetic_serves =
    record {
      calculated = λ a first. record {
        does = λ g calls units frames now s operand related room. calculated_does g calls units frames now s related first a room;
        template = calculated_template first a;
      };
      negi = λ first. record {
        does = λ g calls units frames now s operand related room. negated_does g calls units frames now s related first width.Word tt room;
        template = negi_template first;
      };
      negd = λ first. record {
        does = λ g calls units frames now s operand related room. negated_does g calls units frames now s related first width.Dword tt room;
        template = negd_template first;
      };
      compared = λ t w first. record {
        does = λ g calls units frames now s operand related room. compared_does g calls units frames now s related first t w operand room;
        template = compared_template first t w;
      };
    }
