-- What is promised of the statements of conversions from and to decimal digits.
use Rattle.std.specs.Prelude.{ℕ}
use Rattle.stl_tree.specs.declared.accumulator.UnaryRow.TheVariants as unary
use Rattle.stl_tree.specs.declared.program.Op.TheVariants as op
use Rattle.template_parts.specs.Templates.{Serves}
use Rattle.digit_templates.specs.FromDigits.{btd_of, bti_of, types_of_btd, types_of_bti}
use Rattle.digit_templates.specs.ToDigits.{dtb_of, itb_of, types_of_dtb, types_of_itb}

-- the statements of each instruction serve it, with the locals from any one on
pub record DigitsServe : Type 0 where
  pub bti : (first : ℕ) → Serves (op.Unary unary.Bti) first types_of_bti (bti_of first)
  pub btd : (first : ℕ) → Serves (op.Unary unary.Btd) first types_of_btd (btd_of first)
  pub itb : (first : ℕ) → Serves (op.Unary unary.Itb) first types_of_itb (itb_of first)
  pub dtb : (first : ℕ) → Serves (op.Unary unary.Dtb) first types_of_dtb (dtb_of first)
