-- The statements of each conversion are a template, and do what the row does.
use Rattle.std.proofs.Common.{◌≡◌, ℕ, ◌+◌, pos, [], refl, arith}
use Rattle.s7_base.specs.declared.register.Reg.TheVariants as reg
use Rattle.graph_rules.proofs.Runs.{disorder, disorder_in_parts, order_equations}
use Rattle.st_tree.specs.declared.expr.StType.TheVariants as type
use Rattle.template_parts.specs.Builders.{convert_of, local_of, read_of, with_low_of}
use Rattle.template_parts.proofs.Obligations.{is_template}
use Rattle.template_parts.proofs.Sizes.{counts}
use Rattle.template_parts.proofs.Typing.{no_statement}
use Rattle.digit_templates.specs.DigitLaw.{DigitsServe}
use Rattle.digit_templates.specs.FromDigits.{btd_of, bti_of}
use Rattle.digit_templates.specs.ToDigits.{digits_of, dtb_of, itb_of, measured_of, under_sign_of, written_of}
use Rattle.digit_templates.proofs.FromDigitEffects.{btd_does, bti_does}
use Rattle.digit_templates.proofs.PlainDigits.{btd_plain, btd_reads, bti_plain, bti_reads, dtb_plain, dtb_reads, itb_plain, itb_reads}
use Rattle.digit_templates.proofs.ToDigitEffects.{dtb_does, itb_does}

module _ (first : ℕ) where
  itb_order : disorder first first (itb_of first) ≡ 0
  itb_order =
      disorder_in_parts first first
      (measured_of type.Dint first (convert_of type.Int type.Dint (convert_of type.Dword type.Int (read_of reg.Accu1))) (pos 999))
      (written_of first (under_sign_of type.Dint (local_of first) (digits_of type.Dint (local_of (first + 1)) 2) (pos 0xF000))
      (with_low_of (convert_of type.Dint type.Word (local_of (first + 3)))))
      (simp order_equations (omega arith)) (simp order_equations (omega arith))

  dtb_order : disorder first first (dtb_of first) ≡ 0
  dtb_order =
      disorder_in_parts first first
      (measured_of type.Lint first (convert_of type.Dint type.Lint (convert_of type.Dword type.Dint (read_of reg.Accu1))) (pos 9999999))
      (written_of first (under_sign_of type.Lint (local_of first) (digits_of type.Lint (local_of (first + 1)) 6) (pos 0xF0000000))
      (convert_of type.Lint type.Dword (local_of (first + 3))))
      (simp order_equations (omega arith)) (simp order_equations (omega arith))

pub digits_serve : DigitsServe
digits_serve =
    record {
      bti = λ first. record {
        does = λ g calls units frames now s operand related room. bti_does g calls units frames now s related first room;
        template = is_template _ first _ (bti_of first) tt (omega arith) (simp counts (omega arith)) (λ P h. bti_reads P first [] h tt)
            (simp order_equations (omega arith)) refl (λ sight formals named operand types. bti_plain sight first [] (no_statement sight) types);
      };
      btd = λ first. record {
        does = λ g calls units frames now s operand related room. btd_does g calls units frames now s related first room;
        template = is_template _ first _ (btd_of first) tt (omega arith) (simp counts (omega arith)) (λ P h. btd_reads P first [] h tt)
            (simp order_equations (omega arith)) refl (λ sight formals named operand types. btd_plain sight first [] (no_statement sight) types);
      };
      itb = λ first. record {
        does = λ g calls units frames now s operand related room. itb_does g calls units frames now s related first room;
        template = is_template _ first _ (itb_of first) tt (omega arith) (simp counts (omega arith)) (λ P h. itb_reads P first [] h tt)
            (itb_order first) refl (λ sight formals named operand types. itb_plain sight first [] (no_statement sight) types);
      };
      dtb = λ first. record {
        does = λ g calls units frames now s operand related room. dtb_does g calls units frames now s related first room;
        template = is_template _ first _ (dtb_of first) tt (omega arith) (simp counts (omega arith)) (λ P h. dtb_reads P first [] h tt)
            (dtb_order first) refl (λ sight formals named operand types. dtb_plain sight first [] (no_statement sight) types);
      };
    }
