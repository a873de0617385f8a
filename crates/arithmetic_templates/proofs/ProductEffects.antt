-- Products: their statements do what the rows do.
use Rattle.std.proofs.Common.{ℕ, pos, ◌||◌, List, [], ◌∷◌, refl}
use Rattle.std.specs.Prelude.{ℤ, ◌*ℤ◌, int_lt}
use Rattle.s7_base.specs.SignedNumbers.{is_over, pattern}
use Rattle.s7_base.specs.declared.register.Reg.TheVariants as reg
use Rattle.s7_base.specs.declared.word.Width.{Width}
use Rattle.s7_base.specs.declared.word.Width.TheVariants as width
use Rattle.memory_areas.specs.Access.{bits_wide}
use Rattle.stl_tree.specs.Accumulators.{signed_part}
use Rattle.stl_tree.specs.Arithmetic.{product_in}
use Rattle.stl_tree.specs.Registers.{RegisterValues}
use Rattle.st_tree.specs.State.{State}
use Rattle.st_tree.specs.Values.{flag}
use Rattle.st_tree.specs.declared.state.Value.{Value}
use Rattle.st_tree.specs.declared.expr.BinaryOp.TheVariants as binary
use Rattle.st_tree.specs.declared.expr.StType.TheVariants as type
use Rattle.st_tree.specs.declared.program.Located.{Located}
use Rattle.template_parts.specs.Related.{AreAlike}
use Rattle.instruction_laws.specs.Ranges.{AreInRange}
use Rattle.template_parts.proofs.Numbers.{or_numbers, over_word, wide_low}
use Rattle.template_parts.proofs.RegisterEffects.{HasRegisterEffect, registers_after}
use Rattle.template_parts.proofs.Stages.{known, parts}
use Rattle.arithmetic_templates.specs.Calculations.{operation_of, product_of}
use Rattle.arithmetic_templates.specs.Numbers.{wide}
use Rattle.arithmetic_templates.proofs.ResultEffects.{IsCalculated, IsWorth}
use Rattle.arithmetic_templates.proofs.WideNumbers.{dword_below, over_dword, wide_dword, wide_dword_product, wide_product}

-- the values of the right sides for a true product
abbrev product_values : Width → ℤ → RegisterValues → List Value
product_values w z r =
    record { ty = wide w; n = z }
    ∷ flag (is_over (bits_wide w) z)
    ∷ flag (int_lt (pos 0) z)
    ∷ flag (int_lt z (pos 0))
    ∷ flag (is_over (bits_wide w) z)
    ∷ flag (r.status.os || is_over (bits_wide w) z)
    ∷ record { ty = type.Dword; n = pos (pattern 32 z) }
    ∷ []

module _ (g : List Located) (s : State) (used : ℕ) (r : RegisterValues) (sta : ℤ) (range : AreInRange r) where
  -- the number in ACCU2 times that in ACCU1
  abbrev product : Width → ℤ
  product w = signed_part w r.accu2 *ℤ signed_part w r.accu1

  product_alike : (w : Width) (z : ℤ) → AreAlike (product_in w z r) (registers_after (product_of used w) (product_values w z r) (known r sta))
  product_alike w z reg.Sta asked = elim asked [ ]
  product_alike w z q asked = refl

  product_range : (w : Width) (z : ℤ) → AreInRange (product_in w z r)
  product_range w z =
      record { accu1 = dword_below z; accu2 = range.accu2; ar1 = range.ar1; ar2 = range.ar2; db = range.db; di = range.di }

  product_worth : (w : Width) → IsCalculated w → IsWorth g s used r sta range w (operation_of binary.Mul w) (product w)
  product_worth width.Word calculated = simp (parts, wide_low, wide_product)
  product_worth width.Dword calculated = simp (parts, wide_dword, wide_dword_product)
  product_worth other calculated = elim calculated [ ]

  product_has_effect : (w : Width) → IsCalculated w → (z : ℤ) → IsWorth g s used r sta range w (operation_of binary.Mul w) z
      → HasRegisterEffect g s used (product_of used w) r (product_in w z r) sta
  product_has_effect width.Word calculated z h =
      record {
        values = product_values width.Word z r;
        have = (
          refl,
          h,
          (refl, simp (parts, over_word), (simp parts, (simp parts, (simp parts, (simp (parts, or_numbers), (simp parts, tt)))))),
        );
        alike = product_alike width.Word z;
        range = product_range width.Word z;
      }
  product_has_effect width.Dword calculated z h =
      record {
        values = product_values width.Dword z r;
        have = (
          refl,
          h,
          (refl, simp (parts, over_dword), (simp parts, (simp parts, (simp parts, (simp (parts, or_numbers), (simp parts, tt)))))),
        );
        alike = product_alike width.Dword z;
        range = product_range width.Dword z;
      }
  product_has_effect other calculated z h = elim calculated [ ]

  pub product_effect : (w : Width) → IsCalculated w → HasRegisterEffect g s used (product_of used w) r (product_in w (product w) r) sta
  product_effect w calculated = product_has_effect w calculated (product w) (product_worth w calculated)
