-- Sums, differences and negatives: their statements do what the rows do.
use Rattle.std.proofs.Common.{◌≡◌, ℕ, ◌^◌, ◌<◌, pos, ◌||◌, List, [], ◌∷◌, Result, Ok, refl, ap, arith}
use Rattle.std.specs.Prelude.{ℤ, ◌+ℤ◌, ◌-ℤ◌, neg_ℤ, int_lt}
use Rattle.s7_base.specs.SignedNumbers.{is_over, pattern, wrapped}
use Rattle.s7_base.specs.declared.outcome.Fault.{Fault}
use Rattle.s7_base.specs.declared.register.Reg.TheVariants as reg
use Rattle.s7_base.specs.declared.word.Width.{Width}
use Rattle.s7_base.specs.declared.word.Width.TheVariants as width
use Rattle.memory_areas.specs.Access.{bits_wide}
use Rattle.stl_tree.specs.Accumulators.{signed_part, with_number}
use Rattle.stl_tree.specs.Arithmetic.{result_in}
use Rattle.stl_tree.specs.Registers.{RegisterValues}
use Rattle.st_tree.specs.State.{State}
use Rattle.st_tree.specs.Value.{value}
use Rattle.st_tree.specs.Values.{flag}
use Rattle.st_tree.specs.declared.state.Value.{Value}
use Rattle.st_tree.specs.declared.expr.BinaryOp.TheVariants as binary
use Rattle.st_tree.specs.declared.expr.Expr.{Expr}
use Rattle.st_tree.specs.declared.expr.StType.TheVariants as type
use Rattle.st_tree.specs.declared.expr.UnaryOp.TheVariants as unary
use Rattle.st_tree.specs.declared.program.Located.{Located}
use Rattle.template_parts.specs.Builders.{unary_of}
use Rattle.template_parts.specs.Related.{AreAlike}
use Rattle.instruction_laws.specs.Ranges.{AreInRange}
use Rattle.template_parts.proofs.Numbers.{or_numbers, over_word, pattern_below, put_low, same_pattern, wide_low, wide_sum}
use Rattle.template_parts.proofs.RegisterEffects.{HasRegisterEffect, registers_after}
use Rattle.template_parts.proofs.Stages.{known, parts, stage}
use Rattle.arithmetic_templates.specs.Calculations.{operation_of, result_of}
use Rattle.arithmetic_templates.specs.Numbers.{narrow, wide, wide_number_of}
use Rattle.arithmetic_templates.proofs.WideNumbers.{dword_below, over_dword, put_dword, same_dword, wide_difference, wide_dword, wide_dword_difference, wide_dword_negative, wide_dword_sum, wide_negative}

-- the numbers of a width are calculated with
abbrev pub IsCalculated : Width → Type 0
IsCalculated width.Word = Unit {0}
IsCalculated width.Dword = Unit {0}
IsCalculated w = ⊥

-- the values of the right sides for a true result
abbrev result_values : Width → ℤ → RegisterValues → List Value
result_values w z r =
    record { ty = wide w; n = z }
    ∷ record { ty = narrow w; n = wrapped (bits_wide w) z }
    ∷ flag (is_over (bits_wide w) z)
    ∷ flag (int_lt (pos 0) (wrapped (bits_wide w) z))
    ∷ flag (int_lt (wrapped (bits_wide w) z) (pos 0))
    ∷ flag (is_over (bits_wide w) z)
    ∷ flag (r.status.os || is_over (bits_wide w) z)
    ∷ record { ty = type.Dword; n = pos (with_number w r.accu1 z) }
    ∷ []

module _ (g : List Located) (s : State) (used : ℕ) (r : RegisterValues) (sta : ℤ) (range : AreInRange r) where
  -- an expression is worth a number of the wider type where the row begins
  abbrev pub IsWorth : Width → Expr → ℤ → Type 0
  IsWorth w e z = value g e (stage s used [] (known r sta)) ≡ Ok (record { ty = wide w; n = z })

  result_alike : (w : Width) (e : Expr) (z : ℤ) → AreAlike (result_in w z r) (registers_after (result_of used w e) (result_values w z r) (known r sta))
  result_alike w e z reg.Sta asked = elim asked [ ]
  result_alike w e z q asked = refl

  abbrev dword_of : ℕ → Result Value Fault
  dword_of n = Ok (record { ty = type.Dword; n = pos n })

  dword_put : (z : ℤ) → dword_of (pattern 32 z) ≡ dword_of (with_number width.Dword r.accu1 z)
  dword_put z = ap dword_of (put_dword r.accu1 (pattern 32 z) range.accu1)

  -- the true result in any expression
  pub result_effect : (w : Width) → IsCalculated w → (e : Expr) (z : ℤ) → IsWorth w e z
      → HasRegisterEffect g s used (result_of used w e) r (result_in w z r) sta
  result_effect width.Word calculated e z h =
      let a : r.accu1 < 2 ^ 32 = range.accu1 in
      let p : pattern 16 z < 2 ^ 16 = pattern_below z in
      record {
        values = result_values width.Word z r;
        have = (
          refl,
          h,
          (
            refl,
            simp parts,
            (refl, simp (parts, over_word), (simp parts, (simp parts, (simp parts, (simp (parts, or_numbers), (simp (parts, same_pattern, put_low), tt)))))),
          ),
        );
        alike = result_alike width.Word e z;
        range = record { accu1 = omega arith; accu2 = range.accu2; ar1 = range.ar1; ar2 = range.ar2; db = range.db; di = range.di };
      }
  result_effect width.Dword calculated e z h =
      let a : r.accu1 < 2 ^ 32 = range.accu1 in
      let p : pattern 32 z < 2 ^ 32 = dword_below z in
      record {
        values = result_values width.Dword z r;
        have = (
          refl,
          h,
          (
            refl,
            simp parts,
            (
              refl,
              simp (parts, over_dword),
              (simp parts, (simp parts, (simp parts, (simp (parts, or_numbers), (simp (parts, same_dword) (dword_put z), tt))))),
            ),
          ),
        );
        alike = result_alike width.Dword e z;
        range = record { accu1 = omega arith; accu2 = range.accu2; ar1 = range.ar1; ar2 = range.ar2; db = range.db; di = range.di };
      }
  result_effect other calculated e z h = elim calculated [ ]

  -- the numbers in the accumulators, x in ACCU2 and y in ACCU1

  sum_worth : (w : Width) → IsCalculated w → IsWorth w (operation_of binary.Add w) (signed_part w r.accu2 +ℤ signed_part w r.accu1)
  sum_worth width.Word calculated = simp (parts, wide_low, wide_sum)
  sum_worth width.Dword calculated = simp (parts, wide_dword, wide_dword_sum)
  sum_worth other calculated = elim calculated [ ]

  difference_worth : (w : Width) → IsCalculated w → IsWorth w (operation_of binary.Sub w) (signed_part w r.accu2 -ℤ signed_part w r.accu1)
  difference_worth width.Word calculated = simp (parts, wide_low, wide_difference)
  difference_worth width.Dword calculated = simp (parts, wide_dword, wide_dword_difference)
  difference_worth other calculated = elim calculated [ ]

  negative_worth : (w : Width) → IsCalculated w → IsWorth w (unary_of unary.Minus (wide_number_of w reg.Accu1)) (neg_ℤ (signed_part w r.accu1))
  negative_worth width.Word calculated = simp (parts, wide_low, wide_negative)
  negative_worth width.Dword calculated = simp (parts, wide_dword, wide_dword_negative)
  negative_worth other calculated = elim calculated [ ]

  -- + - and NEG

  pub sum_effect : (w : Width) → IsCalculated w
      → HasRegisterEffect g s used (result_of used w (operation_of binary.Add w)) r (result_in w (signed_part w r.accu2 +ℤ signed_part w r.accu1) r) sta
  sum_effect w calculated = result_effect w calculated (operation_of binary.Add w) (signed_part w r.accu2 +ℤ signed_part w r.accu1) (sum_worth w calculated)

  pub difference_effect : (w : Width) → IsCalculated w
      → HasRegisterEffect g s used (result_of used w (operation_of binary.Sub w)) r (result_in w (signed_part w r.accu2 -ℤ signed_part w r.accu1) r) sta
  difference_effect w calculated =
      result_effect w calculated (operation_of binary.Sub w) (signed_part w r.accu2 -ℤ signed_part w r.accu1) (difference_worth w calculated)

  pub negative_effect : (w : Width) → IsCalculated w
      → HasRegisterEffect g s used (result_of used w (unary_of unary.Minus (wide_number_of w reg.Accu1))) r (result_in w (neg_ℤ (signed_part w r.accu1)) r) sta
  negative_effect w calculated =
      result_effect w calculated (unary_of unary.Minus (wide_number_of w reg.Accu1)) (neg_ℤ (signed_part w r.accu1)) (negative_worth w calculated)
