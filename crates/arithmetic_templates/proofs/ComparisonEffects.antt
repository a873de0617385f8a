-- Comparisons: their statements do what the rows do.
use Rattle.std.proofs.Common.{◌≡◌, ℕ, ◌+◌, true, false, List, [], ◌∷◌, Ok, refl}
use Rattle.std.specs.Prelude.{ℤ, int_lt}
use Rattle.s7_base.specs.declared.register.Reg.{Reg}
use Rattle.s7_base.specs.declared.register.Reg.TheVariants as reg
use Rattle.s7_base.specs.declared.word.Width.{Width}
use Rattle.s7_base.specs.declared.word.Width.TheVariants as width
use Rattle.status_word.specs.declared.test.Test.{Test}
use Rattle.status_word.specs.declared.test.Test.TheVariants as test
use Rattle.stl_tree.specs.Accumulators.{signed_part}
use Rattle.stl_tree.specs.Arithmetic.{after_comparison, compared_numbers, holds}
use Rattle.stl_tree.specs.Registers.{RegisterValues}
use Rattle.st_tree.specs.State.{State}
use Rattle.st_tree.specs.Value.{value}
use Rattle.st_tree.specs.Values.{flag}
use Rattle.st_tree.specs.declared.expr.StType.{StType}
use Rattle.st_tree.specs.declared.program.Located.{Located}
use Rattle.st_tree.specs.declared.state.Value.{Value}
use Rattle.template_parts.specs.Builders.{local_of}
use Rattle.template_parts.specs.Related.{AreAlike}
use Rattle.instruction_laws.specs.Ranges.{AreInRange}
use Rattle.template_parts.proofs.Alike.{any_status}
use Rattle.template_parts.proofs.RegisterEffects.{HasRegisterEffect, registers_after}
use Rattle.template_parts.proofs.Stages.{known, parts, stage}
use Rattle.arithmetic_templates.specs.Comparisons.{compared_of, comparison_of}
use Rattle.arithmetic_templates.specs.Numbers.{narrow}
use Rattle.arithmetic_templates.proofs.ResultEffects.{IsCalculated}

-- the two numbers in the locals
abbrev numbers_kept : StType → ℤ → ℤ → List Value
numbers_kept ty x y = record { ty = ty; n = x } ∷ record { ty = ty; n = y } ∷ []

-- the values of the right sides for two numbers
abbrev compared_values : Test → StType → ℤ → ℤ → List Value
compared_values t ty x y =
    record { ty = ty; n = x }
    ∷ record { ty = ty; n = y }
    ∷ flag (holds t x y)
    ∷ flag (int_lt y x)
    ∷ flag (int_lt x y)
    ∷ flag false
    ∷ flag false
    ∷ flag true
    ∷ []

module _ (g : List Located) (s : State) (used : ℕ) (r : RegisterValues) (sta : ℤ) (range : AreInRange r) where
  comparison_worth : (t : Test) (ty : StType) (x y : ℤ) (registers : Reg → ℤ)
      → value g (comparison_of t (local_of used) (local_of (used + 1))) (stage s used (numbers_kept ty x y) registers) ≡ Ok (flag (holds t x y))
  comparison_worth test.Eq ty x y registers = simp parts
  comparison_worth other ty x y registers = simp parts

  compared_alike : (t : Test) (w : Width) (x y : ℤ)
      → AreAlike (compared_numbers t x y r) (registers_after (compared_of used t w) (compared_values t (narrow w) x y) (known r sta))
  compared_alike t w x y reg.Sta asked = elim asked [ ]
  compared_alike t w x y q asked = refl

  pub compared_effect : (t : Test) (w : Width) → IsCalculated w → HasRegisterEffect g s used (compared_of used t w) r (after_comparison t w r) sta
  compared_effect t width.Word calculated =
      let x : ℤ = signed_part width.Word r.accu2 in
      let y : ℤ = signed_part width.Word r.accu1 in
      record {
        values = compared_values t (narrow width.Word) x y;
        have = (
          refl,
          simp parts,
          (
            refl,
            simp parts,
            (comparison_worth t (narrow width.Word) x y (known r sta), (simp parts, (simp parts, (simp parts, (simp parts, (simp parts, tt)))))),
          ),
        );
        alike = compared_alike t width.Word x y;
        range = any_status r (after_comparison t width.Word r).status range;
      }
  compared_effect t width.Dword calculated =
      let x : ℤ = signed_part width.Dword r.accu2 in
      let y : ℤ = signed_part width.Dword r.accu1 in
      record {
        values = compared_values t (narrow width.Dword) x y;
        have = (
          refl,
          simp parts,
          (
            refl,
            simp parts,
            (comparison_worth t (narrow width.Dword) x y (known r sta), (simp parts, (simp parts, (simp parts, (simp parts, (simp parts, tt)))))),
          ),
        );
        alike = compared_alike t width.Dword x y;
        range = any_status r (after_comparison t width.Dword r).status range;
      }
  compared_effect t other calculated = elim calculated [ ]
