-- Shifts and rotations, RLDA and RRDA: their statements serve them.
use Rattle.std.proofs.Common.{◌≡◌, ℕ, ◌≤◌, ◌==◌, Bool, true, false, if◌then◌else◌, List, [], Option, Some, None, refl, arith}
use Rattle.std.specs.Prelude.{ℤ}
use Rattle.std.proofs.lemmas.Bool.Decides.{nat_tests}
use Rattle.instruction_laws.specs.Ranges.{AreInRange}
use Rattle.template_parts.specs.Related.{AreAlike}
use Rattle.template_parts.specs.Templates.{Do}
use Rattle.template_parts.proofs.Obligations.{by_sizes}
use Rattle.template_parts.proofs.RegisterEffects.{HasRegisterEffect, does_effect}
use Rattle.template_parts.proofs.Stages.{known}
use Rattle.template_parts.proofs.Typing.{no_statement}
use Rattle.s7_base.specs.declared.register.Reg.TheVariants as reg
use Rattle.shift_templates.proofs.Accu2Effects.{accu2_effect}
use Rattle.shift_templates.proofs.CarryEffects.{rlda_effect, rrda_effect}
use Rattle.shift_templates.proofs.ConstantEffects.{constant_effect, stepped}
use Rattle.shift_templates.proofs.PlainShifts.{any_shift_plain, rlda_plain, rrda_plain}
use Rattle.shift_templates.proofs.ReadByShifts.{rlda_reads, rrda_reads, shift_reads}
use Rattle.shift_templates.proofs.ShiftSizes.{rlda_sizes, rrda_sizes, shift_sizes}
use Rattle.shift_templates.specs.ShiftLaw.{ShiftsServe}
use Rattle.shift_templates.specs.ShiftTemplates.{by_constant, rlda_template, rrda_template, shift_template, types_of_shift, types_through_cc1}
use Rattle.st_tree.specs.State.{State}
use Rattle.st_tree.specs.declared.program.Located.{Located}
use Rattle.stl_tree.specs.Registers.{RegisterValues}
use Rattle.stl_tree.specs.Shifts.{after_shift, around_left_through_cc1, around_right_through_cc1}
use Rattle.stl_tree.specs.declared.accumulator.ShiftRow.{ShiftRow}
use Rattle.stl_tree.specs.declared.program.Op.TheVariants as op

-- Rows

module _ (g : List Located) (s : State) (used : ℕ) (r : RegisterValues) (sta : ℤ) (range : AreInRange r) where
  no_effect : HasRegisterEffect g s used [] r r sta
  no_effect = record { values = []; have = tt; alike = as_known; range = range }
    where
      as_known : AreAlike r (known r sta)
      as_known reg.Sta asked = elim asked [ ]
      as_known q asked = refl

  pub any_shift_effect : (i : ShiftRow) (by : Option ℕ) → HasRegisterEffect g s used (shift_template used i by) r (after_shift i by r) sta
  any_shift_effect i None = accu2_effect g s used r sta range i
  any_shift_effect i (Some n) = at (n == 0) refl
    where
      some : (n == 0) ≡ false → 1 ≤ n
      some e = grind (arith, nat_tests, e)

      at : (none : Bool) → (n == 0) ≡ none
          → HasRegisterEffect g s used (if none then [] else by_constant i n used) r (if none then r else stepped i n r) sta
      at true e = no_effect
      at false e = constant_effect g s used r sta range n (some e) i

-- What is promised

module _ (first : ℕ) where
  shift_does : (i : ShiftRow) (by : Option ℕ) → Do (op.Shift i by) first (types_of_shift i by) (shift_template first i by)
  shift_does i by g calls units frames now s operand related room =
      does_effect g s first calls units (shift_template first i by) frames now (after_shift i by now.registers) related
      (any_shift_effect g s first now.registers (s.registers reg.Sta) related.range i by) (omega (arith, room, (shift_sizes first i by).sets))

  rlda_does : Do op.Rlda first types_through_cc1 (rlda_template first)
  rlda_does g calls units frames now s operand related room =
      does_effect g s first calls units (rlda_template first) frames now (around_left_through_cc1 now.registers) related
      (rlda_effect g s first now.registers (s.registers reg.Sta) related.range) room

  rrda_does : Do op.Rrda first types_through_cc1 (rrda_template first)
  rrda_does g calls units frames now s operand related room =
      does_effect g s first calls units (rrda_template first) frames now (around_right_through_cc1 now.registers) related
      (rrda_effect g s first now.registers (s.registers reg.Sta) related.range) room

pub shifts_serve : ShiftsServe
shifts_serve =
    record {
      shifts = λ s count first.
          by_sizes (op.Shift s count) first (types_of_shift s count) (shift_template first s count) (shift_sizes first s count) (shift_does first s count)
          (λ P has. shift_reads P first [] s count has tt)
          (λ sight formals named operand typed. any_shift_plain sight first [] (no_statement sight) s count operand typed);
      left_turns = λ first.
          by_sizes op.Rlda first types_through_cc1 (rlda_template first) (rlda_sizes first) (rlda_does first) (λ P has. rlda_reads P first [] has tt)
          (λ sight formals named operand typed. rlda_plain sight first [] (no_statement sight) typed);
      right_turns = λ first.
          by_sizes op.Rrda first types_through_cc1 (rrda_template first) (rrda_sizes first) (rrda_does first) (λ P has. rrda_reads P first [] has tt)
          (λ sight formals named operand typed. rrda_plain sight first [] (no_statement sight) typed);
    }
