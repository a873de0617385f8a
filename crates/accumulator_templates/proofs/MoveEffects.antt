-- TAK, PUSH, POP and L of a constant do their rows.
use Rattle.std.proofs.Common.{ℕ, ◌^◌, ◌<◌, List, [], ◌∷◌, refl}
use Rattle.std.specs.Prelude.{ℤ}
use Rattle.s7_base.specs.declared.register.Reg.TheVariants as reg
use Rattle.stl_tree.specs.Accumulators.{accu_popped, accu_pushed, accus_exchanged, after_load}
use Rattle.stl_tree.specs.Registers.{RegisterValues}
use Rattle.stl_tree.specs.declared.program.LoadArg.TheVariants as arg
use Rattle.st_tree.specs.State.{State}
use Rattle.st_tree.specs.declared.state.Value.{Value}
use Rattle.st_tree.specs.declared.program.Located.{Located}
use Rattle.accumulator_templates.specs.Moves.{exchange_of, load_of, pop_of, push_of}
use Rattle.accumulator_templates.specs.AccumulatorParts.{dword_of}
use Rattle.accumulator_templates.proofs.AccumulatorEffects.{one_set, taken, two_set}
use Rattle.accumulator_templates.proofs.Worths.{dword}
use Rattle.template_parts.specs.Builders.{read_of}
use Rattle.template_parts.specs.Related.{AreAlike}
use Rattle.instruction_laws.specs.Ranges.{AreInRange}
use Rattle.template_parts.proofs.RegisterEffects.{HasRegisterEffect, registers_after}
use Rattle.template_parts.proofs.Stages.{known, parts}

abbrev exchanged_values : RegisterValues → List Value
exchanged_values r = dword r.accu1 ∷ dword r.accu2 ∷ dword r.accu1 ∷ []

module _ (g : List Located) (s : State) (used : ℕ) (r : RegisterValues) (sta : ℤ) (range : AreInRange r) where
  exchanged_alike : AreAlike (accus_exchanged r) (registers_after (exchange_of used) (exchanged_values r) (known r sta))
  exchanged_alike reg.Sta asked = elim asked [ ]
  exchanged_alike q asked = refl

  pub exchange_effect : HasRegisterEffect g s used (exchange_of used) r (accus_exchanged r) sta
  exchange_effect =
      record {
        values = exchanged_values r;
        have = (refl, simp parts, (simp parts, (simp parts, tt)));
        alike = exchanged_alike;
        range = record { accu1 = range.accu2; accu2 = range.accu1; ar1 = range.ar1; ar2 = range.ar2; db = range.db; di = range.di };
      }

  pub push_effect : HasRegisterEffect g s used push_of r (accu_pushed r) sta
  push_effect = two_set g s used r sta range (read_of reg.Accu1) r.accu1 range.accu1 (simp parts)

  pub pop_effect : HasRegisterEffect g s used pop_of r (accu_popped r) sta
  pop_effect = one_set g s used r sta range (read_of reg.Accu2) r.accu2 range.accu2 (simp parts)

  -- L of a constant
  pub constant_effect : (c : ℕ) → c < 2 ^ 32 → HasRegisterEffect g s used (load_of used (arg.Constant c)) r (after_load c r) sta
  constant_effect c h = taken g s used r sta range (dword_of c) c h (simp parts)
