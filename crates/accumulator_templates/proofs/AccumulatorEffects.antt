-- Rows that change the accumulators alone, by what their right sides are worth.
use Rattle.std.proofs.Common.{◌≡◌, ℕ, ◌^◌, ◌<◌, pos, List, [], ◌∷◌, Ok, refl, ap, subst}
use Rattle.std.specs.Prelude.{ℤ}
use Rattle.s7_base.specs.declared.register.Reg.{Reg}
use Rattle.s7_base.specs.declared.register.Reg.TheVariants as reg
use Rattle.stl_tree.specs.Accumulators.{after_load}
use Rattle.stl_tree.specs.Registers.{RegisterValues}
use Rattle.st_tree.specs.State.{State, with_register}
use Rattle.st_tree.specs.Value.{value}
use Rattle.st_tree.specs.declared.expr.Expr.{Expr}
use Rattle.st_tree.specs.declared.program.Located.{Located}
use Rattle.accumulator_templates.specs.Moves.{taken_of}
use Rattle.accumulator_templates.proofs.Worths.{dword}
use Rattle.template_parts.specs.Builders.{set_of}
use Rattle.template_parts.specs.Related.{AreAlike}
use Rattle.instruction_laws.specs.Ranges.{AreInRange}
use Rattle.template_parts.proofs.RegisterEffects.{HasRegisterEffect, registers_after}
use Rattle.template_parts.proofs.Stages.{known, parts, stage}

-- the registers with another ACCU1
abbrev pub with_accu1 : ℕ → RegisterValues → RegisterValues
with_accu1 a r = record r { accu1 = a }

-- and with another ACCU2
abbrev pub with_accu2 : ℕ → RegisterValues → RegisterValues
with_accu2 a r = record r { accu2 = a }

module _ (g : List Located) (s : State) (used : ℕ) (r : RegisterValues) (sta : ℤ) (range : AreInRange r) where
  one_in_range : (a : ℕ) → a < 2 ^ 32 → AreInRange (with_accu1 a r)
  one_in_range a h = record { accu1 = h; accu2 = range.accu2; ar1 = range.ar1; ar2 = range.ar2; db = range.db; di = range.di }

  one_alike : (e : Expr) (a : ℕ) → AreAlike (with_accu1 a r) (registers_after (set_of reg.Accu1 e ∷ []) (dword a ∷ []) (known r sta))
  one_alike e a reg.Sta asked = elim asked [ ]
  one_alike e a q asked = refl

  -- ACCU1 takes a value
  pub one_set : (e : Expr) (a : ℕ) → a < 2 ^ 32 → value g e (stage s used [] (known r sta)) ≡ Ok (dword a)
      → HasRegisterEffect g s used (set_of reg.Accu1 e ∷ []) r (with_accu1 a r) sta
  one_set e a h worth =
      record { values = dword a ∷ []; have = (worth, tt); alike = one_alike e a; range = one_in_range a h }

  -- nothing is done, and ACCU1 stays
  pub one_stays : (a : ℕ) → r.accu1 ≡ a → HasRegisterEffect g s used [] r (with_accu1 a r) sta
  one_stays a same =
      record { values = []; have = tt; alike = alike; range = one_in_range a (subst (λ (n : ℕ). n < 2 ^ 32) same range.accu1) }
    where
      alike : AreAlike (with_accu1 a r) (registers_after [] [] (known r sta))
      alike reg.Accu1 asked = ap pos same
      alike reg.Sta asked = elim asked [ ]
      alike q asked = refl

  two_alike : (e : Expr) (a : ℕ) → AreAlike (with_accu2 a r) (registers_after (set_of reg.Accu2 e ∷ []) (dword a ∷ []) (known r sta))
  two_alike e a reg.Sta asked = elim asked [ ]
  two_alike e a q asked = refl

  -- ACCU2 takes a value
  pub two_set : (e : Expr) (a : ℕ) → a < 2 ^ 32 → value g e (stage s used [] (known r sta)) ≡ Ok (dword a)
      → HasRegisterEffect g s used (set_of reg.Accu2 e ∷ []) r (with_accu2 a r) sta
  two_set e a h worth =
      record {
        values = dword a ∷ [];
        have = (worth, tt);
        alike = two_alike e a;
        range = record { accu1 = range.accu1; accu2 = h; ar1 = range.ar1; ar2 = range.ar2; db = range.db; di = range.di };
      }

  taken_alike : (e : Expr) (v : ℕ) → AreAlike (after_load v r) (registers_after (taken_of e) (dword r.accu1 ∷ dword v ∷ []) (known r sta))
  taken_alike e v reg.Sta asked = elim asked [ ]
  taken_alike e v q asked = refl

  -- the registers once ACCU2 has what ACCU1 holds
  abbrev pub pushed_registers : Reg → ℤ
  pushed_registers = with_register reg.Accu2 (pos r.accu1) (known r sta)

  -- ACCU1 takes a value, and ACCU2 what stood there
  pub taken : (e : Expr) (v : ℕ) → v < 2 ^ 32 → value g e (stage s used [] pushed_registers) ≡ Ok (dword v)
      → HasRegisterEffect g s used (taken_of e) r (after_load v r) sta
  taken e v h worth =
      record {
        values = dword r.accu1 ∷ dword v ∷ [];
        have = (simp parts, (worth, tt));
        alike = taken_alike e v;
        range = record { accu1 = h; accu2 = range.accu1; ar1 = range.ar1; ar2 = range.ar2; db = range.db; di = range.di };
      }
