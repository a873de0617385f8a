-- The rows on registers alone.
use Rattle.std.proofs.Common.{◌≡◌, ℕ, ◌^◌, ◌<◌, ◌==◌, pos, Bool, true, false, if◌then◌else◌, List, [], ◌∷◌, Option, Some, None, Ok, refl, sym, ap, subst, ◌∙◌, arith}
use Rattle.std.specs.Prelude.{ℤ}
use Rattle.std.proofs.lemmas.Bool.Decides.{nat_tests}
use Rattle.memory_areas.specs.Pointers.{pointer_plus}
use Rattle.pointer_templates.proofs.Amounts.{dint, moved_below, moved_worth, unmoved}
use Rattle.pointer_templates.specs.Pointers.{low_number, pointer_sum_of, pointed_of, pointer_exchange_of, pointer_move_of, pointer_taken_of}
use Rattle.template_parts.specs.Builders.{constant_of, read_of}
use Rattle.template_parts.specs.Related.{AreAlike}
use Rattle.instruction_laws.specs.Ranges.{AreInRange}
use Rattle.template_parts.proofs.Numbers.{wide_low}
use Rattle.template_parts.proofs.Pointers.{dword}
use Rattle.template_parts.proofs.RegisterEffects.{HasRegisterEffect, registers_after}
use Rattle.template_parts.proofs.Stages.{known, parts, stage}
use Rattle.s7_base.specs.declared.register.Reg.TheVariants as reg
use Rattle.st_tree.specs.State.{State, with_register}
use Rattle.st_tree.specs.Value.{value}
use Rattle.st_tree.specs.declared.expr.Expr.{Expr}
use Rattle.st_tree.specs.declared.expr.StType.TheVariants as type
use Rattle.st_tree.specs.declared.program.Located.{Located}
use Rattle.st_tree.specs.declared.program.Stmt.{Stmt}
use Rattle.st_tree.specs.declared.state.Value.{Value}
use Rattle.stl_tree.specs.AddressRegisters.{accu1_pointed, amount_to_add, other_loaded, other_of, other_stored, pointer_in, pointer_loaded, pointer_moved, pointers_exchanged, with_pointer}
use Rattle.stl_tree.specs.Reads.{register_of}
use Rattle.stl_tree.specs.Registers.{RegisterValues}
use Rattle.stl_tree.specs.declared.program.Ar.{Ar}
use Rattle.stl_tree.specs.declared.program.Ar.TheVariants as ar

no_offset : (n : ℕ) → (n == 0) ≡ true → n ≡ 0
no_offset n e = grind (arith, nat_tests)

module _ (g : List Located) (s : State) (used : ℕ) (r : RegisterValues) (sta : ℤ) (range : AreInRange r) where
  -- An address register takes a pointer

  held_below : (a : Ar) → pointer_in a r < 2 ^ 32
  held_below ar.One = range.ar1
  held_below ar.Two = range.ar2

  pointed_range : (a : Ar) (p : ℕ) → p < 2 ^ 32 → AreInRange (with_pointer a p r)
  pointed_range ar.One p h = record { accu1 = range.accu1; accu2 = range.accu2; ar1 = h; ar2 = range.ar2; db = range.db; di = range.di }
  pointed_range ar.Two p h = record { accu1 = range.accu1; accu2 = range.accu2; ar1 = range.ar1; ar2 = h; db = range.db; di = range.di }

  pointed_alike : (a : Ar) (e : Expr) (p : ℕ) → AreAlike (with_pointer a p r) (registers_after (pointed_of a e) (dword p ∷ []) (known r sta))
  pointed_alike ar.One e p reg.Sta asked = elim asked [ ]
  pointed_alike ar.One e p q asked = refl
  pointed_alike ar.Two e p reg.Sta asked = elim asked [ ]
  pointed_alike ar.Two e p q asked = refl

  pub pointed_effect : (a : Ar) (e : Expr) (p : ℕ) → p < 2 ^ 32 → value g e (stage s used [] (known r sta)) ≡ Ok (dword p)
      → HasRegisterEffect g s used (pointed_of a e) r (with_pointer a p r) sta
  pointed_effect a e p h worth =
      record { values = dword p ∷ []; have = (worth, tt); alike = pointed_alike a e p; range = pointed_range a p h }

  -- nothing is done, and it stays
  stays : (a : Ar) (p : ℕ) → pointer_in a r ≡ p → HasRegisterEffect g s used [] r (with_pointer a p r) sta
  stays a p same =
      record { values = []; have = tt; alike = alike a same; range = pointed_range a p (subst (λ (n : ℕ). n < 2 ^ 32) same (held_below a)) }
    where
      alike : (a : Ar) → pointer_in a r ≡ p → AreAlike (with_pointer a p r) (registers_after [] [] (known r sta))
      alike ar.One e reg.Ar1 asked = ap pos e
      alike ar.One e reg.Sta asked = elim asked [ ]
      alike ar.One e q asked = refl
      alike ar.Two e reg.Ar2 asked = ap pos e
      alike ar.Two e reg.Sta asked = elim asked [ ]
      alike ar.Two e q asked = refl

  -- what it holds
  held : (a : Ar) → value g (read_of (register_of a)) (stage s used [] (known r sta)) ≡ Ok (dword (pointer_in a r))
  held ar.One = simp parts
  held ar.Two = simp parts

  -- LAR1 and LAR2 alone, of a constant and of the other one

  pub accu1_effect : (a : Ar) → HasRegisterEffect g s used (pointed_of a (read_of reg.Accu1)) r (accu1_pointed a r) sta
  accu1_effect a = pointed_effect a (read_of reg.Accu1) r.accu1 range.accu1 (simp parts)

  pub constant_effect : (a : Ar) (p : ℕ) → p < 2 ^ 32 → HasRegisterEffect g s used (pointed_of a (constant_of type.Dword (pos p))) r (with_pointer a p r) sta
  constant_effect a p h = pointed_effect a (constant_of type.Dword (pos p)) p h (simp parts)

  pub other_loaded_effect : (a : Ar) → HasRegisterEffect g s used (pointed_of a (read_of (register_of (other_of a)))) r (other_loaded a r) sta
  other_loaded_effect a = pointed_effect a (read_of (register_of (other_of a))) (pointer_in (other_of a) r) (held_below (other_of a)) (held (other_of a))

  -- TAR1 and TAR2 alone, and into the other one

  taken_alike : (a : Ar) → AreAlike (pointer_loaded a r) (registers_after (pointer_taken_of a) (dword r.accu1 ∷ dword (pointer_in a r) ∷ []) (known r sta))
  taken_alike a reg.Sta asked = elim asked [ ]
  taken_alike a q asked = refl

  taken_value : (a : Ar)
      → value g (read_of (register_of a)) (stage s used [] (with_register reg.Accu2 (pos r.accu1) (known r sta))) ≡ Ok (dword (pointer_in a r))
  taken_value ar.One = simp parts
  taken_value ar.Two = simp parts

  pub taken_effect : (a : Ar) → HasRegisterEffect g s used (pointer_taken_of a) r (pointer_loaded a r) sta
  taken_effect a =
      record {
        values = dword r.accu1 ∷ dword (pointer_in a r) ∷ [];
        have = (simp parts, (taken_value a, tt));
        alike = taken_alike a;
        range = record { accu1 = held_below a; accu2 = range.accu1; ar1 = range.ar1; ar2 = range.ar2; db = range.db; di = range.di };
      }

  pub other_stored_effect : (a : Ar) → HasRegisterEffect g s used (pointed_of (other_of a) (read_of (register_of a))) r (other_stored a r) sta
  other_stored_effect a = pointed_effect (other_of a) (read_of (register_of a)) (pointer_in a r) (held_below a) (held a)

  -- CAR

  abbrev exchanged_values : List Value
  exchanged_values = dword r.ar1 ∷ dword r.ar2 ∷ dword r.ar1 ∷ []

  exchanged_alike : AreAlike (pointers_exchanged r) (registers_after (pointer_exchange_of used) exchanged_values (known r sta))
  exchanged_alike reg.Sta asked = elim asked [ ]
  exchanged_alike q asked = refl

  pub pointer_exchange_effect : HasRegisterEffect g s used (pointer_exchange_of used) r (pointers_exchanged r) sta
  pointer_exchange_effect =
      record {
        values = exchanged_values;
        have = (refl, simp parts, (simp parts, (simp parts, tt)));
        alike = exchanged_alike;
        range = record { accu1 = range.accu1; accu2 = range.accu2; ar1 = range.ar2; ar2 = range.ar1; db = range.db; di = range.di };
      }

  -- +AR1 and +AR2

  moved_effect : (a : Ar) (e : Expr) (z : ℤ) → value g e (stage s used [] (known r sta)) ≡ Ok (dint z)
      → HasRegisterEffect g s used (pointed_of a (pointer_sum_of a e)) r (with_pointer a (pointer_plus (pointer_in a r) z) r) sta
  moved_effect a e z worth =
      pointed_effect a (pointer_sum_of a e) (pointer_plus (pointer_in a r) z) (moved_below (pointer_in a r) z (held_below a))
      (moved_worth g (stage s used [] (known r sta)) a e (pointer_in a r) z (held_below a) (held a) worth)

  pub pointer_move_effect : (a : Ar) (amount : Option ℕ) → HasRegisterEffect g s used (pointer_move_of a amount) r (pointer_moved a amount r) sta
  pointer_move_effect a None = moved_effect a low_number (amount_to_add None r) (simp (parts, wide_low))
  pointer_move_effect a (Some offset) = by (offset == 0) refl
    where
      body : Bool → List Stmt
      body b = if b then [] else pointed_of a (pointer_sum_of a (constant_of type.Dint (pos offset)))

      by : (b : Bool) → (offset == 0) ≡ b → HasRegisterEffect g s used (body b) r (pointer_moved a (Some offset) r) sta
      by true zero =
          stays a (pointer_plus (pointer_in a r) (pos offset))
          (sym (ap (λ (n : ℕ). pointer_plus (pointer_in a r) (pos n)) (no_offset offset zero) ∙ unmoved (pointer_in a r)))
      by false some = moved_effect a (constant_of type.Dint (pos offset)) (pos offset) (simp parts)
