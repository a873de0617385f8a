-- L STW and T STW do their rows.
use Rattle.std.proofs.Common.{◌≡◌, ℕ, ◌+◌, ◌*◌, ◌^◌, ◌<◌, ◌==◌, pos, Bool, true, false, not, if◌then◌else◌, List, [], ◌∷◌, Ok, refl, ap, ◌∙◌, arith}
use Rattle.std.specs.Prelude.{ℤ}
use Rattle.std.specs.Int.{bit_at, from_bool}
use Rattle.std.specs.Ordering.{int_eq}
use Rattle.s7_base.specs.declared.register.Reg.{Reg}
use Rattle.s7_base.specs.declared.register.Reg.TheVariants as reg
use Rattle.status_word.specs.Flags.{bits_of, has_bit, word_of}
use Rattle.status_word.specs.StatusBits.{StatusBits}
use Rattle.stl_tree.specs.Accumulators.{status_loaded, status_stored}
use Rattle.stl_tree.specs.Registers.{RegisterValues}
use Rattle.st_tree.specs.State.{State}
use Rattle.st_tree.specs.Value.{value}
use Rattle.st_tree.specs.Values.{flag, number_of}
use Rattle.st_tree.specs.declared.state.Value.{Value}
use Rattle.st_tree.specs.declared.expr.Expr.{Expr}
use Rattle.st_tree.specs.declared.program.Located.{Located}
use Rattle.accumulator_templates.specs.Moves.{status_load_of, status_store_of, status_value, with_flag_of}
use Rattle.accumulator_templates.specs.AccumulatorParts.{any_bit_of, bits_where_of}
use Rattle.accumulator_templates.proofs.AccumulatorEffects.{pushed_registers, taken}
use Rattle.accumulator_templates.proofs.Patterns.{tested_bit}
use Rattle.accumulator_templates.proofs.Worths.{dword, low_first}
use Rattle.template_parts.specs.Builders.{read_of}
use Rattle.template_parts.specs.Related.{AreAlike}
use Rattle.instruction_laws.specs.Ranges.{AreInRange}
use Rattle.template_parts.proofs.RegisterEffects.{HasRegisterEffect, registers_after}
use Rattle.template_parts.proofs.Stages.{known, parts, stage}

-- Facts

-- the bits of a mask where a flag is set
masked : (b : Bool) (m : ℕ) → (if not (int_eq (number_of b) (pos 0)) then pos m else pos 0) ≡ pos (from_bool b * m)
masked true m = let e : m ≡ 1 * m = omega arith in ap pos e
masked false m = let e : 0 ≡ 0 * m = omega arith in ap pos e

truth : (b : Bool) → from_bool b < 2
truth true = omega arith
truth false = omega arith

module _ (g : List Located) (s : State) (used : ℕ) (r : RegisterValues) (sta : ℤ) (range : AreInRange r) where
  -- L STW, flag by flag

  abbrev pushed : State
  pushed = stage s used [] (pushed_registers g s used r sta range)

  flag_worth : (q : Reg) (b : Bool) (m : ℕ) → pushed_registers g s used r sta range q ≡ number_of b
      → value g (bits_where_of (read_of q) m) pushed ≡ Ok (dword (from_bool b * m))
  flag_worth q b m e = simp (parts, e, masked)

  with_flag_worth : (e : Expr) (w k : ℕ) (q : Reg) (b : Bool) → w < 2 ^ k → 2 ^ k + w < 2 ^ 32
      → pushed_registers g s used r sta range q ≡ number_of b → value g e pushed ≡ Ok (dword w)
      → value g (with_flag_of e q (2 ^ k)) pushed ≡ Ok (dword (from_bool b * 2 ^ k + w))
  with_flag_worth e w k q true h small held worth =
      low_first g pushed e (bits_where_of (read_of q) (2 ^ k)) 1 k w h (omega arith) worth (flag_worth q true (2 ^ k) held)
  with_flag_worth e w k q false h small held worth =
      low_first g pushed e (bits_where_of (read_of q) (2 ^ k)) 0 k w h (omega arith) worth (flag_worth q false (2 ^ k) held)

  status_worth : value g status_value pushed ≡ Ok (dword (word_of r.status))
  status_worth =
      let rlo : from_bool r.status.rlo < 2 = truth r.status.rlo in
      let os : from_bool r.status.os < 2 = truth r.status.os in
      let ov : from_bool r.status.ov < 2 = truth r.status.ov in
      let cc0 : from_bool r.status.cc0 < 2 = truth r.status.cc0 in
      let cc1 : from_bool r.status.cc1 < 2 = truth r.status.cc1 in
      let one : ℕ = from_bool r.status.rlo * 2 in
      let two : ℕ = from_bool r.status.os * 2 ^ 4 + one in
      let three : ℕ = from_bool r.status.ov * 2 ^ 5 + two in
      let four : ℕ = from_bool r.status.cc0 * 2 ^ 6 + three in
      let five : ℕ = from_bool r.status.cc1 * 2 ^ 7 + four in
      let same : from_bool r.status.br * 2 ^ 8 + five ≡ word_of r.status = omega arith in
      with_flag_worth _ five 8 reg.Br r.status.br (omega arith) (omega arith) refl
      (with_flag_worth _ four 7 reg.Cc1 r.status.cc1 (omega arith) (omega arith) refl
      (with_flag_worth _ three 6 reg.Cc0 r.status.cc0 (omega arith) (omega arith) refl
      (with_flag_worth _ two 5 reg.Ov r.status.ov (omega arith) (omega arith) refl
      (with_flag_worth _ one 4 reg.Os r.status.os (omega arith) (omega arith) refl (flag_worth reg.Rlo r.status.rlo 2 refl)))))
      ∙ ap (λ (n : ℕ). Ok (dword n)) same

  word_fits : (b : StatusBits) → word_of b < 2 ^ 32
  word_fits b =
      omega (arith, truth b.rlo, truth b.os, truth b.ov, truth b.cc0, truth b.cc1, truth b.br)

  pub status_load_effect : HasRegisterEffect g s used status_load_of r (status_loaded r) sta
  status_load_effect = taken g s used r sta range status_value (word_of r.status) (word_fits r.status) status_worth

  -- T STW

  bit_worth : (registers : Reg → ℤ) (k : ℕ) → registers reg.Accu1 ≡ pos r.accu1 → 2 ^ k < 2 ^ 32
      → value g (any_bit_of (read_of reg.Accu1) (2 ^ k)) (stage s used [] registers) ≡ Ok (flag (bit_at r.accu1 k == 1))
  bit_worth registers k one small = let a : r.accu1 < 2 ^ 32 = range.accu1 in simp (parts, one, tested_bit)

  abbrev stored_values : List Value
  stored_values =
      flag (bit_at r.accu1 1 == 1) ∷ flag (bit_at r.accu1 4 == 1) ∷ flag (bit_at r.accu1 5 == 1) ∷ flag (bit_at r.accu1 6 == 1)
      ∷ flag (bit_at r.accu1 7 == 1) ∷ flag (bit_at r.accu1 8 == 1) ∷ []

  stored_alike : AreAlike (status_stored r) (registers_after status_store_of stored_values (known r sta))
  unfolding bits_of has_bit
  stored_alike reg.Sta asked = elim asked [ ]
  stored_alike q asked = refl

  pub status_store_effect : HasRegisterEffect g s used status_store_of r (status_stored r) sta
  status_store_effect =
      record {
        values = stored_values;
        have = (
          bit_worth _ 1 refl (omega arith),
          (
            bit_worth _ 4 refl (omega arith),
            (
              bit_worth _ 5 refl (omega arith),
              (bit_worth _ 6 refl (omega arith), (bit_worth _ 7 refl (omega arith), (bit_worth _ 8 refl (omega arith), tt))),
            ),
          ),
        );
        alike = stored_alike;
        range = record { accu1 = range.accu1; accu2 = range.accu2; ar1 = range.ar1; ar2 = range.ar2; db = range.db; di = range.di };
      }
