-- BTI and BTD do what their rows do, and a digit above 9 is the same fault.
use Rattle.std.proofs.Common.{◌≡◌, ℕ, ◌+◌, ◌*◌, ◌/◌, ◌%◌, ◌^◌, ◌<◌, ◌≤◌, pos, negsuc, List, [], ◌∷◌, length, Result, Ok, Err, refl, ap, ◌∙◌, arith}
use Rattle.std.specs.Prelude.{ℤ}
use Rattle.std.proofs.lemmas.Int.{ints}
use Rattle.bcd_words.specs.Bcd.{bcd_value}
use Rattle.memory_areas.specs.Access.{and_then}
use Rattle.s7_base.specs.SignedNumbers.{number, pattern}
use Rattle.s7_base.specs.declared.outcome.Fault.{Fault}
use Rattle.s7_base.specs.declared.register.Reg.TheVariants as reg
use Rattle.s7_base.specs.declared.word.Width.TheVariants as width
use Rattle.stl_tree.specs.Accumulators.{part, with_number}
use Rattle.stl_tree.specs.Conversions.{with_value_of_digits}
use Rattle.stl_tree.specs.Instructions.{effect_of}
use Rattle.stl_tree.specs.Now.{Now, next, with_value}
use Rattle.stl_tree.specs.Registers.{RegisterValues}
use Rattle.stl_tree.specs.declared.accumulator.UnaryRow.TheVariants as row
use Rattle.stl_tree.specs.declared.program.Op.TheVariants as op
use Rattle.st_tree.proofs.Equations.{assign_stops_at_value, value_convert, value_read, value_unary}
use Rattle.st_tree.specs.Meaning.{Calls, body_meaning}
use Rattle.st_tree.specs.Operators.{from_digits, unary_value}
use Rattle.st_tree.specs.State.{State, own_of}
use Rattle.st_tree.specs.Value.{value}
use Rattle.st_tree.specs.Values.{typed}
use Rattle.st_tree.specs.declared.expr.StType.TheVariants as type
use Rattle.st_tree.specs.declared.expr.UnaryOp.TheVariants as unary
use Rattle.st_tree.specs.declared.expr.Var.TheVariants as var
use Rattle.st_tree.specs.declared.program.Located.{Located}
use Rattle.st_tree.specs.declared.state.Value.{Value}
use Rattle.template_parts.specs.Builders.{convert_of, local_of, read_of, set_of, unary_of}
use Rattle.instruction_laws.specs.Ranges.{AreInRange}
use Rattle.template_parts.specs.Related.{AreAlike, Frames, Related}
use Rattle.template_parts.proofs.Alike.{same_areas}
use Rattle.template_parts.specs.DoesInstruction.{DoesInstruction}
use Rattle.template_parts.proofs.Numbers.{pattern_below, put_low, same_pattern}
use Rattle.template_parts.proofs.RegisterEffects.{HasRegisterEffect, registers_after, does_effect}
use Rattle.template_parts.proofs.Stages.{known, parts, stage}
use Rattle.digit_templates.specs.FromDigits.{btd_of, bti_of}
use Rattle.template_parts.specs.Builders.{with_low_of}

-- Digits, read

-- ACCU1 holds this pattern
abbrev Holds : List Located → State → ℕ → Type 0
Holds g s a = value g (read_of reg.Accu1) s ≡ Ok (record { ty = type.Dword; n = pos a })

word_digits : (g : List Located) (s : State) (a : ℕ) → Holds g s a
    → value g (unary_of unary.BcdToInt (convert_of type.Dword type.Word (read_of reg.Accu1))) s ≡ from_digits type.Int (bcd_value 3 (a % 2 ^ 16))
word_digits g s a h =
    let word : value g (convert_of type.Dword type.Word (read_of reg.Accu1)) s ≡ Ok (record { ty = type.Word; n = pos (a % 2 ^ 16) }) =
    simp (value_convert, h) in
    let same : a % 2 ^ 16 % 2 ^ 16 ≡ a % 2 ^ 16 = omega arith in
    value_unary g unary.BcdToInt (convert_of type.Dword type.Word (read_of reg.Accu1)) s
    ∙ ap (λ r. and_then r (unary_value unary.BcdToInt)) word
    ∙ ap (λ (n : ℕ). from_digits type.Int (bcd_value 3 n)) same

dword_digits : (g : List Located) (s : State) (a : ℕ) → Holds g s a
    → value g (unary_of unary.BcdToDint (read_of reg.Accu1)) s ≡ from_digits type.Dint (bcd_value 7 (a % 2 ^ 32))
dword_digits g s a h =
    value_unary g unary.BcdToDint (read_of reg.Accu1) s
    ∙ ap (λ r. and_then r (unary_value unary.BcdToDint)) h

-- Numbers

same_dword : (z : ℤ) → pattern 32 (number 32 (pattern 32 z)) ≡ pattern 32 z
same_dword z = grind (arith, ints)

dword_below : (z : ℤ) → pattern 32 z < 2 ^ 32
dword_below (pos n) = omega arith
dword_below (negsuc n) = omega arith

-- a pattern of 32 bits takes the place of all of ACCU1
alone : (a p : ℕ) → a < 2 ^ 32 → a / 2 ^ 32 * 2 ^ 32 + p ≡ p
alone a p h = omega arith

-- Where each digit is one of a decimal number

abbrev bti_after : RegisterValues → ℤ → RegisterValues
bti_after r z = record r { accu1 = with_number width.Word r.accu1 z }

abbrev bti_values : RegisterValues → ℤ → List Value
bti_values r z = typed type.Int z ∷ record { ty = type.Dword; n = pos (with_number width.Word r.accu1 z) } ∷ []

abbrev btd_after : RegisterValues → ℤ → RegisterValues
btd_after r z = record r { accu1 = with_number width.Dword r.accu1 z }

abbrev btd_values : RegisterValues → ℤ → List Value
btd_values r z = typed type.Dint z ∷ record { ty = type.Dword; n = pos (with_number width.Dword r.accu1 z) } ∷ []

module _ (g : List Located) (s : State) (used : ℕ) (r : RegisterValues) (sta : ℤ) (range : AreInRange r) (z : ℤ) where
  bti_alike : AreAlike (bti_after r z) (registers_after (bti_of used) (bti_values r z) (known r sta))
  bti_alike reg.Sta asked = elim asked [ ]
  bti_alike q asked = refl

  bti_effect : bcd_value 3 (part width.Word r.accu1) ≡ Ok z → HasRegisterEffect g s used (bti_of used) r (bti_after r z) sta
  bti_effect e =
      let a : r.accu1 < 2 ^ 32 = range.accu1 in
      let w : pattern 16 z < 2 ^ 16 = pattern_below z in
      let read : value g (unary_of unary.BcdToInt (convert_of type.Dword type.Word (read_of reg.Accu1))) (stage s used [] (known r sta))
      ≡ Ok (typed type.Int z) =
      word_digits g (stage s used [] (known r sta)) r.accu1 (simp parts) ∙ ap (from_digits type.Int) e in
      record {
        values = bti_values r z;
        have = (refl, read, (simp (parts, same_pattern, put_low), tt));
        alike = bti_alike;
        range = record { accu1 = omega arith; accu2 = range.accu2; ar1 = range.ar1; ar2 = range.ar2; db = range.db; di = range.di };
      }

  btd_alike : AreAlike (btd_after r z) (registers_after (btd_of used) (btd_values r z) (known r sta))
  btd_alike reg.Sta asked = elim asked [ ]
  btd_alike q asked = refl

  btd_effect : bcd_value 7 (part width.Dword r.accu1) ≡ Ok z → HasRegisterEffect g s used (btd_of used) r (btd_after r z) sta
  btd_effect e =
      let a : r.accu1 < 2 ^ 32 = range.accu1 in
      let w : pattern 32 z < 2 ^ 32 = dword_below z in
      let read : value g (unary_of unary.BcdToDint (read_of reg.Accu1)) (stage s used [] (known r sta)) ≡ Ok (typed type.Dint z) =
      dword_digits g (stage s used [] (known r sta)) r.accu1 (simp parts) ∙ ap (from_digits type.Dint) e in
      let taken : r.accu1 / 2 ^ 32 * 2 ^ 32 + pattern 32 z ≡ pattern 32 z = alone r.accu1 (pattern 32 z) a in
      record {
        values = btd_values r z;
        have = (refl, read, (simp (parts, same_dword, taken), tt));
        alike = btd_alike;
        range = record { accu1 = omega arith; accu2 = range.accu2; ar1 = range.ar1; ar2 = range.ar2; db = range.db; di = range.di };
      }

-- What they do

module _ (g : List Located) (calls : Calls) (units : ℕ) (frames : Frames) (now : Now) (s : State)
    (related : Related frames now s) (used : ℕ) (room : used + 1 ≤ length (own_of s.activations)) where
  holds : Holds g s now.registers.accu1
  holds = value_read g (var.Register reg.Accu1) s ∙ ap (λ (n : ℤ). Ok (record { ty = type.Dword; n = n })) (related.registers reg.Accu1 tt)

  bti_by : (read : Result ℤ Fault) → bcd_value 3 (part width.Word now.registers.accu1) ≡ read
      → DoesInstruction (body_meaning g calls (bti_of used) units s) units used frames s now.memory
      (with_value (with_value_of_digits width.Word now.registers read) (λ r. next (record now { registers = r })))
  bti_by (Ok z) e =
      does_effect g s used calls units (bti_of used) frames now (bti_after now.registers z) related
      (bti_effect g s used now.registers (s.registers reg.Sta) related.range z e) room
  bti_by (Err f) e =
      record {
        at = s;
        stops = assign_stops_at_value g calls (var.Local used) _ (set_of reg.Accu1 (with_low_of (convert_of type.Int type.Word (local_of used))) ∷ []) units s f
            (word_digits g s now.registers.accu1 holds ∙ ap (from_digits type.Int) e);
        areas = same_areas frames now s related;
      }

  pub bti_does : DoesInstruction (body_meaning g calls (bti_of used) units s) units used frames s now.memory (effect_of (op.Unary row.Bti) now)
  bti_does = bti_by (bcd_value 3 (part width.Word now.registers.accu1)) refl

  btd_by : (read : Result ℤ Fault) → bcd_value 7 (part width.Dword now.registers.accu1) ≡ read
      → DoesInstruction (body_meaning g calls (btd_of used) units s) units used frames s now.memory
      (with_value (with_value_of_digits width.Dword now.registers read) (λ r. next (record now { registers = r })))
  btd_by (Ok z) e =
      does_effect g s used calls units (btd_of used) frames now (btd_after now.registers z) related
      (btd_effect g s used now.registers (s.registers reg.Sta) related.range z e) room
  btd_by (Err f) e =
      record {
        at = s;
        stops = assign_stops_at_value g calls (var.Local used) _ (set_of reg.Accu1 (convert_of type.Dint type.Dword (local_of used)) ∷ []) units s f
            (dword_digits g s now.registers.accu1 holds ∙ ap (from_digits type.Dint) e);
        areas = same_areas frames now s related;
      }

  pub btd_does : DoesInstruction (body_meaning g calls (btd_of used) units s) units used frames s now.memory (effect_of (op.Unary row.Btd) now)
  btd_does = btd_by (bcd_value 7 (part width.Dword now.registers.accu1)) refl
