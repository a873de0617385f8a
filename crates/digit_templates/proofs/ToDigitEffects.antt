-- ITB and DTB do what their rows do.
use Rattle.std.proofs.Common.{◌≡◌, ℕ, ◌+◌, ◌*◌, ◌/◌, ◌%◌, ◌^◌, ◌<◌, ◌≤◌, pos, Bool, true, false, not, ◌||◌, if◌then◌else◌, List, [], ◌∷◌, ◌++◌, length, Some, None, Ok, refl, sym, ap, subst, ◌∙◌, arith}
use Rattle.std.specs.Prelude.{ℤ, int_lt, nat_lt, neg_ℤ, unsigned_abs}
use Rattle.std.proofs.lemmas.Int.{ints}
use Rattle.bcd_words.specs.Bcd.{digits, sign_digit, worth}
use Rattle.s7_base.specs.SignedNumbers.{number, pattern}
use Rattle.s7_base.specs.declared.register.Reg.{Reg}
use Rattle.s7_base.specs.declared.register.Reg.TheVariants as reg
use Rattle.s7_base.specs.declared.word.Width.{Width}
use Rattle.s7_base.specs.declared.word.Width.TheVariants as width
use Rattle.status_word.specs.Results.{after_converted}
use Rattle.stl_tree.specs.Accumulators.{signed_part, with_part}
use Rattle.stl_tree.specs.Conversions.{to_digits, with_digits}
use Rattle.stl_tree.specs.Instructions.{effect_of}
use Rattle.stl_tree.specs.Now.{Now}
use Rattle.stl_tree.specs.Registers.{RegisterValues}
use Rattle.stl_tree.specs.declared.accumulator.UnaryRow.TheVariants as row
use Rattle.stl_tree.specs.declared.program.Op.TheVariants as op
use Rattle.st_tree.specs.Meaning.{Calls, body_meaning}
use Rattle.st_tree.specs.State.{State, own_of, with_register}
use Rattle.st_tree.specs.Value.{value}
use Rattle.st_tree.specs.Values.{fit, flag, is_set, number_of}
use Rattle.st_tree.specs.declared.expr.Expr.{Expr}
use Rattle.st_tree.specs.declared.expr.StType.{StType}
use Rattle.st_tree.specs.declared.expr.StType.TheVariants as type
use Rattle.st_tree.specs.declared.program.Located.{Located}
use Rattle.st_tree.specs.declared.program.Stmt.{Stmt}
use Rattle.st_tree.specs.declared.state.Value.{Value}
use Rattle.template_parts.specs.Builders.{constant_of, convert_of, local_of}
use Rattle.template_parts.specs.Related.{AreAlike, Frames, Related}
use Rattle.instruction_laws.specs.Ranges.{AreInRange}
use Rattle.template_parts.specs.DoesInstruction.{DoesInstruction}
use Rattle.template_parts.proofs.Numbers.{or_numbers, put_low, wide_low}
use Rattle.template_parts.proofs.RegisterEffects.{HasRegisterEffect, registers_after, does_effect}
use Rattle.template_parts.proofs.Stages.{known, parts, stage}
use Rattle.template_parts.specs.Builders.{with_low_of}
use Rattle.digit_templates.specs.ToDigits.{digits_of, dtb_of, itb_of, measured_of, under_sign_of, written_of}
use Rattle.digit_templates.proofs.DigitSums.{amount, by_sign, constant, dint_holds, dword_pattern, lint_holds, seven_digits, sum, three_digits, word_pattern}

-- A row that writes digits, by whether its number has no more than these

abbrev after : Bool → ℕ → RegisterValues → RegisterValues
after few q r = record r { accu1 = if few then q else r.accu1; status = after_converted (not few) r.status }

abbrev values : StType → ℤ → ℕ → ℕ → Bool → RegisterValues → List Value
values ty z p q few r =
    record { ty = ty; n = z }
    ∷ record { ty = ty; n = pos (unsigned_abs z) }
    ∷ flag (not few)
    ∷ record { ty = ty; n = pos p }
    ∷ flag (not few)
    ∷ flag (r.status.os || not few)
    ∷ record { ty = type.Dword; n = pos (if few then q else r.accu1) }
    ∷ []

-- the locals
abbrev kept : StType → ℤ → ℕ → Bool → List Value
kept ty z p few = record { ty = ty; n = z } ∷ record { ty = ty; n = pos (unsigned_abs z) } ∷ flag (not few) ∷ record { ty = ty; n = pos p } ∷ []

-- the registers before ACCU1 is set
abbrev flagged : Bool → RegisterValues → ℤ → Reg → ℤ
flagged few r sta = with_register reg.Os (number_of (r.status.os || not few)) (with_register reg.Ov (number_of (not few)) (known r sta))

picked : (few : Bool) (x y : ℕ) → (if is_set (flag (not few)) then pos x else pos y) ≡ pos (if few then y else x)
picked true x y = refl
picked false x y = refl

either_below : (few : Bool) (x y : ℕ) → x < 2 ^ 32 → y < 2 ^ 32 → (if few then x else y) < 2 ^ 32
either_below true x y h k = h
either_below false x y h k = k

module _ (g : List Located) (s : State) (used : ℕ) (r : RegisterValues) (sta : ℤ) (range : AreInRange r)
    (ty : StType) (number pattern written : Expr) (greatest z : ℤ) (p q : ℕ) (few : Bool) where
  abbrev body : List Stmt
  body = measured_of ty used number greatest ++ written_of used pattern written

  effect_alike : AreAlike (after few q r) (registers_after body (values ty z p q few r) (known r sta))
  effect_alike reg.Sta asked = elim asked [ ]
  effect_alike q asked = refl

  digit_effect : value g number (stage s used [] (known r sta)) ≡ Ok (record { ty = ty; n = z })
      → fit ty (neg_ℤ z) ≡ neg_ℤ z
      → int_lt greatest (pos (unsigned_abs z)) ≡ not few
      → value g pattern (stage s used (record { ty = ty; n = z } ∷ record { ty = ty; n = pos (unsigned_abs z) } ∷ flag (not few) ∷ []) (known r sta))
      ≡ Ok (record { ty = ty; n = pos p })
      → value g written (stage s used (kept ty z p few) (flagged few r sta)) ≡ Ok (record { ty = type.Dword; n = pos q })
      → q < 2 ^ 32
      → HasRegisterEffect g s used body r (after few q r) sta
  digit_effect given negates test digits put small =
      record {
        values = values ty z p q few r;
        have = (
          refl,
          given,
          (
            refl,
            amount g (stage s used (record { ty = ty; n = z } ∷ []) (known r sta)) ty (local_of used) z (simp parts) negates,
            (refl, simp (parts, test), (refl, digits, (simp parts, (simp (parts, or_numbers), (simp (parts, put, picked), tt))))),
          ),
        );
        alike = effect_alike;
        range = record {
          accu1 = either_below few q r.accu1 small range.accu1;
          accu2 = range.accu2;
          ar1 = range.ar1;
          ar2 = range.ar2;
          db = range.db;
          di = range.di;
        };
      }

-- Numbers

-- a number of at most 32 bits is none past them with the other sign but in a LINT, and one of 16 bits is in a DINT too
word_negates : (a : ℕ) → fit type.Dint (neg_ℤ (number 16 (a % 2 ^ 16))) ≡ neg_ℤ (number 16 (a % 2 ^ 16))
word_negates a = grind (arith, ints)

dword_negates : (a : ℕ) → fit type.Lint (neg_ℤ (number 32 (a % 2 ^ 32))) ≡ neg_ℤ (number 32 (a % 2 ^ 32))
dword_negates a = grind (arith, ints)

word_amount : (a : ℕ) → unsigned_abs (number 16 (a % 2 ^ 16)) ≤ 2 ^ 31
word_amount a = grind (arith, ints)

dword_amount : (a : ℕ) → unsigned_abs (number 32 (a % 2 ^ 32)) ≤ 2 ^ 31
dword_amount a = grind (arith, ints)

wide_dword : (a : ℕ) → a < 2 ^ 32 → number 64 (pattern 64 (number 32 (a % 2 ^ 32))) ≡ number 32 (a % 2 ^ 32)
wide_dword a h = grind (arith, ints)

word_test : (n : ℕ) → int_lt (pos 999) (pos n) ≡ not (nat_lt n 1000)
word_test n = grind (arith, ints)

dword_test : (n : ℕ) → int_lt (pos 9999999) (pos n) ≡ not (nat_lt n 10000000)
dword_test n = grind (arith, ints)

either_number : (b : Bool) (x y : ℕ) → (if b then pos x else pos y) ≡ pos (if b then x else y)
either_number true x y = refl
either_number false x y = refl

at_most : (b : Bool) (x : ℕ) → (if b then x else 0) ≤ x
at_most true x = omega arith
at_most false x = omega arith

-- Patterns

abbrev bcd : ℕ → ℤ → ℕ
bcd count z = worth 16 (digits 10 count (unsigned_abs z) ++ sign_digit z ∷ [])

-- what the rows say, by whether the number has no more digits
effect_is : (w : Width) (few : Bool) (p : ℕ) (r : RegisterValues) → with_digits w (if few then Some p else None) r ≡ after few (with_part w r.accu1 p) r
effect_is w true p r = refl
effect_is w false p r = refl

module _ (g : List Located) (s : State) (z : ℤ) where
  signed_digits : (ty : StType) (room m sign : ℕ) (number digits : Expr) → ((i : ℕ) → i < room → fit ty (pos i) ≡ pos i)
      → value g number s ≡ Ok (record { ty = ty; n = z }) → value g digits s ≡ Ok (record { ty = ty; n = pos m }) → m + sign < room
      → value g (under_sign_of ty number digits (pos sign)) s ≡ Ok (record { ty = ty; n = pos (m + (if int_lt z (pos 0) then sign else 0)) })
  signed_digits ty room m sign number digits holds is_number is_digits small =
      let le : (if int_lt z (pos 0) then sign else 0) ≤ sign = at_most (int_lt z (pos 0)) sign in
      let by =
      by_sign g s ty number z is_number (constant_of ty (pos 0)) (constant_of ty (pos sign)) (pos 0) (pos sign)
      (constant g s ty room holds 0) (constant g s ty room holds sign)
      ∙ ap (λ (n : ℤ). Ok (record { ty = ty; n = n })) (either_number (int_lt z (pos 0)) sign 0) in
      sum g s ty room holds digits _ m (if int_lt z (pos 0) then sign else 0) is_digits by (omega arith)

  word_written : (number amount : Expr) → unsigned_abs z ≤ 2 ^ 31
      → value g number s ≡ Ok (record { ty = type.Dint; n = z }) → value g amount s ≡ Ok (record { ty = type.Dint; n = pos (unsigned_abs z) })
      → value g (under_sign_of type.Dint number (digits_of type.Dint amount 2) (pos 0xF000)) s ≡ Ok (record { ty = type.Dint; n = pos (bcd 3 z) })
  word_written number amount few is_number is_amount =
      signed_digits type.Dint (2 ^ 31) _ 0xF000 number (digits_of type.Dint amount 2) dint_holds is_number
      (three_digits g s type.Dint (2 ^ 31) dint_holds amount (unsigned_abs z) is_amount (omega arith) few) (omega arith)
      ∙ ap (λ (n : ℕ). Ok (record { ty = type.Dint; n = pos n })) (word_pattern (unsigned_abs z) z)

  dword_written : (number amount : Expr) → unsigned_abs z ≤ 2 ^ 31
      → value g number s ≡ Ok (record { ty = type.Lint; n = z }) → value g amount s ≡ Ok (record { ty = type.Lint; n = pos (unsigned_abs z) })
      → value g (under_sign_of type.Lint number (digits_of type.Lint amount 6) (pos 0xF0000000)) s ≡ Ok (record { ty = type.Lint; n = pos (bcd 7 z) })
  dword_written number amount few is_number is_amount =
      signed_digits type.Lint (2 ^ 33) _ 0xF0000000 number (digits_of type.Lint amount 6) lint_holds is_number
      (seven_digits g s type.Lint (2 ^ 33) lint_holds amount (unsigned_abs z) is_amount (omega arith) few) (omega arith)
      ∙ ap (λ (n : ℕ). Ok (record { ty = type.Lint; n = pos n })) (dword_pattern (unsigned_abs z) z)

word_below : (z : ℤ) → bcd 3 z < 2 ^ 16
word_below z =
    let le : (if int_lt z (pos 0) then 0xF000 else 0) ≤ 0xF000 = at_most (int_lt z (pos 0)) 0xF000 in
    subst (λ (p : ℕ). p < 2 ^ 16) (word_pattern (unsigned_abs z) z) (omega arith)

dword_below : (z : ℤ) → bcd 7 z < 2 ^ 32
dword_below z =
    let le : (if int_lt z (pos 0) then 0xF0000000 else 0) ≤ 0xF0000000 = at_most (int_lt z (pos 0)) 0xF0000000 in
    subst (λ (p : ℕ). p < 2 ^ 32) (dword_pattern (unsigned_abs z) z) (omega arith)

-- ACCU1 once a pattern is written

module _ (g : List Located) (s : State) (used : ℕ) (r : RegisterValues) (sta : ℤ) (range : AreInRange r) (z : ℤ) (few : Bool) where
  low_put : (p : ℕ) → p < 2 ^ 16
      → value g (with_low_of (convert_of type.Dint type.Word (local_of (used + 3)))) (stage s used (kept type.Dint z p few) (flagged few r sta))
      ≡ Ok (record { ty = type.Dword; n = pos (with_part width.Word r.accu1 p) })
  low_put p h =
      let a : r.accu1 < 2 ^ 32 = range.accu1 in
      let same : p % 2 ^ 16 ≡ p = omega arith in
      simp (parts, same, put_low)

  all_put : (p : ℕ) → p < 2 ^ 32
      → value g (convert_of type.Lint type.Dword (local_of (used + 3))) (stage s used (kept type.Lint z p few) (flagged few r sta))
      ≡ Ok (record { ty = type.Dword; n = pos (with_part width.Dword r.accu1 p) })
  all_put p h =
      let a : r.accu1 < 2 ^ 32 = range.accu1 in
      let same : p % 2 ^ 32 ≡ p = omega arith in
      let alone : r.accu1 / 2 ^ 32 * 2 ^ 32 + p ≡ p = omega arith in
      simp (parts, same, alone)

-- The rows

module _ (g : List Located) (s : State) (used : ℕ) (r : RegisterValues) (sta : ℤ) (range : AreInRange r) where
  -- the first locals
  abbrev measured : StType → ℤ → Bool → List Value
  measured ty z few = record { ty = ty; n = z } ∷ record { ty = ty; n = pos (unsigned_abs z) } ∷ flag (not few) ∷ []

  pub itb_effect : HasRegisterEffect g s used (itb_of used) r (to_digits width.Word 3 r) sta
  itb_effect =
      let z : ℤ = signed_part width.Word r.accu1 in
      let few : Bool = nat_lt (unsigned_abs z) 1000 in
      let p : ℕ = bcd 3 z in
      let a : r.accu1 < 2 ^ 32 = range.accu1 in
      let below : p < 2 ^ 16 = word_below z in
      let at : State = stage s used (measured type.Dint z few) (known r sta) in
      subst (λ (to : RegisterValues). HasRegisterEffect g s used (itb_of used) r to sta) (sym (effect_is width.Word few p r))
      (digit_effect g s used r sta range type.Dint _ _ _ (pos 999) z p (with_part width.Word r.accu1 p) few
      (simp (parts, wide_low)) (word_negates r.accu1) (word_test (unsigned_abs z))
      (word_written g at z (local_of used) (local_of (used + 1)) (word_amount r.accu1) (simp parts) (simp parts))
      (low_put g s used r sta range z few p below) (omega arith))

  pub dtb_effect : HasRegisterEffect g s used (dtb_of used) r (to_digits width.Dword 7 r) sta
  dtb_effect =
      let z : ℤ = signed_part width.Dword r.accu1 in
      let few : Bool = nat_lt (unsigned_abs z) 10000000 in
      let p : ℕ = bcd 7 z in
      let a : r.accu1 < 2 ^ 32 = range.accu1 in
      let below : p < 2 ^ 32 = dword_below z in
      let at : State = stage s used (measured type.Lint z few) (known r sta) in
      subst (λ (to : RegisterValues). HasRegisterEffect g s used (dtb_of used) r to sta) (sym (effect_is width.Dword few p r))
      (digit_effect g s used r sta range type.Lint _ _ _ (pos 9999999) z p (with_part width.Dword r.accu1 p) few
      (simp (parts, wide_dword)) (dword_negates r.accu1) (dword_test (unsigned_abs z))
      (dword_written g at z (local_of used) (local_of (used + 1)) (dword_amount r.accu1) (simp parts) (simp parts))
      (all_put g s used r sta range z few p below) (omega arith))

-- What they do

module _ (g : List Located) (calls : Calls) (units : ℕ) (frames : Frames) (now : Now) (s : State)
    (related : Related frames now s) (used : ℕ) (room : used + 4 ≤ length (own_of s.activations)) where
  pub itb_does : DoesInstruction (body_meaning g calls (itb_of used) units s) units used frames s now.memory (effect_of (op.Unary row.Itb) now)
  itb_does =
      does_effect g s used calls units (itb_of used) frames now (to_digits width.Word 3 now.registers) related
      (itb_effect g s used now.registers (s.registers reg.Sta) related.range) room

  pub dtb_does : DoesInstruction (body_meaning g calls (dtb_of used) units s) units used frames s now.memory (effect_of (op.Unary row.Dtb) now)
  dtb_does =
      does_effect g s used calls units (dtb_of used) frames now (to_digits width.Dword 7 now.registers) related
      (dtb_effect g s used now.registers (s.registers reg.Sta) related.range) room
