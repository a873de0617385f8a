-- RLDA and RRDA: their statements do the row.
use Rattle.std.proofs.Common.{◌≡◌, ℕ, ◌+◌, ◌*◌, ◌/◌, ◌%◌, ◌^◌, ◌<◌, ◌≤◌, pos, Bool, true, false, List, [], ◌∷◌, Ok, inl, refl, ap, subst, ◌∙◌, arith}
use Rattle.std.specs.Prelude.{ℤ, bit_or}
use Rattle.std.specs.Int.{from_bool}
use Rattle.std.proofs.Math.Nat.{mod-eq_of_lt}
use Rattle.std.proofs.lemmas.Nat.{or_comm, or_shifted}
use Rattle.template_parts.specs.Related.{AreAlike}
use Rattle.instruction_laws.specs.Ranges.{AreInRange}
use Rattle.template_parts.proofs.RegisterEffects.{HasRegisterEffect, registers_after}
use Rattle.template_parts.proofs.Stages.{known, stage_first, stage_register}
use Rattle.template_parts.proofs.Truths.{literal_worth}
use Rattle.template_parts.specs.Builders.{constant_of, convert_of, local_of, read_of, select_of, shift_of}
use Rattle.s7_base.specs.declared.register.Reg.TheVariants as reg
use Rattle.s7_base.specs.declared.word.Width.TheVariants as width
use Rattle.shift_templates.proofs.Expressions.{Gives, bit_gives, count, count_gives, joined_gives, moved_gives, select_gives}
use Rattle.shift_templates.proofs.Patterns.{Fits, of_width}
use Rattle.shift_templates.proofs.StepKinds.{IsKind, left_kind, one_bit, right_kind}
use Rattle.shift_templates.specs.ShiftParts.{count_of, shown_bit}
use Rattle.shift_templates.specs.ShiftTemplates.{rlda_template, rrda_template, through_cc1}
use Rattle.st_tree.proofs.Equations.{value_convert, value_literal}
use Rattle.st_tree.specs.Operators.{binary_value, selected_value, converted_value}
use Rattle.st_tree.specs.State.{State}
use Rattle.st_tree.specs.Values.{flag}
use Rattle.st_tree.specs.declared.expr.BinaryOp.TheVariants as binary
use Rattle.st_tree.specs.declared.expr.Expr.{Expr}
use Rattle.st_tree.specs.declared.expr.ShiftOp.{ShiftOp}
use Rattle.st_tree.specs.declared.expr.ShiftOp.TheVariants as shift
use Rattle.st_tree.specs.declared.expr.StType.TheVariants as type
use Rattle.st_tree.specs.declared.program.Located.{Located}
use Rattle.st_tree.specs.declared.state.Value.{Value}
use Rattle.status_word.specs.Results.{after_shifted}
use Rattle.stl_tree.specs.Registers.{RegisterValues}
use Rattle.stl_tree.specs.Shifts.{around_left_through_cc1, around_right_through_cc1, bottom, left, right, times, top}

-- What enters

-- a bit that enters a shifted pattern whose bit there is 0
abbrev pub Enters : ℕ → ℕ → Type 0
Enters x y = bit_or x y ≡ x + y

on_left : (a : ℕ) (b : Bool) → Enters (left 32 a) (from_bool b)
on_left a b = by (a * 2 % 2 ^ 32) (a * 2 % 2 ^ 32 / 2) (from_bool b) (omega arith) (omega (arith, one_bit b))
  where
    by : (x y c : ℕ) → x ≡ y * 2 → c < 2 → bit_or x c ≡ x + c
    by x y c e h = rw e (or_shifted y 1 c h)

on_right : (a : ℕ) (b : Bool) → a < 2 ^ 32 → Enters (right a) (from_bool b * 2 ^ 31)
on_right a b h =
    let low : a / 2 < 2 ^ 31 = omega arith in
    or_comm (a / 2) (from_bool b * 2 ^ 31) ∙ or_shifted (from_bool b) 31 (a / 2) low ∙ omega arith

-- the truth value as a pattern
converted_flag : (b : Bool) → converted_value type.Dword (flag b) ≡ of_width width.Dword (from_bool b)
converted_flag true = refl
converted_flag false = refl

chosen_pattern : (b : Bool) → selected_value (flag b) (of_width width.Dword 0) (of_width width.Dword 0x80000000) ≡ of_width width.Dword (from_bool b * 2 ^ 31)
chosen_pattern true = refl
chosen_pattern false = refl

-- an OR of patterns
joined_bits : (x y : ℕ) → x < 2 ^ 32 → y < 2 ^ 32 → x + y < 2 ^ 32 → Enters x y
    → binary_value binary.Or (of_width width.Dword x) (of_width width.Dword y) ≡ Ok (of_width width.Dword (x + y))
joined_bits x y h k fits e =
    ap (λ z. Ok (of_width width.Dword (bit_or z (y % 2 ^ 32) % 2 ^ 32))) (mod-eq_of_lt h)
    ∙ ap (λ z. Ok (of_width width.Dword (bit_or x z % 2 ^ 32))) (mod-eq_of_lt k)
    ∙ ap (λ z. Ok (of_width width.Dword (z % 2 ^ 32))) e
    ∙ ap (λ z. Ok (of_width width.Dword z)) (mod-eq_of_lt fits)

one_step : (f : ℕ → ℕ) (p : ℕ) → times 1 f p ≡ f p
unfolding times
one_step f p = refl

module _ (g : List Located) (s : State) (used : ℕ) (r : RegisterValues) (sta : ℤ) (range : AreInRange r) where
  -- of both: the operation's step, the bit that leaves, and what enters
  module _ (op : ShiftOp) (f : ℕ → ℕ) (out : ℕ → Bool) (kind : IsKind op width.Dword f out)
      (entering : Expr) (y : ℕ) (small : y < 2 ^ 32) (fits : f r.accu1 + y < 2 ^ 32)
      (enters : Enters (f r.accu1) y) where
    abbrev through : RegisterValues
    through = record r { accu1 = f r.accu1 + y; status = after_shifted (out r.accu1) r.status }

    abbrev carry_values : List Value
    carry_values = flag r.status.cc1 ∷ flag (out r.accu1) ∷ flag false ∷ flag false ∷ of_width width.Dword (f r.accu1 + y) ∷ []

    carry_alike : AreAlike through (registers_after (through_cc1 op entering used) carry_values (known r sta))
    carry_alike reg.Sta asked = elim asked [ ]
    carry_alike q asked = refl

    carry_effect : ((t : State) → Gives g t (local_of used) (flag r.status.cc1) → Gives g t entering (of_width width.Dword y))
        → HasRegisterEffect g s used (through_cc1 op entering used) r through sta
    carry_effect gives =
        let here : Fits width.Dword r.accu1 = range.accu1 in
        let moved : Fits width.Dword (f r.accu1) = omega arith in
        record {
          values = carry_values;
          have = (
            refl,
            stage_register s used [] (known r sta) g reg.Cc1,
            (
              bit_gives g _ width.Dword tt (shown_bit op width.Dword) (read_of reg.Accu1) r.accu1 kind.bit here (stage_register s used _ _ g reg.Accu1)
                  ∙ ap (λ b. Ok (flag b)) (kind.shows r.accu1 here),
              (
                literal_worth g _ false,
                (
                  literal_worth g _ false,
                  (
                    joined_gives g _ binary.Or (shift_of op (read_of reg.Accu1) (count_of 1)) entering
                        (of_width width.Dword (f r.accu1)) (of_width width.Dword y)
                        (moved_gives g _ width.Dword tt op f kind.moves (read_of reg.Accu1)
                        (count_of 1) r.accu1 1 (count 1) here (inl refl) (stage_register s used _ _ g reg.Accu1)
                        (count_gives g _ 1) ∙ ap (λ x. Ok (of_width width.Dword x)) (one_step f r.accu1))
                        (gives _ (stage_first s used _ _ g))
                        ∙ joined_bits (f r.accu1) y moved small fits enters,
                    tt,
                  ),
                ),
              ),
            ),
          );
          alike = carry_alike;
          range = record { accu1 = fits; accu2 = range.accu2; ar1 = range.ar1; ar2 = range.ar2; db = range.db; di = range.di };
        }

  pub rlda_effect : HasRegisterEffect g s used (rlda_template used) r (around_left_through_cc1 r) sta
  rlda_effect =
      let bit : from_bool r.status.cc1 ≤ 1 = one_bit r.status.cc1 in
      carry_effect shift.Shl (left 32) (top 32) (left_kind width.Dword tt)
      (convert_of type.Bool type.Dword (local_of used)) (from_bool r.status.cc1) (omega arith) (omega arith)
      (on_left r.accu1 r.status.cc1)
      (λ t h. value_convert g type.Bool type.Dword (local_of used) t ∙ (rw h refl) ∙ ap Ok (converted_flag r.status.cc1))

  around_right_is : record r { accu1 = right r.accu1 + from_bool r.status.cc1 * 2 ^ 31; status = after_shifted (bottom r.accu1) r.status }
      ≡ around_right_through_cc1 r
  around_right_is =
      let turned : right r.accu1 + from_bool r.status.cc1 * 2 ^ 31 ≡ from_bool r.status.cc1 * 2 ^ 31 + right r.accu1 = omega arith in
      ap (λ (a : ℕ). record r { accu1 = a; status = after_shifted (bottom r.accu1) r.status }) turned

  pub rrda_effect : HasRegisterEffect g s used (rrda_template used) r (around_right_through_cc1 r) sta
  rrda_effect =
      let bit : from_bool r.status.cc1 ≤ 1 = one_bit r.status.cc1 in
      let here : r.accu1 < 2 ^ 32 = range.accu1 in
      let low : Expr = constant_of type.Dword (pos 0) in
      let high : Expr = constant_of type.Dword (pos 0x80000000) in
      subst (λ (q : RegisterValues). HasRegisterEffect g s used (rrda_template used) r q sta) around_right_is
      (carry_effect shift.Shr right bottom (right_kind width.Dword tt)
      (select_of (local_of used) low high) (from_bool r.status.cc1 * 2 ^ 31) (omega arith) (omega arith)
      (on_right r.accu1 r.status.cc1 here)
      (λ t h. select_gives g t (local_of used) low high (flag r.status.cc1) (of_width width.Dword 0)
      (of_width width.Dword 0x80000000) h (value_literal g type.Dword (pos 0) t)
      (value_literal g type.Dword (pos 0x80000000) t) ∙ ap Ok (chosen_pattern r.status.cc1)))
