-- Shifts and rotations by the lowest byte of ACCU2: their statements do the row, for a count of 0 too.
use Rattle.std.proofs.Common.{◌≡◌, ℕ, ◌+◌, ◌-◌, ◌^◌, ◌<◌, ◌≤◌, ◌==◌, Bool, true, false, not, ◌&&◌, if◌then◌else◌, List, [], ◌∷◌, Ok, inl, refl, ap, subst, ◌∙◌, arith}
use Rattle.std.specs.Prelude.{ℤ}
use Rattle.std.proofs.Math.Nat.{div-add-mod', mod-lt}
use Rattle.std.proofs.lemmas.Bool.Decides.{nat_tests}
use Rattle.std.proofs.lemmas.Nat.{pow_pos}
use Rattle.template_parts.specs.Related.{AreAlike}
use Rattle.instruction_laws.specs.Ranges.{AreInRange}
use Rattle.template_parts.proofs.RegisterEffects.{HasRegisterEffect, registers_after}
use Rattle.template_parts.proofs.Stages.{known, stage_first, stage_local, stage_register}
use Rattle.template_parts.specs.Builders.{local_of, read_of, shift_of}
use Rattle.s7_base.specs.declared.register.Reg.TheVariants as reg
use Rattle.s7_base.specs.declared.word.Width.{Width}
use Rattle.s7_base.specs.declared.word.Width.TheVariants as width
use Rattle.shift_templates.proofs.ConstantEffects.{after, part_fits, with_part_fits}
use Rattle.shift_templates.proofs.Expressions.{accu1_gives, accu2_gives, bit_gives, bottom_gives, count, gate_gives, kept_gives, less_counts, less_gives, less_one, moved_gives, operand_gives, signed_gives, step_gives, top_gives}
use Rattle.shift_templates.proofs.Patterns.{Fits, IsShifted, moves_keep, of_width}
use Rattle.shift_templates.proofs.StepKinds.{IsKind, IsSigned, around_left_kind, around_right_kind, left_around, left_kind, right_around, right_kind, signs_kept}
use Rattle.shift_templates.specs.ShiftParts.{has_bit, one_less, shown_bit, signed_shift}
use Rattle.shift_templates.specs.ShiftTemplates.{by_accu2, shift_by_accu2, signed_by_accu2, turn_by_accu2}
use Rattle.st_tree.specs.State.{State}
use Rattle.st_tree.specs.Values.{flag}
use Rattle.st_tree.specs.declared.expr.ShiftOp.{ShiftOp}
use Rattle.st_tree.specs.declared.expr.ShiftOp.TheVariants as shift
use Rattle.st_tree.specs.declared.program.Located.{Located}
use Rattle.st_tree.specs.declared.state.Value.{Value}
use Rattle.status_word.specs.Results.{after_shifted}
use Rattle.status_word.specs.StatusBits.{StatusBits}
use Rattle.memory_areas.specs.Access.{bits_wide}
use Rattle.stl_tree.specs.Accumulators.{part, with_part}
use Rattle.stl_tree.specs.Registers.{RegisterValues}
use Rattle.stl_tree.specs.Shifts.{around_left, around_right, bottom, left, right, right_signed, after_shift_steps, times, top}
use Rattle.stl_tree.specs.declared.accumulator.ShiftRow.{ShiftRow}
use Rattle.stl_tree.specs.declared.accumulator.ShiftRow.TheVariants as row

-- The registers where there may be no step

-- the flags are set where there is one
abbrev pub shown_where : Bool → Bool → StatusBits → StatusBits
shown_where gate out bits =
    record bits { cc1 = if gate then out else bits.cc1; cc0 = bits.cc0 && not gate; ov = bits.ov && not gate }

-- the registers once ACCU1 and they are
abbrev pub after_where : Width → ℕ → Bool → Bool → RegisterValues → RegisterValues
after_where w x gate out r = record r { accu1 = with_part w r.accu1 x; status = shown_where gate out r.status }

and_true : (a : Bool) → (a && true) ≡ a
and_true true = refl
and_true false = refl

and_false : (a : Bool) → (a && false) ≡ false
and_false true = refl
and_false false = refl

not_shown : (out : Bool) (bits : StatusBits) → shown_where false out bits ≡ bits
not_shown out bits = rw (and_true bits.cc0, and_true bits.ov) refl

shown : (out : Bool) (bits : StatusBits) → shown_where true out bits ≡ after_shifted out bits
shown out bits = rw (and_false bits.cc0, and_false bits.ov) refl

-- so they are what the row leaves, by whether the count is 0
effect_is : (w : Width) (x : ℕ) (none out other : Bool) (r : RegisterValues) → (none ≡ true → with_part w r.accu1 x ≡ r.accu1) → (none ≡ false → out ≡ other)
    → after_where w x (not none) out r ≡ (if none then r else after w x other r)
effect_is w x true out other r same bit =
    ap (λ (a : ℕ). record r { accu1 = a; status = shown_where false out r.status }) (same refl)
    ∙ ap (λ (bits : StatusBits). record r { status = bits }) (not_shown out r.status)
effect_is w x false out other r same bit =
    ap (λ (b : Bool). record r { accu1 = with_part w r.accu1 x; status = shown_where true b r.status }) (bit refl)
    ∙ ap (λ (bits : StatusBits). record r { accu1 = with_part w r.accu1 x; status = bits }) (shown other r.status)

is_none : (n : ℕ) → (n == 0) ≡ true → n ≡ 0
is_none n e = grind (arith, nat_tests, e)

is_some : (n : ℕ) → (n == 0) ≡ false → 1 ≤ n
is_some n e = grind (arith, nat_tests, e)

no_step : (w : Width) (f : ℕ → ℕ) (n a : ℕ) → n ≡ 0 → with_part w a (times n f (part w a)) ≡ a
unfolding times
no_step w f n a e = ap (λ m. with_part w a (times m f (part w a))) e ∙ div-add-mod' a (2 ^ bits_wide w)

module _ (g : List Located) (s : State) (used : ℕ) (r : RegisterValues) (sta : ℤ) (range : AreInRange r) where
  -- the count, and whether there is a step
  abbrev steps : ℕ
  steps = part width.Byte r.accu2

  abbrev gate : Bool
  gate = not (steps == 0)

  small : steps < 2 ^ 8
  small = mod-lt r.accu2 (pow_pos 8)

  range_where : (w : Width) → IsShifted w → (x : ℕ) → Fits w x → (out : Bool) → AreInRange (after_where w x gate out r)
  range_where w wide x fits out =
      record {
        accu1 = with_part_fits w wide r.accu1 x range.accu1 fits;
        accu2 = range.accu2;
        ar1 = range.ar1;
        ar2 = range.ar2;
        db = range.db;
        di = range.di;
      }

  -- SLW, SRW, SLD, SRD

  module _ (op : ShiftOp) (w : Width) (f : ℕ → ℕ) (out : ℕ → Bool) (kind : IsKind op w f out) where
    abbrev whole : ℕ
    whole = part w r.accu1

    abbrev before : ℕ
    before = times (steps - 1) f whole

    abbrev shift_values : List Value
    shift_values =
        count steps
        ∷ flag gate
        ∷ of_width w whole
        ∷ of_width w before
        ∷ flag (if gate then out before else r.status.cc1)
        ∷ flag (r.status.cc0 && not gate)
        ∷ flag (r.status.ov && not gate)
        ∷ of_width width.Dword (with_part w r.accu1 (times steps f whole))
        ∷ []

    shift_alike : AreAlike (after_where w (times steps f whole) gate (out before) r) (registers_after (shift_by_accu2 op w used) shift_values (known r sta))
    shift_alike reg.Sta asked = elim asked [ ]
    shift_alike q asked = refl

    shift_effect : HasRegisterEffect g s used (shift_by_accu2 op w used) r (after_where w (times steps f whole) gate (out before) r) sta
    shift_effect =
        let fits : Fits w whole = part_fits w r.accu1 in
        let fits_before : Fits w before = moves_keep op (bits_wide w) f kind.moves (steps - 1) whole fits in
        let fits_all : Fits w (times steps f whole) = moves_keep op (bits_wide w) f kind.moves steps whole fits in
        record {
          values = shift_values;
          have = (
            refl,
            accu2_gives g _ r.accu2 (stage_register s used [] (known r sta) g reg.Accu2),
            (
              refl,
              step_gives g _ (local_of used) steps (stage_first s used _ _ g),
              (
                refl,
                operand_gives g _ w kind.wide r.accu1 range.accu1 (stage_register s used _ _ g reg.Accu1),
                (
                  refl,
                  moved_gives g _ w kind.wide op f kind.moves (local_of (used + 2))
                      (one_less (local_of used)) whole (steps - 1) (less_one steps) fits (less_counts steps small)
                      (stage_local s used _ _ g 2) (less_gives g _ (local_of used) steps (stage_first s used _ _ g)),
                  (
                    gate_gives g _ (local_of (used + 1)) (read_of reg.Cc1)
                        (has_bit w (shown_bit op w) (local_of (used + 3))) gate r.status.cc1 (out before) (stage_local s used _ _ g 1)
                        (stage_register s used _ _ g reg.Cc1)
                        (bit_gives g _ w kind.wide (shown_bit op w) (local_of (used + 3)) before kind.bit fits_before (stage_local s used _ _ g 3)
                        ∙ ap (λ b. Ok (flag b)) (kind.shows before fits_before)),
                    (
                      kept_gives g _ (local_of (used + 1)) (read_of reg.Cc0) gate r.status.cc0
                          (stage_local s used _ _ g 1) (stage_register s used _ _ g reg.Cc0),
                      (
                        kept_gives g _ (local_of (used + 1)) (read_of reg.Ov) gate r.status.ov
                            (stage_local s used _ _ g 1) (stage_register s used _ _ g reg.Ov),
                        (
                          accu1_gives g _ w kind.wide (shift_of op (local_of (used + 2)) (local_of used)) r.accu1 (times steps f whole) range.accu1 fits_all
                              (stage_register s used _ _ g reg.Accu1)
                              (moved_gives g _ w kind.wide op f kind.moves (local_of (used + 2))
                              (local_of used) whole steps (count steps) fits (inl refl) (stage_local s used _ _ g 2)
                              (stage_first s used _ _ g)),
                          tt,
                        ),
                      ),
                    ),
                  ),
                ),
              ),
            ),
          );
          alike = shift_alike;
          range = range_where w kind.wide (times steps f whole) fits_all (out before);
        }

  -- SSI, SSD

  module _ (w : Width) (wide : IsShifted w) where
    abbrev word : ℕ
    word = part w r.accu1

    abbrev sign : Bool
    sign = top (bits_wide w) word

    abbrev signed_before : ℕ
    signed_before = times (steps - 1) (right_signed (bits_wide w)) word

    abbrev signed_after : ℕ
    signed_after = times steps (right_signed (bits_wide w)) word

    abbrev signed_values : List Value
    signed_values =
        count steps
        ∷ flag gate
        ∷ of_width w word
        ∷ flag sign
        ∷ of_width w signed_before
        ∷ flag (if gate then bottom signed_before else r.status.cc1)
        ∷ flag (r.status.cc0 && not gate)
        ∷ flag (r.status.ov && not gate)
        ∷ of_width width.Dword (with_part w r.accu1 signed_after)
        ∷ []

    signed_alike : AreAlike (after_where w signed_after gate (bottom signed_before) r) (registers_after (signed_by_accu2 w used) signed_values (known r sta))
    signed_alike reg.Sta asked = elim asked [ ]
    signed_alike q asked = refl

    signed_effect : HasRegisterEffect g s used (signed_by_accu2 w used) r (after_where w signed_after gate (bottom signed_before) r) sta
    signed_effect =
        let fits : Fits w word = part_fits w r.accu1 in
        let kept : IsSigned w sign signed_before = signs_kept w wide (steps - 1) word fits in
        let kept_after : IsSigned w sign signed_after = signs_kept w wide steps word fits in
        record {
          values = signed_values;
          have = (
            refl,
            accu2_gives g _ r.accu2 (stage_register s used [] (known r sta) g reg.Accu2),
            (
              refl,
              step_gives g _ (local_of used) steps (stage_first s used _ _ g),
              (
                refl,
                operand_gives g _ w wide r.accu1 range.accu1 (stage_register s used _ _ g reg.Accu1),
                (
                  refl,
                  top_gives g _ w wide (local_of (used + 2)) word fits (stage_local s used _ _ g 2),
                  (
                    refl,
                    signed_gives g _ w wide (local_of (used + 3)) (local_of (used + 2))
                        (one_less (local_of used)) word (steps - 1) (less_one steps) fits (less_counts steps small)
                        (stage_local s used _ _ g 3) (stage_local s used _ _ g 2) (less_gives g _ (local_of used) steps (stage_first s used _ _ g)),
                    (
                      gate_gives g _ (local_of (used + 1)) (read_of reg.Cc1) (has_bit w 1 (local_of (used + 4))) gate r.status.cc1
                          (bottom signed_before) (stage_local s used _ _ g 1)
                          (stage_register s used _ _ g reg.Cc1)
                          (bottom_gives g _ w wide (local_of (used + 4)) signed_before kept.0 (stage_local s used _ _ g 4)),
                      (
                        kept_gives g _ (local_of (used + 1)) (read_of reg.Cc0) gate r.status.cc0
                            (stage_local s used _ _ g 1) (stage_register s used _ _ g reg.Cc0),
                        (
                          kept_gives g _ (local_of (used + 1)) (read_of reg.Ov) gate r.status.ov
                              (stage_local s used _ _ g 1) (stage_register s used _ _ g reg.Ov),
                          (
                            accu1_gives g _ w wide (signed_shift (local_of (used + 3)) (local_of (used + 2)) (local_of used))
                                r.accu1 signed_after range.accu1 kept_after.0
                                (stage_register s used _ _ g reg.Accu1)
                                (signed_gives g _ w wide (local_of (used + 3)) (local_of (used + 2))
                                (local_of used) word steps (count steps) fits (inl refl) (stage_local s used _ _ g 3)
                                (stage_local s used _ _ g 2) (stage_first s used _ _ g)),
                            tt,
                          ),
                        ),
                      ),
                    ),
                  ),
                ),
              ),
            ),
          );
          alike = signed_alike;
          range = range_where w wide signed_after kept_after.0 (bottom signed_before);
        }

  -- RLD, RRD

  module _ (op : ShiftOp) (f : ℕ → ℕ) (out : ℕ → Bool) (kind : IsKind op width.Dword f out) where
    abbrev turned : ℕ
    turned = times steps f (part width.Dword r.accu1)

    abbrev turn_values : List Value
    turn_values =
        count steps
        ∷ flag gate
        ∷ of_width width.Dword turned
        ∷ flag (if gate then out turned else r.status.cc1)
        ∷ flag (r.status.cc0 && not gate)
        ∷ flag (r.status.ov && not gate)
        ∷ of_width width.Dword (with_part width.Dword r.accu1 turned)
        ∷ []

    turn_alike : AreAlike (after_where width.Dword turned gate (out turned) r) (registers_after (turn_by_accu2 op used) turn_values (known r sta))
    turn_alike reg.Sta asked = elim asked [ ]
    turn_alike q asked = refl

    turn_effect : HasRegisterEffect g s used (turn_by_accu2 op used) r (after_where width.Dword turned gate (out turned) r) sta
    turn_effect =
        let fits : Fits width.Dword (part width.Dword r.accu1) = part_fits width.Dword r.accu1 in
        let fits_turned : Fits width.Dword turned = moves_keep op 32 f kind.moves steps (part width.Dword r.accu1) fits in
        record {
          values = turn_values;
          have = (
            refl,
            accu2_gives g _ r.accu2 (stage_register s used [] (known r sta) g reg.Accu2),
            (
              refl,
              step_gives g _ (local_of used) steps (stage_first s used _ _ g),
              (
                refl,
                moved_gives g _ width.Dword tt op f kind.moves (read_of reg.Accu1) (local_of used)
                    (part width.Dword r.accu1) steps (count steps) fits (inl refl)
                    (operand_gives g _ width.Dword tt r.accu1 range.accu1 (stage_register s used _ _ g reg.Accu1)) (stage_first s used _ _ g),
                (
                  gate_gives g _ (local_of (used + 1)) (read_of reg.Cc1)
                      (has_bit width.Dword (shown_bit op width.Dword) (local_of (used + 2))) gate r.status.cc1 (out turned)
                      (stage_local s used _ _ g 1) (stage_register s used _ _ g reg.Cc1)
                      (bit_gives g _ width.Dword tt (shown_bit op width.Dword) (local_of (used + 2)) turned kind.bit fits_turned (stage_local s used _ _ g 2)
                      ∙ ap (λ b. Ok (flag b)) (kind.shows turned fits_turned)),
                  (
                    kept_gives g _ (local_of (used + 1)) (read_of reg.Cc0) gate r.status.cc0 (stage_local s used _ _ g 1) (stage_register s used _ _ g reg.Cc0),
                    (
                      kept_gives g _ (local_of (used + 1)) (read_of reg.Ov) gate r.status.ov (stage_local s used _ _ g 1) (stage_register s used _ _ g reg.Ov),
                      (
                        accu1_gives g _ width.Dword tt (local_of (used + 2)) r.accu1 turned range.accu1 fits_turned
                            (stage_register s used _ _ g reg.Accu1) (stage_local s used _ _ g 2),
                        tt,
                      ),
                    ),
                  ),
                ),
              ),
            ),
          );
          alike = turn_alike;
          range = range_where width.Dword tt turned fits_turned (out turned);
        }

  -- Each row

  shift_done : (op : ShiftOp) (w : Width) (f : ℕ → ℕ) (out : ℕ → Bool) → IsKind op w f out
      → HasRegisterEffect g s used (shift_by_accu2 op w used) r
      (if steps == 0 then r else after w (times steps f (part w r.accu1)) (out (times (steps - 1) f (part w r.accu1))) r) sta
  shift_done op w f out kind =
      let last : Bool = out (times (steps - 1) f (part w r.accu1)) in
      let e = effect_is w (times steps f (part w r.accu1)) (steps == 0) last last r (λ h. no_step w f steps r.accu1 (is_none steps h)) (λ h. refl) in
      subst (λ (q : RegisterValues). HasRegisterEffect g s used (shift_by_accu2 op w used) r q sta) e (shift_effect op w f out kind)

  signed_done : (w : Width) → IsShifted w
      → HasRegisterEffect g s used (signed_by_accu2 w used) r
      (if steps == 0 then r
      else after w (times steps (right_signed (bits_wide w)) (part w r.accu1)) (bottom (times (steps - 1) (right_signed (bits_wide w)) (part w r.accu1))) r) sta
  signed_done w wide =
      let f : ℕ → ℕ = right_signed (bits_wide w) in
      let last : Bool = bottom (times (steps - 1) f (part w r.accu1)) in
      let e = effect_is w (times steps f (part w r.accu1)) (steps == 0) last last r (λ h. no_step w f steps r.accu1 (is_none steps h)) (λ h. refl) in
      subst (λ (q : RegisterValues). HasRegisterEffect g s used (signed_by_accu2 w used) r q sta) e (signed_effect w wide)

  turn_done : (op : ShiftOp) (f : ℕ → ℕ) (out other : ℕ → Bool) → IsKind op width.Dword f out
      → (1 ≤ steps → out (times steps f (part width.Dword r.accu1)) ≡ other (times (steps - 1) f (part width.Dword r.accu1)))
      → HasRegisterEffect g s used (turn_by_accu2 op used) r
      (if steps == 0 then r else after width.Dword (times steps f (part width.Dword r.accu1)) (other (times (steps - 1) f (part width.Dword r.accu1))) r) sta
  turn_done op f out other kind enters =
      let p : ℕ = part width.Dword r.accu1 in
      let e = effect_is width.Dword (times steps f p) (steps == 0) (out (times steps f p)) (other (times (steps - 1) f p)) r
      (λ h. no_step width.Dword f steps r.accu1 (is_none steps h)) (λ h. enters (is_some steps h)) in
      subst (λ (q : RegisterValues). HasRegisterEffect g s used (turn_by_accu2 op used) r q sta) e (turn_effect op f out kind)

  pub accu2_effect : (i : ShiftRow) → HasRegisterEffect g s used (by_accu2 i used) r (after_shift_steps i steps r) sta
  accu2_effect row.Slw = shift_done shift.Shl width.Word (left 16) (top 16) (left_kind width.Word tt)
  accu2_effect row.Srw = shift_done shift.Shr width.Word right bottom (right_kind width.Word tt)
  accu2_effect row.Ssi = signed_done width.Word tt
  accu2_effect row.Sld = shift_done shift.Shl width.Dword (left 32) (top 32) (left_kind width.Dword tt)
  accu2_effect row.Srd = shift_done shift.Shr width.Dword right bottom (right_kind width.Dword tt)
  accu2_effect row.Ssd = signed_done width.Dword tt
  accu2_effect row.Rld =
      turn_done shift.Rol (around_left 32) bottom (top 32) around_left_kind (λ some. left_around steps (part width.Dword r.accu1) some)
  accu2_effect row.Rrd =
      turn_done shift.Ror (around_right 32) (top 32) bottom around_right_kind
      (λ some. right_around steps (part width.Dword r.accu1) some (part_fits width.Dword r.accu1))
