-- Shifts and rotations by a constant, which is not 0: their statements do the row.
use Rattle.std.proofs.Common.{◌≡◌, ℕ, ◌+◌, ◌-◌, ◌^◌, ◌<◌, ◌≤◌, Bool, false, List, [], ◌∷◌, Ok, inl, refl, sym, ap, subst, ◌∙◌, arith}
use Rattle.std.specs.Prelude.{ℤ}
use Rattle.std.proofs.Math.Nat.{mod-lt}
use Rattle.std.proofs.lemmas.Nat.{pow_pos}
use Rattle.template_parts.specs.Related.{AreAlike}
use Rattle.instruction_laws.specs.Ranges.{AreInRange}
use Rattle.template_parts.proofs.RegisterEffects.{HasRegisterEffect, registers_after}
use Rattle.template_parts.proofs.Stages.{known, stage_first, stage_local, stage_register}
use Rattle.template_parts.proofs.Truths.{literal_worth}
use Rattle.template_parts.specs.Builders.{local_of, read_of, shift_of}
use Rattle.s7_base.specs.declared.register.Reg.TheVariants as reg
use Rattle.s7_base.specs.declared.word.Width.{Width}
use Rattle.s7_base.specs.declared.word.Width.TheVariants as width
use Rattle.shift_templates.proofs.Expressions.{accu1_gives, bit_gives, bottom_gives, count, count_gives, moved_gives, operand_gives, signed_gives, top_gives}
use Rattle.shift_templates.proofs.StepKinds.{IsKind, IsSigned, around_left_kind, around_right_kind, last_step, left_around, left_kind, right_around, right_kind, signs_kept}
use Rattle.shift_templates.proofs.Patterns.{Fits, IsShifted, moves_keep, of_width}
use Rattle.shift_templates.specs.ShiftParts.{count_of, operand_of, shown_bit, signed_shift}
use Rattle.shift_templates.specs.ShiftTemplates.{by_constant, shift_by_constant, signed_by_constant, turn_by_constant}
use Rattle.st_tree.specs.State.{State}
use Rattle.st_tree.specs.Values.{flag}
use Rattle.st_tree.specs.declared.expr.ShiftOp.{ShiftOp}
use Rattle.st_tree.specs.declared.expr.ShiftOp.TheVariants as shift
use Rattle.st_tree.specs.declared.program.Located.{Located}
use Rattle.st_tree.specs.declared.state.Value.{Value}
use Rattle.status_word.specs.Results.{after_shifted}
use Rattle.memory_areas.specs.Access.{bits_wide}
use Rattle.stl_tree.specs.Accumulators.{part, with_part}
use Rattle.stl_tree.specs.Registers.{RegisterValues}
use Rattle.stl_tree.specs.Shifts.{around_left, around_right, bottom, leaving, left, right, right_signed, step, times, top, width_of}
use Rattle.stl_tree.specs.declared.accumulator.ShiftRow.{ShiftRow}
use Rattle.stl_tree.specs.declared.accumulator.ShiftRow.TheVariants as row

-- the registers once ACCU1 and the flags are set
abbrev pub after : Width → ℕ → Bool → RegisterValues → RegisterValues
after w x out r = record r { accu1 = with_part w r.accu1 x; status = after_shifted out r.status }

pub with_part_fits : (w : Width) → IsShifted w → (a x : ℕ) → a < 2 ^ 32 → Fits w x → with_part w a x < 2 ^ 32
with_part_fits width.Bit wide a x h k = elim wide [ ]
with_part_fits width.Byte wide a x h k = elim wide [ ]
with_part_fits width.Word wide a x h k = omega arith
with_part_fits width.Dword wide a x h k = omega arith

pub part_fits : (w : Width) (a : ℕ) → Fits w (part w a)
part_fits w a = mod-lt a (pow_pos (bits_wide w))

pub range_kept : (r : RegisterValues) (w : Width) → IsShifted w → (x : ℕ) → Fits w x → (out : Bool) → AreInRange r → AreInRange (after w x out r)
range_kept r w wide x fits out h =
    record { accu1 = with_part_fits w wide r.accu1 x h.accu1 fits; accu2 = h.accu2; ar1 = h.ar1; ar2 = h.ar2; db = h.db; di = h.di }

-- the registers after so many steps of a row
abbrev pub stepped : ShiftRow → ℕ → RegisterValues → RegisterValues
stepped i n r =
    after (width_of i) (times n (step i) (part (width_of i) r.accu1)) (leaving i (times (n - 1) (step i) (part (width_of i) r.accu1))) r

module _ (g : List Located) (s : State) (used : ℕ) (r : RegisterValues) (sta : ℤ) (range : AreInRange r) where
  -- SLW, SRW, SLD, SRD

  module _ (op : ShiftOp) (w : Width) (f : ℕ → ℕ) (out : ℕ → Bool) (kind : IsKind op w f out) (n : ℕ) (some : 1 ≤ n) where
    -- the pattern, and what it is before the last step
    abbrev whole : ℕ
    whole = part w r.accu1

    abbrev before : ℕ
    before = times (n - 1) f whole

    abbrev shift_values : List Value
    shift_values =
        of_width w before
        ∷ flag (out before)
        ∷ flag false
        ∷ flag false
        ∷ of_width width.Dword (with_part w r.accu1 (times n f whole))
        ∷ []

    shift_alike : AreAlike (after w (times n f whole) (out before) r) (registers_after (shift_by_constant op w n used) shift_values (known r sta))
    shift_alike reg.Sta asked = elim asked [ ]
    shift_alike q asked = refl

    pub shift_effect : HasRegisterEffect g s used (shift_by_constant op w n used) r (after w (times n f whole) (out before) r) sta
    shift_effect =
        let fits : Fits w whole = part_fits w r.accu1 in
        let fits_before : Fits w before = moves_keep op (bits_wide w) f kind.moves (n - 1) whole fits in
        let fits_all : Fits w (times n f whole) = moves_keep op (bits_wide w) f kind.moves n whole fits in
        record {
          values = shift_values;
          have = (
            refl,
            moved_gives g _ w kind.wide op f kind.moves (operand_of w) (count_of (n - 1)) whole (n - 1) (count (n - 1)) fits (inl refl)
                (operand_gives g _ w kind.wide r.accu1 range.accu1 (stage_register s used [] (known r sta) g reg.Accu1)) (count_gives g _ (n - 1)),
            (
              bit_gives g _ w kind.wide (shown_bit op w) (local_of used) before kind.bit fits_before (stage_first s used _ _ g)
                  ∙ ap (λ b. Ok (flag b)) (kind.shows before fits_before),
              (
                literal_worth g _ false,
                (
                  literal_worth g _ false,
                  (
                    accu1_gives g _ w kind.wide (shift_of op (local_of used) (count_of 1)) r.accu1
                        (times n f whole) range.accu1 fits_all (stage_register s used _ _ g reg.Accu1)
                        (moved_gives g _ w kind.wide op f kind.moves (local_of used) (count_of 1) before 1
                        (count 1) fits_before (inl refl) (stage_first s used _ _ g) (count_gives g _ 1)
                        ∙ ap (λ x. Ok (of_width w x)) (last_step f n whole some)),
                    tt,
                  ),
                ),
              ),
            ),
          );
          alike = shift_alike;
          range = range_kept r w kind.wide (times n f whole) fits_all (out before) range;
        }

  -- SSI, SSD

  module _ (w : Width) (wide : IsShifted w) (n : ℕ) (some : 1 ≤ n) where
    abbrev word : ℕ
    word = part w r.accu1

    abbrev sign : Bool
    sign = top (bits_wide w) word

    abbrev signed_before : ℕ
    signed_before = times (n - 1) (right_signed (bits_wide w)) word

    abbrev signed_after : ℕ
    signed_after = times n (right_signed (bits_wide w)) word

    abbrev signed_values : List Value
    signed_values =
        of_width w word
        ∷ flag sign
        ∷ of_width w signed_before
        ∷ flag (bottom signed_before)
        ∷ flag false
        ∷ flag false
        ∷ of_width width.Dword (with_part w r.accu1 signed_after)
        ∷ []

    signed_alike : AreAlike (after w signed_after (bottom signed_before) r) (registers_after (signed_by_constant w n used) signed_values (known r sta))
    signed_alike reg.Sta asked = elim asked [ ]
    signed_alike q asked = refl

    pub signed_effect : HasRegisterEffect g s used (signed_by_constant w n used) r (after w signed_after (bottom signed_before) r) sta
    signed_effect =
        let fits : Fits w word = part_fits w r.accu1 in
        let kept : IsSigned w sign signed_before = signs_kept w wide (n - 1) word fits in
        let kept_after : IsSigned w sign signed_after = signs_kept w wide n word fits in
        record {
          values = signed_values;
          have = (
            refl,
            operand_gives g _ w wide r.accu1 range.accu1 (stage_register s used [] (known r sta) g reg.Accu1),
            (
              refl,
              top_gives g _ w wide (local_of used) word fits (stage_first s used _ _ g),
              (
                refl,
                signed_gives g _ w wide (local_of (used + 1)) (local_of used) (count_of (n - 1)) word (n - 1) (count (n - 1)) fits (inl refl)
                    (stage_local s used _ _ g 1) (stage_first s used _ _ g) (count_gives g _ (n - 1)),
                (
                  bottom_gives g _ w wide (local_of (used + 2)) signed_before kept.0 (stage_local s used _ _ g 2),
                  (
                    literal_worth g _ false,
                    (
                      literal_worth g _ false,
                      (
                        accu1_gives g _ w wide (signed_shift (local_of (used + 1)) (local_of (used + 2)) (count_of 1))
                            r.accu1 signed_after range.accu1 kept_after.0
                            (stage_register s used _ _ g reg.Accu1)
                            (signed_gives g _ w wide (local_of (used + 1)) (local_of (used + 2)) (count_of 1) signed_before 1 (count 1) kept.0 (inl refl)
                            (stage_local s used _ _ g 1 ∙ ap (λ b. Ok (flag b)) (sym kept.1)) (stage_local s used _ _ g 2) (count_gives g _ 1)
                            ∙ ap (λ x. Ok (of_width w x)) (last_step (right_signed (bits_wide w)) n word some)),
                        tt,
                      ),
                    ),
                  ),
                ),
              ),
            ),
          );
          alike = signed_alike;
          range = range_kept r w wide signed_after kept_after.0 (bottom signed_before) range;
        }

  -- RLD, RRD

  module _ (op : ShiftOp) (f : ℕ → ℕ) (out : ℕ → Bool) (kind : IsKind op width.Dword f out) (n : ℕ) where
    abbrev turned : ℕ
    turned = times n f (part width.Dword r.accu1)

    abbrev turn_values : List Value
    turn_values =
        of_width width.Dword turned
        ∷ flag (out turned)
        ∷ flag false
        ∷ flag false
        ∷ of_width width.Dword (with_part width.Dword r.accu1 turned)
        ∷ []

    turn_alike : AreAlike (after width.Dword turned (out turned) r) (registers_after (turn_by_constant op n used) turn_values (known r sta))
    turn_alike reg.Sta asked = elim asked [ ]
    turn_alike q asked = refl

    pub turn_effect : HasRegisterEffect g s used (turn_by_constant op n used) r (after width.Dword turned (out turned) r) sta
    turn_effect =
        let fits : Fits width.Dword (part width.Dword r.accu1) = part_fits width.Dword r.accu1 in
        let fits_turned : Fits width.Dword turned = moves_keep op 32 f kind.moves n (part width.Dword r.accu1) fits in
        record {
          values = turn_values;
          have = (
            refl,
            moved_gives g _ width.Dword tt op f kind.moves (read_of reg.Accu1) (count_of n) (part width.Dword r.accu1) n (count n) fits (inl refl)
                (operand_gives g _ width.Dword tt r.accu1 range.accu1 (stage_register s used [] (known r sta) g reg.Accu1)) (count_gives g _ n),
            (
              bit_gives g _ width.Dword tt (shown_bit op width.Dword) (local_of used) turned kind.bit fits_turned (stage_first s used _ _ g)
                  ∙ ap (λ b. Ok (flag b)) (kind.shows turned fits_turned),
              (
                literal_worth g _ false,
                (
                  literal_worth g _ false,
                  (
                    accu1_gives g _ width.Dword tt (local_of used) r.accu1 turned range.accu1 fits_turned
                        (stage_register s used _ _ g reg.Accu1) (stage_first s used _ _ g),
                    tt,
                  ),
                ),
              ),
            ),
          );
          alike = turn_alike;
          range = range_kept r width.Dword tt turned fits_turned (out turned) range;
        }

  -- Each row

  module _ (n : ℕ) (some : 1 ≤ n) where
    turned_effect : (op : ShiftOp) (f : ℕ → ℕ) (out : ℕ → Bool) → IsKind op width.Dword f out → (b : Bool) → out (times n f (part width.Dword r.accu1)) ≡ b
        → HasRegisterEffect g s used (turn_by_constant op n used) r (after width.Dword (times n f (part width.Dword r.accu1)) b r) sta
    turned_effect op f out kind b e =
        subst (λ c. HasRegisterEffect g s used (turn_by_constant op n used) r (after width.Dword (times n f (part width.Dword r.accu1)) c r) sta) e
        (turn_effect op f out kind n)

    pub constant_effect : (i : ShiftRow) → HasRegisterEffect g s used (by_constant i n used) r (stepped i n r) sta
    constant_effect row.Slw = shift_effect shift.Shl width.Word (left 16) (top 16) (left_kind width.Word tt) n some
    constant_effect row.Srw = shift_effect shift.Shr width.Word right bottom (right_kind width.Word tt) n some
    constant_effect row.Ssi = signed_effect width.Word tt n some
    constant_effect row.Sld = shift_effect shift.Shl width.Dword (left 32) (top 32) (left_kind width.Dword tt) n some
    constant_effect row.Srd = shift_effect shift.Shr width.Dword right bottom (right_kind width.Dword tt) n some
    constant_effect row.Ssd = signed_effect width.Dword tt n some
    constant_effect row.Rld =
        turned_effect shift.Rol (around_left 32) bottom around_left_kind (top 32 (times (n - 1) (around_left 32) (part width.Dword r.accu1)))
        (left_around n (part width.Dword r.accu1) some)
    constant_effect row.Rrd =
        turned_effect shift.Ror (around_right 32) (top 32) around_right_kind (bottom (times (n - 1) (around_right 32) (part width.Dword r.accu1)))
        (right_around n (part width.Dword r.accu1) some (part_fits width.Dword r.accu1))
