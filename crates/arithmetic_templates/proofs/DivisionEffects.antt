-- Divisions: their statements do what the rows do.
use Rattle.std.proofs.Common.{◌≡◌, ℕ, ◌+◌, ◌*◌, ◌^◌, ◌<◌, ◌≤◌, pos, Bool, true, false, ◌||◌, if◌then◌else◌, List, [], ◌∷◌, ◌++◌, Ok, refl, ap, subst, ◌∙◌, arith}
use Rattle.std.specs.Prelude.{ℤ, int_div, int_lt, int_rem, unsigned_abs}
use Rattle.std.specs.Ordering.{int_eq}
use Rattle.s7_base.specs.SignedNumbers.{is_over, pattern}
use Rattle.s7_base.specs.declared.register.Reg.{Reg}
use Rattle.s7_base.specs.declared.register.Reg.TheVariants as reg
use Rattle.s7_base.specs.declared.word.Width.{Width}
use Rattle.s7_base.specs.declared.word.Width.TheVariants as width
use Rattle.status_word.specs.Results.{after_zero_divisor}
use Rattle.stl_tree.specs.Accumulators.{signed_part}
use Rattle.stl_tree.specs.Arithmetic.{ArithmeticOfNumbers, both_in_words, by_divisor, quotient_in_dword, remainder_in_dword}
use Rattle.stl_tree.specs.Registers.{RegisterValues}
use Rattle.st_tree.specs.Operators.{division}
use Rattle.st_tree.specs.State.{State}
use Rattle.st_tree.specs.Value.{value}
use Rattle.st_tree.specs.Values.{fit, flag}
use Rattle.st_tree.specs.declared.expr.BinaryOp.TheVariants as binary
use Rattle.st_tree.specs.declared.expr.StType.{StType}
use Rattle.st_tree.specs.declared.expr.StType.TheVariants as type
use Rattle.st_tree.specs.declared.program.Located.{Located}
use Rattle.st_tree.specs.declared.state.Value.{Value}
use Rattle.template_parts.specs.Related.{AreAlike}
use Rattle.instruction_laws.specs.Ranges.{AreInRange}
use Rattle.template_parts.proofs.Numbers.{or_numbers, over_word, pattern_below, wide_low}
use Rattle.template_parts.proofs.RegisterEffects.{HasRegisterEffect, registers_after}
use Rattle.template_parts.proofs.Stages.{known, parts, stage}
use Rattle.arithmetic_templates.specs.Calculations.{division_by_local_of, divisor_kept_of, divisor_of, quotient_in_dword_of, quotient_in_words_of, remainder_in_dword_of}
use Rattle.arithmetic_templates.proofs.WideNumbers.{chosen_number, divisor, divisor_by, divisor_size, dword_below, dword_size, gate, no_zero, over_dword, put_words, quotient_size, remainder_size, whole_dint, whole_lint, wide_dword, word_size}

-- The registers after a division whose quotient or remainder z shows its sign and whose ACCU1 is a; without a divisor
-- only the flags change

abbrev after_division : Bool → Bool → ℤ → ℕ → RegisterValues → RegisterValues
after_division none over z a r =
    record r {
      accu1 = if none then r.accu1 else a;
      status = record r.status { cc1 = none || int_lt (pos 0) z; cc0 = none || int_lt z (pos 0); ov = over; os = r.status.os || over };
    }

or_true : (b : Bool) → (b || true) ≡ true
or_true true = refl
or_true false = refl

or_false : (b : Bool) → (b || false) ≡ b
or_false true = refl
or_false false = refl

no_divisor : (z : ℤ) (a : ℕ) (r : RegisterValues) → after_division true true z a r ≡ record r { status = after_zero_divisor r.status }
no_divisor z a r = ap (λ os. record r { status = record r.status { cc1 = true; cc0 = true; ov = true; os = os } }) (or_true r.status.os)

words_after : (none : Bool) (x d : ℤ) (r : RegisterValues)
    → after_division none (none || is_over 16 (int_div x d)) (int_div x d) (pattern 16 (int_rem x d) * 2 ^ 16 + pattern 16 (int_div x d)) r
    ≡ (if none then record r { status = after_zero_divisor r.status } else both_in_words x d r)
words_after true x d r = no_divisor (int_div x d) (pattern 16 (int_rem x d) * 2 ^ 16 + pattern 16 (int_div x d)) r
words_after false x d r = refl

dword_after : (none : Bool) (x d : ℤ) (r : RegisterValues)
    → after_division none (none || is_over 32 (int_div x d)) (int_div x d) (pattern 32 (int_div x d)) r
    ≡ (if none then record r { status = after_zero_divisor r.status } else quotient_in_dword x d r)
dword_after true x d r = no_divisor (int_div x d) (pattern 32 (int_div x d)) r
dword_after false x d r = refl

remainder_after : (none : Bool) (x d : ℤ) (r : RegisterValues)
    → after_division none none (int_rem x d) (pattern 32 (int_rem x d)) r
    ≡ (if none then record r { status = after_zero_divisor r.status } else remainder_in_dword x d r)
remainder_after true x d r = no_divisor (int_rem x d) (pattern 32 (int_rem x d)) r
remainder_after false x d r = refl

-- a row by the divisor y is one by what stands in its place
same_divisor : (none : Bool) (row : ArithmeticOfNumbers) (x y : ℤ) (r : RegisterValues)
    → (if none then record r { status = after_zero_divisor r.status } else row x (divisor_by none y) r)
    ≡ (if none then record r { status = after_zero_divisor r.status } else row x y r)
same_divisor true row x y r = refl
same_divisor false row x y r = refl

by_divisor_same : (row : ArithmeticOfNumbers) (x y : ℤ) (r : RegisterValues)
    → (if int_eq y (pos 0) then record r { status = after_zero_divisor r.status } else row x (divisor y) r) ≡ by_divisor row x y r
unfolding divisor
by_divisor_same row x y r = same_divisor (int_eq y (pos 0)) row x y r

bounded : (b : Bool) (m n : ℕ) → m < 2 ^ 32 → n < 2 ^ 32 → (if b then m else n) < 2 ^ 32
bounded true m n h k = h
bounded false m n h k = k

-- Values

divided_by : (ty : StType) (f : ℤ → ℤ → ℤ) (x d : ℤ) → int_eq d (pos 0) ≡ false → fit ty (f x d) ≡ f x d
    → division f (record { ty = ty; n = x }) (record { ty = ty; n = d }) ≡ Ok (record { ty = ty; n = f x d })
divided_by ty f x d e w = rw (e, w) refl

-- the values of the last right sides
abbrev ending_values : Bool → Bool → ℤ → ℕ → RegisterValues → List Value
ending_values none over z a r =
    flag (none || int_lt (pos 0) z)
    ∷ flag (none || int_lt z (pos 0))
    ∷ flag over
    ∷ flag (r.status.os || over)
    ∷ record { ty = type.Dword; n = pos (if none then r.accu1 else a) }
    ∷ []

module _ (g : List Located) (s : State) (used : ℕ) where
  -- the divisor, behind which other locals may have values
  divisor_worth : (ty : StType) (y : ℤ) (more : List Value) (registers : Reg → ℤ)
      → value g (divisor_of ty used) (stage s used (record { ty = ty; n = y } ∷ more) registers) ≡ Ok (record { ty = ty; n = divisor y })
  unfolding divisor divisor_of
  divisor_worth ty y more registers = simp (parts, gate)

  module _ (r : RegisterValues) (sta : ℤ) (range : AreInRange r) where
    -- ACCU2's number and ACCU1's
    abbrev x_of : Width → ℤ
    x_of w = signed_part w r.accu2

    abbrev y_of : Width → ℤ
    y_of w = signed_part w r.accu1

    abbrev none_of : Width → Bool
    none_of w = int_eq (y_of w) (pos 0)

    abbrev quotient : Width → ℤ
    quotient w = int_div (x_of w) (divisor (y_of w))

    abbrev remainder : Width → ℤ
    remainder w = int_rem (x_of w) (divisor (y_of w))

    word_quotient : (more : List Value)
        → value g (division_by_local_of binary.Div width.Word used) (stage s used (record { ty = type.Dint; n = y_of width.Word } ∷ more) (known r sta))
        ≡ Ok (record { ty = type.Dint; n = quotient width.Word })
    word_quotient more =
        let x : ℤ = x_of width.Word in
        let y : ℤ = y_of width.Word in
        let h : unsigned_abs (int_div x (divisor y)) ≤ unsigned_abs x = quotient_size x (divisor y) in
        let k : unsigned_abs x ≤ 2 ^ 15 = word_size r.accu2 in
        simp (parts, wide_low, divisor_worth) (divided_by type.Dint int_div x (divisor y) (no_zero y) (whole_dint (int_div x (divisor y)) (omega arith)))

    word_remainder : (more : List Value)
        → value g (division_by_local_of binary.Mod width.Word used) (stage s used (record { ty = type.Dint; n = y_of width.Word } ∷ more) (known r sta))
        ≡ Ok (record { ty = type.Dint; n = remainder width.Word })
    word_remainder more =
        let x : ℤ = x_of width.Word in
        let y : ℤ = y_of width.Word in
        let h : unsigned_abs (int_rem x (divisor y)) < unsigned_abs (divisor y) = remainder_size x y in
        let k : unsigned_abs (divisor y) ≤ 2 ^ 15 = divisor_size y (2 ^ 15) (omega arith) (word_size r.accu1) in
        simp (parts, wide_low, divisor_worth) (divided_by type.Dint int_rem x (divisor y) (no_zero y) (whole_dint (int_rem x (divisor y)) (omega arith)))

    dword_quotient : (more : List Value)
        → value g (division_by_local_of binary.Div width.Dword used) (stage s used (record { ty = type.Lint; n = y_of width.Dword } ∷ more) (known r sta))
        ≡ Ok (record { ty = type.Lint; n = quotient width.Dword })
    dword_quotient more =
        let x : ℤ = x_of width.Dword in
        let y : ℤ = y_of width.Dword in
        let h : unsigned_abs (int_div x (divisor y)) ≤ unsigned_abs x = quotient_size x (divisor y) in
        let k : unsigned_abs x ≤ 2 ^ 31 = dword_size r.accu2 in
        simp (parts, wide_dword, divisor_worth) (divided_by type.Lint int_div x (divisor y) (no_zero y) (whole_lint (int_div x (divisor y)) (omega arith)))

    dword_remainder : (more : List Value)
        → value g (division_by_local_of binary.Mod width.Dword used) (stage s used (record { ty = type.Lint; n = y_of width.Dword } ∷ more) (known r sta))
        ≡ Ok (record { ty = type.Lint; n = remainder width.Dword })
    dword_remainder more =
        let x : ℤ = x_of width.Dword in
        let y : ℤ = y_of width.Dword in
        let h : unsigned_abs (int_rem x (divisor y)) < unsigned_abs (divisor y) = remainder_size x y in
        let k : unsigned_abs (divisor y) ≤ 2 ^ 31 = divisor_size y (2 ^ 31) (omega arith) (dword_size r.accu1) in
        simp (parts, wide_dword, divisor_worth) (divided_by type.Lint int_rem x (divisor y) (no_zero y) (whole_lint (int_rem x (divisor y)) (omega arith)))

    after_range : (none over : Bool) (z : ℤ) (a : ℕ) → a < 2 ^ 32 → AreInRange (after_division none over z a r)
    after_range none over z a h =
        record { accu1 = bounded none r.accu1 a range.accu1 h; accu2 = range.accu2; ar1 = range.ar1; ar2 = range.ar2; db = range.db; di = range.di }

    -- MOD

    abbrev remainder_values : List Value
    remainder_values =
        record { ty = type.Lint; n = y_of width.Dword } ∷ flag (none_of width.Dword) ∷ record { ty = type.Lint; n = remainder width.Dword }
        ∷ ending_values (none_of width.Dword) (none_of width.Dword) (remainder width.Dword) (pattern 32 (remainder width.Dword)) r

    abbrev remainder_after_effect : RegisterValues
    remainder_after_effect = after_division (none_of width.Dword) (none_of width.Dword) (remainder width.Dword) (pattern 32 (remainder width.Dword)) r

    remainder_alike : AreAlike remainder_after_effect
        (registers_after (divisor_kept_of used width.Dword ++ remainder_in_dword_of used) remainder_values (known r sta))
    unfolding divisor_kept_of remainder_in_dword_of
    remainder_alike reg.Sta asked = elim asked [ ]
    remainder_alike q asked = refl

    remainder_does : HasRegisterEffect g s used (divisor_kept_of used width.Dword ++ remainder_in_dword_of used) r remainder_after_effect sta
    unfolding divisor_kept_of remainder_in_dword_of
    remainder_does =
        record {
          values = remainder_values;
          have = (
            refl,
            simp (parts, wide_dword),
            (
              refl,
              simp parts,
              (
                refl,
                dword_remainder (flag (none_of width.Dword) ∷ []),
                (simp (parts, or_numbers), (simp (parts, or_numbers), (simp parts, (simp (parts, or_numbers), (simp (parts, gate, chosen_number), tt))))),
              ),
            ),
          );
          alike = remainder_alike;
          range =
              after_range (none_of width.Dword) (none_of width.Dword) (remainder width.Dword)
              (pattern 32 (remainder width.Dword)) (dword_below (remainder width.Dword));
        }

    pub remainder_effect : HasRegisterEffect g s used (divisor_kept_of used width.Dword ++ remainder_in_dword_of used) r
        (by_divisor remainder_in_dword (x_of width.Dword) (y_of width.Dword) r) sta
    remainder_effect =
        subst (λ (after : RegisterValues). HasRegisterEffect g s used (divisor_kept_of used width.Dword ++ remainder_in_dword_of used) r after sta)
        (remainder_after (none_of width.Dword) (x_of width.Dword) (divisor (y_of width.Dword)) r
        ∙ by_divisor_same remainder_in_dword (x_of width.Dword) (y_of width.Dword) r)
        remainder_does

    -- /D

    abbrev dword_over : Bool
    dword_over = none_of width.Dword || is_over 32 (quotient width.Dword)

    abbrev dword_values : List Value
    dword_values =
        record { ty = type.Lint; n = y_of width.Dword } ∷ flag (none_of width.Dword) ∷ record { ty = type.Lint; n = quotient width.Dword } ∷ flag dword_over
        ∷ ending_values (none_of width.Dword) dword_over (quotient width.Dword) (pattern 32 (quotient width.Dword)) r

    abbrev dword_after_effect : RegisterValues
    dword_after_effect = after_division (none_of width.Dword) dword_over (quotient width.Dword) (pattern 32 (quotient width.Dword)) r

    dword_alike : AreAlike dword_after_effect
        (registers_after (divisor_kept_of used width.Dword ++ quotient_in_dword_of used) dword_values (known r sta))
    unfolding divisor_kept_of quotient_in_dword_of
    dword_alike reg.Sta asked = elim asked [ ]
    dword_alike q asked = refl

    dword_does : HasRegisterEffect g s used (divisor_kept_of used width.Dword ++ quotient_in_dword_of used) r dword_after_effect sta
    unfolding divisor_kept_of quotient_in_dword_of
    dword_does =
        record {
          values = dword_values;
          have = (
            refl,
            simp (parts, wide_dword),
            (
              refl,
              simp parts,
              (
                refl,
                dword_quotient (flag (none_of width.Dword) ∷ []),
                (
                  refl,
                  simp (parts, over_dword, or_numbers),
                  (simp (parts, or_numbers), (simp (parts, or_numbers), (simp parts, (simp (parts, or_numbers), (simp (parts, gate, chosen_number), tt))))),
                ),
              ),
            ),
          );
          alike = dword_alike;
          range = after_range (none_of width.Dword) dword_over (quotient width.Dword) (pattern 32 (quotient width.Dword)) (dword_below (quotient width.Dword));
        }

    pub quotient_in_dword_effect : HasRegisterEffect g s used (divisor_kept_of used width.Dword ++ quotient_in_dword_of used) r
        (by_divisor quotient_in_dword (x_of width.Dword) (y_of width.Dword) r) sta
    quotient_in_dword_effect =
        subst (λ (after : RegisterValues). HasRegisterEffect g s used (divisor_kept_of used width.Dword ++ quotient_in_dword_of used) r after sta)
        (dword_after (none_of width.Dword) (x_of width.Dword) (divisor (y_of width.Dword)) r
        ∙ by_divisor_same quotient_in_dword (x_of width.Dword) (y_of width.Dword) r)
        dword_does

    -- /I

    abbrev words_over : Bool
    words_over = none_of width.Word || is_over 16 (quotient width.Word)

    abbrev both_words : ℕ
    both_words = pattern 16 (remainder width.Word) * 2 ^ 16 + pattern 16 (quotient width.Word)

    abbrev words_values : List Value
    words_values =
        record { ty = type.Dint; n = y_of width.Word } ∷ flag (none_of width.Word) ∷ record { ty = type.Dint; n = quotient width.Word }
        ∷ record { ty = type.Dint; n = remainder width.Word } ∷ flag words_over
        ∷ ending_values (none_of width.Word) words_over (quotient width.Word) both_words r

    abbrev words_after_effect : RegisterValues
    words_after_effect = after_division (none_of width.Word) words_over (quotient width.Word) both_words r

    words_alike : AreAlike words_after_effect
        (registers_after (divisor_kept_of used width.Word ++ quotient_in_words_of used) words_values (known r sta))
    unfolding divisor_kept_of quotient_in_words_of
    words_alike reg.Sta asked = elim asked [ ]
    words_alike q asked = refl

    words_below : both_words < 2 ^ 32
    words_below = omega (arith, pattern_below (remainder width.Word), pattern_below (quotient width.Word))

    words_does : HasRegisterEffect g s used (divisor_kept_of used width.Word ++ quotient_in_words_of used) r words_after_effect sta
    unfolding divisor_kept_of quotient_in_words_of
    words_does =
        record {
          values = words_values;
          have = (
            refl,
            simp (parts, wide_low),
            (
              refl,
              simp parts,
              (
                refl,
                word_quotient (flag (none_of width.Word) ∷ []),
                (
                  refl,
                  word_remainder (flag (none_of width.Word) ∷ record { ty = type.Dint; n = quotient width.Word } ∷ []),
                  (
                    refl,
                    simp (parts, over_word, or_numbers),
                    (
                      simp (parts, or_numbers),
                      (simp (parts, or_numbers), (simp parts, (simp (parts, or_numbers), (simp (parts, gate, put_words, chosen_number), tt)))),
                    ),
                  ),
                ),
              ),
            ),
          );
          alike = words_alike;
          range = after_range (none_of width.Word) words_over (quotient width.Word) both_words words_below;
        }

    pub quotient_in_words_effect : HasRegisterEffect g s used (divisor_kept_of used width.Word ++ quotient_in_words_of used) r
        (by_divisor both_in_words (x_of width.Word) (y_of width.Word) r) sta
    quotient_in_words_effect =
        subst (λ (after : RegisterValues). HasRegisterEffect g s used (divisor_kept_of used width.Word ++ quotient_in_words_of used) r after sta)
        (words_after (none_of width.Word) (x_of width.Word) (divisor (y_of width.Word)) r ∙ by_divisor_same both_in_words (x_of width.Word) (y_of width.Word) r)
        words_does
