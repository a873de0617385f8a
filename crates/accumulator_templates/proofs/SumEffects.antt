-- + n, + L#n, INC and DEC do their rows.
use Rattle.std.proofs.Common.{◌≡◌, ℕ, ◌%◌, ◌^◌, ◌<◌, pos, Bool, true, false, if◌then◌else◌, List, [], ◌∷◌, Ok, refl, sym, ap, subst, ◌∙◌, arith}
use Rattle.std.specs.Prelude.{ℤ, ◌+ℤ◌, ◌-ℤ◌}
use Rattle.std.specs.Ordering.{int_eq}
use Rattle.std.proofs.lemmas.Int.{ints}
use Rattle.s7_base.specs.SignedNumbers.{number, pattern}
use Rattle.s7_base.specs.declared.register.Reg.TheVariants as reg
use Rattle.s7_base.specs.declared.word.Width.TheVariants as width
use Rattle.stl_tree.proofs.RowForms.{down_in_byte, up_in_byte}
use Rattle.stl_tree.specs.Accumulators.{counted_down, counted_up, after_addition, signed_part, with_number}
use Rattle.stl_tree.specs.Registers.{RegisterValues}
use Rattle.st_tree.specs.State.{State}
use Rattle.st_tree.specs.Value.{value}
use Rattle.st_tree.specs.declared.expr.BinaryOp.TheVariants as binary
use Rattle.st_tree.specs.declared.expr.Expr.{Expr}
use Rattle.st_tree.specs.declared.expr.StType.TheVariants as type
use Rattle.st_tree.specs.declared.program.Located.{Located}
use Rattle.accumulator_templates.specs.AccumulatorParts.{with_byte_of, with_low_of}
use Rattle.accumulator_templates.specs.Sums.{add_dword_of, add_word_of, dec_of, inc_of, sum_of, unless_zero}
use Rattle.accumulator_templates.proofs.AccumulatorEffects.{one_set, one_stays, with_accu1}
use Rattle.accumulator_templates.proofs.Patterns.{byte_difference, byte_sum, nothing_added_16, nothing_added_32, nothing_added_8, nothing_taken_8, pattern_below_32, pattern_below_8, same_pattern_32, whole_replaced}
use Rattle.accumulator_templates.proofs.Worths.{byte, byte_worth, dword, low_worth, word}
use Rattle.template_parts.specs.Builders.{set_of}
use Rattle.instruction_laws.specs.Ranges.{AreInRange}
use Rattle.template_parts.proofs.Numbers.{pattern_below, same_pattern}
use Rattle.template_parts.proofs.RegisterEffects.{HasRegisterEffect}
use Rattle.template_parts.proofs.Stages.{known, parts, stage}

is_zero : (n : ℤ) → int_eq n (pos 0) ≡ true → n ≡ pos 0
is_zero n e = grind (arith, ints)

module _ (g : List Located) (s : State) (used : ℕ) (r : RegisterValues) (sta : ℤ) (range : AreInRange r) where
  -- ACCU1 takes a value but for a constant 0, which leaves it
  unless_zero_effect : (n : ℤ) (e : Expr) (sum : ℤ → ℕ) → sum (pos 0) ≡ r.accu1 → sum n < 2 ^ 32
      → value g e (stage s used [] (known r sta)) ≡ Ok (dword (sum n)) → HasRegisterEffect g s used (unless_zero n e) r (with_accu1 (sum n) r) sta
  unless_zero_effect n e sum none small worth = by (int_eq n (pos 0)) refl
    where
      by : (b : Bool) → int_eq n (pos 0) ≡ b → HasRegisterEffect g s used (if b then [] else set_of reg.Accu1 e ∷ []) r (with_accu1 (sum n) r) sta
      by true zero = one_stays g s used r sta range (sum n) (sym (ap sum (is_zero n zero) ∙ none))
      by false other = one_set g s used r sta range e (sum n) small worth

  word_sum : (n : ℤ) → value g (sum_of binary.Add type.Int type.Word n) (stage s used [] (known r sta))
      ≡ Ok (word (pattern 16 (number 16 (r.accu1 % 2 ^ 16) +ℤ n)))
  word_sum n = simp (parts, same_pattern)

  pub add_word_effect : (n : ℤ) → HasRegisterEffect g s used (add_word_of n) r (after_addition width.Word n r) sta
  add_word_effect n =
      let a : r.accu1 < 2 ^ 32 = range.accu1 in
      let w : pattern 16 (number 16 (r.accu1 % 2 ^ 16) +ℤ n) < 2 ^ 16 = pattern_below (number 16 (r.accu1 % 2 ^ 16) +ℤ n) in
      unless_zero_effect n (with_low_of (sum_of binary.Add type.Int type.Word n))
      (λ (m : ℤ). with_number width.Word r.accu1 (signed_part width.Word r.accu1 +ℤ m)) (nothing_added_16 r.accu1) (omega arith)
      (low_worth g s used [] (known r sta) r.accu1 refl a (sum_of binary.Add type.Int type.Word n)
      (pattern 16 (number 16 (r.accu1 % 2 ^ 16) +ℤ n)) w (word_sum n))

  dword_sum : (n : ℤ) → value g (sum_of binary.Add type.Dint type.Dword n) (stage s used [] (known r sta))
      ≡ Ok (dword (pattern 32 (number 32 (r.accu1 % 2 ^ 32) +ℤ n)))
  dword_sum n = simp (parts, same_pattern_32)

  pub add_dword_effect : (n : ℤ) → HasRegisterEffect g s used (add_dword_of n) r (after_addition width.Dword n r) sta
  add_dword_effect n =
      let a : r.accu1 < 2 ^ 32 = range.accu1 in
      let z : ℤ = number 32 (r.accu1 % 2 ^ 32) +ℤ n in
      let w : pattern 32 z < 2 ^ 32 = pattern_below_32 z in
      unless_zero_effect n (sum_of binary.Add type.Dint type.Dword n)
      (λ (m : ℤ). with_number width.Dword r.accu1 (signed_part width.Dword r.accu1 +ℤ m)) (nothing_added_32 r.accu1) (omega arith)
      (dword_sum n ∙ ap (λ (m : ℕ). Ok (dword m)) (sym (whole_replaced r.accu1 (pattern 32 z) a)))

  inc_sum : (n : ℕ) → value g (sum_of binary.Add type.Int type.Byte (pos n)) (stage s used [] (known r sta))
      ≡ Ok (byte (pattern 8 (number 8 (r.accu1 % 2 ^ 8) +ℤ pos n)))
  inc_sum n = simp (parts, byte_sum)

  signed_inc_effect : (n : ℕ) → HasRegisterEffect g s used (inc_of n) r (after_addition width.Byte (pos n) r) sta
  signed_inc_effect n =
      let a : r.accu1 < 2 ^ 32 = range.accu1 in
      let w : pattern 8 (number 8 (r.accu1 % 2 ^ 8) +ℤ pos n) < 2 ^ 8 = pattern_below_8 (number 8 (r.accu1 % 2 ^ 8) +ℤ pos n) in
      unless_zero_effect (pos n) (with_byte_of (sum_of binary.Add type.Int type.Byte (pos n)))
      (λ (m : ℤ). with_number width.Byte r.accu1 (signed_part width.Byte r.accu1 +ℤ m)) (nothing_added_8 r.accu1) (omega arith)
      (byte_worth g s used [] (known r sta) r.accu1 refl a (sum_of binary.Add type.Int type.Byte (pos n))
      (pattern 8 (number 8 (r.accu1 % 2 ^ 8) +ℤ pos n)) w (inc_sum n))

  pub inc_effect : (n : ℕ) → HasRegisterEffect g s used (inc_of n) r (counted_up n r) sta
  inc_effect n = subst (λ after. HasRegisterEffect g s used (inc_of n) r after sta) (sym (up_in_byte n r)) (signed_inc_effect n)

  dec_difference : (n : ℕ) → value g (sum_of binary.Sub type.Int type.Byte (pos n)) (stage s used [] (known r sta))
      ≡ Ok (byte (pattern 8 (number 8 (r.accu1 % 2 ^ 8) -ℤ pos n)))
  dec_difference n = simp (parts, byte_difference)

  signed_dec_effect : (n : ℕ)
      → HasRegisterEffect g s used (dec_of n) r (record r { accu1 = with_number width.Byte r.accu1 (signed_part width.Byte r.accu1 -ℤ pos n) }) sta
  signed_dec_effect n =
      let a : r.accu1 < 2 ^ 32 = range.accu1 in
      let w : pattern 8 (number 8 (r.accu1 % 2 ^ 8) -ℤ pos n) < 2 ^ 8 = pattern_below_8 (number 8 (r.accu1 % 2 ^ 8) -ℤ pos n) in
      unless_zero_effect (pos n) (with_byte_of (sum_of binary.Sub type.Int type.Byte (pos n)))
      (λ (m : ℤ). with_number width.Byte r.accu1 (signed_part width.Byte r.accu1 -ℤ m)) (nothing_taken_8 r.accu1) (omega arith)
      (byte_worth g s used [] (known r sta) r.accu1 refl a (sum_of binary.Sub type.Int type.Byte (pos n))
      (pattern 8 (number 8 (r.accu1 % 2 ^ 8) -ℤ pos n)) w (dec_difference n))

  pub dec_effect : (n : ℕ) → HasRegisterEffect g s used (dec_of n) r (counted_down n r) sta
  dec_effect n = subst (λ after. HasRegisterEffect g s used (dec_of n) r after sta) (sym (down_in_byte n r)) (signed_dec_effect n)
