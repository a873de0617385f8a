-- ITD, INVI, INVD, CAW and CAD do their rows.
use Rattle.std.proofs.Common.{◌≡◌, ℕ, ◌+◌, ◌-◌, ◌*◌, ◌/◌, ◌%◌, ◌^◌, ◌<◌, List, [], Ok, refl, sym, ap, subst, ◌∙◌, arith}
use Rattle.std.specs.Prelude.{ℤ}
use Rattle.s7_base.specs.SignedNumbers.{number, pattern}
use Rattle.s7_base.specs.declared.register.Reg.TheVariants as reg
use Rattle.s7_base.specs.declared.word.Width.TheVariants as width
use Rattle.stl_tree.proofs.RowForms.{dword_by_bytes, word_by_bytes}
use Rattle.stl_tree.specs.Conversions.{dword_reversed, after_extension, after_inversion, with_accu1_part, word_reversed}
use Rattle.stl_tree.specs.Registers.{RegisterValues}
use Rattle.st_tree.specs.State.{State}
use Rattle.st_tree.specs.Value.{value}
use Rattle.st_tree.specs.declared.expr.Expr.{Expr}
use Rattle.st_tree.specs.declared.expr.ShiftOp.TheVariants as shift
use Rattle.st_tree.specs.declared.expr.StType.TheVariants as type
use Rattle.st_tree.specs.declared.program.Located.{Located}
use Rattle.accumulator_templates.specs.Conversions.{byte_above_of, cad_of, caw_of, invd_of, invi_of, itd_of, low_byte_of, reversed_value, constant_shift_of, three_reversed, two_reversed}
use Rattle.accumulator_templates.specs.AccumulatorParts.{lowest_bits_of, with_low_of}
use Rattle.accumulator_templates.proofs.AccumulatorEffects.{one_set}
use Rattle.accumulator_templates.proofs.Patterns.{pattern_below_32}
use Rattle.accumulator_templates.proofs.Worths.{dword, high_first, low_worth, word}
use Rattle.template_parts.specs.Builders.{convert_of, not_of, read_of}
use Rattle.instruction_laws.specs.Ranges.{AreInRange}
use Rattle.template_parts.proofs.RegisterEffects.{HasRegisterEffect}
use Rattle.template_parts.proofs.Stages.{known, parts, stage}

-- Facts

inverted_word : (a : ℕ) → (65535 - a % 65536 % 65536) % 65536 ≡ 65535 - a % 65536
inverted_word a = omega arith

inverted_dword : (a : ℕ) → a < 2 ^ 32 → (4294967295 - a % 4294967296) % 4294967296 ≡ a / 4294967296 * 4294967296 + (4294967295 - a % 4294967296)
inverted_dword a h = omega arith

turned_word : (a : ℕ) → (a % 65536 % 65536 * 256 % 65536 + a % 65536 % 65536 * 256 / 65536) % 65536 ≡ a % 256 * 256 + a / 256 % 256
turned_word a = omega arith

lowest_byte : (a : ℕ) → a % 256 % 4294967296 % 4294967296 * 16777216 % 4294967296 % 4294967296 ≡ a % 256 * 16777216
lowest_byte a = omega arith

second_byte : (a : ℕ) → a < 2 ^ 32 → a % 4294967296 / 256 % 4294967296 % 256 % 4294967296 % 4294967296 * 65536 % 4294967296 % 4294967296 ≡ a / 256 % 256 * 65536
second_byte a h = omega arith

third_byte : (a : ℕ) → a < 2 ^ 32 → a % 4294967296 / 65536 % 4294967296 % 256 % 4294967296 % 4294967296 * 256 % 4294967296 % 4294967296 ≡ a / 65536 % 256 * 256
third_byte a h = omega arith

highest_byte : (a : ℕ) → a < 2 ^ 32 → a % 4294967296 / 16777216 % 4294967296 % 256 % 4294967296 ≡ a / 16777216 % 256
highest_byte a h = omega arith

module _ (g : List Located) (s : State) (used : ℕ) (r : RegisterValues) (sta : ℤ) (range : AreInRange r) where
  -- the state before the row
  abbrev before : State
  before = stage s used [] (known r sta)

  pub itd_effect : HasRegisterEffect g s used itd_of r (after_extension r) sta
  itd_effect =
      one_set g s used r sta range (convert_of type.Int type.Dword (convert_of type.Dword type.Int (read_of reg.Accu1)))
      (pattern 32 (number 16 (r.accu1 % 2 ^ 16))) (pattern_below_32 (number 16 (r.accu1 % 2 ^ 16))) (simp parts)

  -- ACCU1 takes another low word
  low_set : (e : Expr) (w : ℕ) → w < 2 ^ 16 → value g e before ≡ Ok (word w) → value g (with_low_of e) before ≡ Ok (dword (r.accu1 / 2 ^ 16 * 2 ^ 16 + w))
  low_set e w h worth = low_worth g s used [] (known r sta) r.accu1 refl range.accu1 e w h worth

  -- the right sides that go to the low word
  abbrev inverted_value : Expr
  inverted_value = not_of (lowest_bits_of width.Word (read_of reg.Accu1))

  abbrev turned_value : Expr
  turned_value = constant_shift_of shift.Rol (lowest_bits_of width.Word (read_of reg.Accu1)) 8

  invi_worth : value g inverted_value before ≡ Ok (word (2 ^ 16 - 1 - r.accu1 % 2 ^ 16))
  invi_worth = simp (parts, inverted_word)

  pub invi_effect : HasRegisterEffect g s used invi_of r (after_inversion width.Word r) sta
  invi_effect =
      let a : r.accu1 < 2 ^ 32 = range.accu1 in
      let w : 2 ^ 16 - 1 - r.accu1 % 2 ^ 16 < 2 ^ 16 = omega arith in
      one_set g s used r sta range (with_low_of inverted_value) (after_inversion width.Word r).accu1 (omega arith)
      (low_set inverted_value (2 ^ 16 - 1 - r.accu1 % 2 ^ 16) w invi_worth)

  pub invd_effect : HasRegisterEffect g s used invd_of r (after_inversion width.Dword r) sta
  invd_effect =
      let a : r.accu1 < 2 ^ 32 = range.accu1 in
      one_set g s used r sta range (not_of (read_of reg.Accu1)) (after_inversion width.Dword r).accu1 (omega arith) (simp (parts, inverted_dword))

  -- the bytes of the low word, in reverse order
  abbrev turned : ℕ
  turned = r.accu1 % 2 ^ 8 * 2 ^ 8 + r.accu1 / 2 ^ 8 % 2 ^ 8

  caw_worth : value g turned_value before ≡ Ok (word turned)
  caw_worth = simp (parts, turned_word)

  pub caw_effect : HasRegisterEffect g s used caw_of r (word_reversed r) sta
  caw_effect =
      let a : r.accu1 < 2 ^ 32 = range.accu1 in
      let w : turned < 2 ^ 16 = omega arith in
      subst (λ after. HasRegisterEffect g s used caw_of r after sta) (sym (word_by_bytes r))
      (one_set g s used r sta range (with_low_of turned_value) (with_accu1_part width.Word turned r).accu1 (omega arith)
      (low_set turned_value turned w caw_worth))

  -- CAD, byte by byte

  first : value g (constant_shift_of shift.Shl (low_byte_of (read_of reg.Accu1)) 24) before ≡ Ok (dword (r.accu1 % 2 ^ 8 * 2 ^ 24))
  first = simp (parts, lowest_byte)

  second : value g (constant_shift_of shift.Shl (byte_above_of 8) 16) before ≡ Ok (dword (r.accu1 / 2 ^ 8 % 2 ^ 8 * 2 ^ 16))
  second = let a : r.accu1 < 2 ^ 32 = range.accu1 in simp (parts, second_byte)

  third : value g (constant_shift_of shift.Shl (byte_above_of 16) 8) before ≡ Ok (dword (r.accu1 / 2 ^ 16 % 2 ^ 8 * 2 ^ 8))
  third = let a : r.accu1 < 2 ^ 32 = range.accu1 in simp (parts, third_byte)

  fourth : value g (byte_above_of 24) before ≡ Ok (dword (r.accu1 / 2 ^ 24 % 2 ^ 8))
  fourth = let a : r.accu1 < 2 ^ 32 = range.accu1 in simp (parts, highest_byte)

  two_bytes : value g two_reversed before
      ≡ Ok (dword ((r.accu1 % 2 ^ 8 * 2 ^ 8 + r.accu1 / 2 ^ 8 % 2 ^ 8) * 2 ^ 16))
  two_bytes =
      let same : r.accu1 % 2 ^ 8 * 2 ^ 24 + r.accu1 / 2 ^ 8 % 2 ^ 8 * 2 ^ 16 ≡ (r.accu1 % 2 ^ 8 * 2 ^ 8 + r.accu1 / 2 ^ 8 % 2 ^ 8) * 2 ^ 16 = omega arith in
      high_first g before (constant_shift_of shift.Shl (low_byte_of (read_of reg.Accu1)) 24) (constant_shift_of shift.Shl (byte_above_of 8) 16)
      (r.accu1 % 2 ^ 8) 24 (r.accu1 / 2 ^ 8 % 2 ^ 8 * 2 ^ 16) (omega arith) (omega arith) first second
      ∙ ap (λ (n : ℕ). Ok (dword n)) same

  three_bytes : value g three_reversed before
      ≡ Ok (dword (((r.accu1 % 2 ^ 8 * 2 ^ 8 + r.accu1 / 2 ^ 8 % 2 ^ 8) * 2 ^ 8 + r.accu1 / 2 ^ 16 % 2 ^ 8) * 2 ^ 8))
  three_bytes =
      let high : ℕ = r.accu1 % 2 ^ 8 * 2 ^ 8 + r.accu1 / 2 ^ 8 % 2 ^ 8 in
      let same : high * 2 ^ 16 + r.accu1 / 2 ^ 16 % 2 ^ 8 * 2 ^ 8 ≡ (high * 2 ^ 8 + r.accu1 / 2 ^ 16 % 2 ^ 8) * 2 ^ 8 = omega arith in
      high_first g before two_reversed (constant_shift_of shift.Shl (byte_above_of 16) 8)
      high 16 (r.accu1 / 2 ^ 16 % 2 ^ 8 * 2 ^ 8) (omega arith) (omega arith) two_bytes third
      ∙ ap (λ (n : ℕ). Ok (dword n)) same

  abbrev all_turned : ℕ
  all_turned = r.accu1 % 2 ^ 8 * 2 ^ 24 + r.accu1 / 2 ^ 8 % 2 ^ 8 * 2 ^ 16 + r.accu1 / 2 ^ 16 % 2 ^ 8 * 2 ^ 8 + r.accu1 / 2 ^ 24 % 2 ^ 8

  pub cad_effect : HasRegisterEffect g s used cad_of r (dword_reversed r) sta
  cad_effect =
      let a : r.accu1 < 2 ^ 32 = range.accu1 in
      let high : ℕ = (r.accu1 % 2 ^ 8 * 2 ^ 8 + r.accu1 / 2 ^ 8 % 2 ^ 8) * 2 ^ 8 + r.accu1 / 2 ^ 16 % 2 ^ 8 in
      let after : RegisterValues = with_accu1_part width.Dword all_turned r in
      let same : high * 2 ^ 8 + r.accu1 / 2 ^ 24 % 2 ^ 8 ≡ after.accu1 = omega arith in
      subst (λ after. HasRegisterEffect g s used cad_of r after sta) (sym (dword_by_bytes r))
      (one_set g s used r sta range reversed_value after.accu1 (omega arith)
      (high_first g before three_reversed (byte_above_of 24)
      high 8 (r.accu1 / 2 ^ 24 % 2 ^ 8) (omega arith) (omega arith) three_bytes fourth
      ∙ ap (λ (n : ℕ). Ok (dword n)) same))
