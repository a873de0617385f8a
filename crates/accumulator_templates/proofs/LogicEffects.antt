-- Word logic does its rows.
use Rattle.std.proofs.Common.{◌≡◌, ℕ, ◌+◌, ◌*◌, ◌/◌, ◌%◌, ◌^◌, ◌<◌, ◌≤◌, ◌==◌, pos, Bool, true, false, not, if◌then◌else◌, List, [], ◌∷◌, Option, Some, None, Ok, refl, sym, ap, subst, ◌∙◌, eqb-true, arith}
use Rattle.std.specs.Prelude.{ℤ, bit_and, bit_or, bit_xor}
use Rattle.std.specs.Ordering.{int_eq}
use Rattle.std.specs.Int.Bits.{and_zero_r}
use Rattle.std.proofs.lemmas.Int.{ints}
use Rattle.std.proofs.lemmas.Nat.{and_le_l, le_or_r, or_of_16, or_of_32, xor_of_16, xor_of_32}
use Rattle.s7_base.specs.declared.register.Reg.{Reg}
use Rattle.s7_base.specs.declared.register.Reg.TheVariants as reg
use Rattle.s7_base.specs.declared.word.Width.TheVariants as width
use Rattle.status_word.specs.Results.{after_logic}
use Rattle.status_word.specs.StatusBits.{StatusBits}
use Rattle.memory_areas.specs.Access.{bits_wide}
use Rattle.stl_tree.specs.Accumulators.{part, with_part}
use Rattle.stl_tree.specs.Reads.{is_fixed}
use Rattle.stl_tree.specs.Registers.{RegisterValues}
use Rattle.stl_tree.specs.WordLogic.{after_word_logic, combination_of, logic_result, other_of as other_number, width_of}
use Rattle.stl_tree.specs.declared.accumulator.LogicRow.{LogicRow}
use Rattle.stl_tree.specs.declared.accumulator.LogicRow.TheVariants as row
use Rattle.st_tree.specs.State.{State, with_register}
use Rattle.st_tree.specs.Value.{value}
use Rattle.st_tree.specs.Values.{flag, number_of}
use Rattle.st_tree.specs.declared.state.Value.{Value}
use Rattle.st_tree.specs.declared.program.Located.{Located}
use Rattle.accumulator_templates.specs.Logic.{logic_value_of, computed_of, fixed_of, logic_of, type_of_logic, with_pattern_of}
use Rattle.accumulator_templates.specs.AccumulatorParts.{with_low_of}
use Rattle.accumulator_templates.proofs.Patterns.{whole_replaced}
use Rattle.accumulator_templates.proofs.Worths.{dword, low_worth, word}
use Rattle.template_parts.specs.Builders.{local_of}
use Rattle.template_parts.specs.Related.{AreAlike}
use Rattle.instruction_laws.specs.Ranges.{AreInRange}
use Rattle.template_parts.proofs.RegisterEffects.{HasRegisterEffect, registers_after}
use Rattle.template_parts.proofs.Stages.{known, parts, stage}
use Rattle.template_parts.proofs.Truths.{literal_worth}

-- Facts

twice_16 : (a : ℕ) → a % 65536 % 65536 ≡ a % 65536
twice_16 a = omega arith

twice_32 : (a : ℕ) → a % 4294967296 % 4294967296 ≡ a % 4294967296
twice_32 a = omega arith

-- what two patterns of a width give has that width too

and_words : (a b : ℕ) → bit_and (a % 65536) (b % 65536) < 65536
and_words a b = omega (arith, and_le_l (a % 65536) (b % 65536))

or_words : (a b : ℕ) → bit_or (a % 65536) (b % 65536) < 65536
or_words a b = or_of_16 (a % 65536) (b % 65536) (omega arith) (omega arith)

xor_words : (a b : ℕ) → bit_xor (a % 65536) (b % 65536) < 65536
xor_words a b = xor_of_16 (a % 65536) (b % 65536) (omega arith) (omega arith)

and_dwords : (a b : ℕ) → bit_and (a % 4294967296) (b % 4294967296) < 4294967296
and_dwords a b = omega (arith, and_le_l (a % 4294967296) (b % 4294967296))

or_dwords : (a b : ℕ) → bit_or (a % 4294967296) (b % 4294967296) < 4294967296
or_dwords a b = or_of_32 (a % 4294967296) (b % 4294967296) (omega arith) (omega arith)

xor_dwords : (a b : ℕ) → bit_xor (a % 4294967296) (b % 4294967296) < 4294967296
xor_dwords a b = xor_of_32 (a % 4294967296) (b % 4294967296) (omega arith) (omega arith)

fits_16 : (n : ℕ) → n < 65536 → n % 65536 ≡ n
fits_16 n h = omega arith

fits_32 : (n : ℕ) → n < 4294967296 → n % 4294967296 ≡ n
fits_32 n h = omega arith

is_equal : (a b : ℕ) → int_eq (pos a) (pos b) ≡ (a == b)
is_equal a b = grind (arith, ints)

-- the pattern that a row gives
abbrev pub result : LogicRow → Option ℕ → RegisterValues → ℕ
result l c r = combination_of l (part (width_of l) r.accu1) (part (width_of l) (other_number c r))

result_fits : (l : LogicRow) (c : Option ℕ) (r : RegisterValues) → result l c r < 2 ^ bits_wide (width_of l)
result_fits row.Aw c r = and_words r.accu1 (other_number c r)
result_fits row.Ow c r = or_words r.accu1 (other_number c r)
result_fits row.Xow c r = xor_words r.accu1 (other_number c r)
result_fits row.Ad c r = and_dwords r.accu1 (other_number c r)
result_fits row.Od c r = or_dwords r.accu1 (other_number c r)
result_fits row.Xod c r = xor_dwords r.accu1 (other_number c r)

-- ACCU1 with a pattern in its place
placed_fits : (l : LogicRow) (a p : ℕ) → a < 2 ^ 32 → p < 2 ^ bits_wide (width_of l) → with_part (width_of l) a p < 2 ^ 32
placed_fits row.Aw a p h k = omega arith
placed_fits row.Ow a p h k = omega arith
placed_fits row.Xow a p h k = omega arith
placed_fits row.Ad a p h k = omega arith
placed_fits row.Od a p h k = omega arith
placed_fits row.Xod a p h k = omega arith

all_bits : (a c : ℕ) → c ≡ 4294967295 → c ≡ bit_or (a % 4294967296) (c % 4294967296)
all_bits a c e =
    let h : c % 4294967296 ≡ c = omega arith in
    let k : c % 4294967296 ≤ bit_or (a % 4294967296) (c % 4294967296) = le_or_r (a % 4294967296) (c % 4294967296) in
    let m : bit_or (a % 4294967296) (c % 4294967296) < 4294967296 = or_dwords a c in
    omega arith

no_bit : (a c : ℕ) → c ≡ 0 → c ≡ bit_and (a % 4294967296) (c % 4294967296)
no_bit a c e = rw e (sym (and_zero_r (a % 4294967296)))

-- the values of the right sides
abbrev computed_values : LogicRow → RegisterValues → ℕ → List Value
computed_values l r p =
    record { ty = type_of_logic l; n = pos p } ∷ flag (not (p == 0)) ∷ flag false ∷ flag false ∷ dword (with_part (width_of l) r.accu1 p) ∷ []

abbrev fixed_values : ℕ → List Value
fixed_values c = flag (not (c == 0)) ∷ flag false ∷ flag false ∷ dword c ∷ []

module _ (g : List Located) (s : State) (used : ℕ) (r : RegisterValues) (sta : ℤ) (range : AreInRange r) where
  -- the state before the row
  abbrev before : State
  before = stage s used [] (known r sta)

  combined_worth : (l : LogicRow) (c : Option ℕ) → value g (logic_value_of l c) before ≡ Ok (record { ty = type_of_logic l; n = pos (result l c r) })
  combined_worth row.Aw None = let h = and_words r.accu1 r.accu2 in simp (parts, twice_16, fits_16)
  combined_worth row.Aw (Some c) = let h = and_words r.accu1 c in simp (parts, twice_16, fits_16)
  combined_worth row.Ow None = let h = or_words r.accu1 r.accu2 in simp (parts, twice_16, fits_16)
  combined_worth row.Ow (Some c) = let h = or_words r.accu1 c in simp (parts, twice_16, fits_16)
  combined_worth row.Xow None = let h = xor_words r.accu1 r.accu2 in simp (parts, twice_16, fits_16)
  combined_worth row.Xow (Some c) = let h = xor_words r.accu1 c in simp (parts, twice_16, fits_16)
  combined_worth row.Ad None = let h = and_dwords r.accu1 r.accu2 in simp (parts, fits_32)
  combined_worth row.Ad (Some c) = let h = and_dwords r.accu1 c in simp (parts, fits_32)
  combined_worth row.Od None = let h = or_dwords r.accu1 r.accu2 in simp (parts, fits_32)
  combined_worth row.Od (Some c) = let h = or_dwords r.accu1 c in simp (parts, fits_32)
  combined_worth row.Xod None = let h = xor_dwords r.accu1 r.accu2 in simp (parts, fits_32)
  combined_worth row.Xod (Some c) = let h = xor_dwords r.accu1 c in simp (parts, fits_32)

  -- the registers once the flags have been set
  abbrev flagged : ℕ → Reg → ℤ
  flagged p = with_register reg.Ov (pos 0) (with_register reg.Cc0 (pos 0) (with_register reg.Cc1 (number_of (not (p == 0))) (known r sta)))

  -- the local that has the pattern
  abbrev kept : LogicRow → ℕ → List Value
  kept l p = record { ty = type_of_logic l; n = pos p } ∷ []

  low_placed : (v : Value) (p : ℕ) → p < 2 ^ 16 → value g (local_of used) (stage s used (v ∷ []) (flagged p)) ≡ Ok (word p)
      → value g (with_low_of (local_of used)) (stage s used (v ∷ []) (flagged p)) ≡ Ok (dword (r.accu1 / 2 ^ 16 * 2 ^ 16 + p))
  low_placed v p small worth = low_worth g s used (v ∷ []) (flagged p) r.accu1 refl range.accu1 (local_of used) p small worth

  whole_placed : (v : Value) (p : ℕ) → value g (local_of used) (stage s used (v ∷ []) (flagged p)) ≡ Ok (dword p)
      → value g (local_of used) (stage s used (v ∷ []) (flagged p)) ≡ Ok (dword (r.accu1 / 2 ^ 32 * 2 ^ 32 + p))
  whole_placed v p worth = worth ∙ ap (λ (n : ℕ). Ok (dword n)) (sym (whole_replaced r.accu1 p range.accu1))

  placed_worth : (l : LogicRow) (p : ℕ) → p < 2 ^ bits_wide (width_of l)
      → value g (with_pattern_of l (local_of used)) (stage s used (kept l p) (flagged p)) ≡ Ok (dword (with_part (width_of l) r.accu1 p))
  placed_worth row.Aw p small = low_placed (word p) p small (simp parts)
  placed_worth row.Ow p small = low_placed (word p) p small (simp parts)
  placed_worth row.Xow p small = low_placed (word p) p small (simp parts)
  placed_worth row.Ad p small = whole_placed (dword p) p (simp parts)
  placed_worth row.Od p small = whole_placed (dword p) p (simp parts)
  placed_worth row.Xod p small = whole_placed (dword p) p (simp parts)

  computed_alike : (l : LogicRow) (c : Option ℕ) (p : ℕ)
      → AreAlike (logic_result (width_of l) p r) (registers_after (computed_of used l c) (computed_values l r p) (known r sta))
  computed_alike l c p reg.Sta asked = elim asked [ ]
  computed_alike l c p q asked = refl

  in_range : (a : ℕ) (status : StatusBits) → a < 2 ^ 32 → AreInRange (record r { accu1 = a; status = status })
  in_range a status h = record { accu1 = h; accu2 = range.accu2; ar1 = range.ar1; ar2 = range.ar2; db = range.db; di = range.di }

  computed_effect : (l : LogicRow) (c : Option ℕ) → HasRegisterEffect g s used (computed_of used l c) r (after_word_logic l c r) sta
  computed_effect l c =
      let p : ℕ = result l c r in
      record {
        values = computed_values l r p;
        have = (
          refl,
          combined_worth l c,
          (simp (parts, is_equal), (literal_worth g _ false, (literal_worth g _ false, (placed_worth l p (result_fits l c r), tt)))),
        );
        alike = computed_alike l c p;
        range = in_range (with_part (width_of l) r.accu1 p) (after_logic (not (p == 0)) r.status) (placed_fits l r.accu1 p range.accu1 (result_fits l c r));
      }

  fixed_effect : (c : ℕ) → c < 2 ^ 32 → HasRegisterEffect g s used (fixed_of c) r (logic_result width.Dword c r) sta
  fixed_effect c small =
      record {
        values = fixed_values c;
        have = (literal_worth g _ (not (c == 0)), (literal_worth g _ false, (literal_worth g _ false, (simp parts, tt))));
        alike = alike;
        range = in_range (with_part width.Dword r.accu1 c) (after_logic (not (c == 0)) r.status) (placed_fits row.Ad r.accu1 c range.accu1 small);
      }
    where
      alike : AreAlike (logic_result width.Dword c r) (registers_after (fixed_of c) (fixed_values c) (known r sta))
      alike reg.Accu1 asked = ap pos (sym (whole_replaced r.accu1 c range.accu1))
      alike reg.Sta asked = elim asked [ ]
      alike q asked = refl

  -- a constant that fixes the result
  fixed_by : (l : LogicRow) (c : ℕ) → is_fixed l c ≡ true → HasRegisterEffect g s used (fixed_of c) r (after_word_logic l (Some c) r) sta
  fixed_by row.Ad c e =
      let zero : c ≡ 0 = eqb-true c 0 e in
      subst (λ (p : ℕ). HasRegisterEffect g s used (fixed_of c) r (logic_result width.Dword p r) sta) (no_bit r.accu1 c zero) (fixed_effect c (omega arith))
  fixed_by row.Od c e =
      let ones : c ≡ 4294967295 = eqb-true c 4294967295 e in
      subst (λ (p : ℕ). HasRegisterEffect g s used (fixed_of c) r (logic_result width.Dword p r) sta) (all_bits r.accu1 c ones) (fixed_effect c (omega arith))
  fixed_by row.Aw c h = absurd (let e : false ≡ true = h in cc)
  fixed_by row.Ow c h = absurd (let e : false ≡ true = h in cc)
  fixed_by row.Xow c h = absurd (let e : false ≡ true = h in cc)
  fixed_by row.Xod c h = absurd (let e : false ≡ true = h in cc)

  pub logic_effect : (l : LogicRow) (c : Option ℕ) → HasRegisterEffect g s used (logic_of used l c) r (after_word_logic l c r) sta
  logic_effect l None = computed_effect l None
  logic_effect l (Some c) = by (is_fixed l c) refl
    where
      by : (b : Bool) → is_fixed l c ≡ b
          → HasRegisterEffect g s used (if b then fixed_of c else computed_of used l (Some c)) r (after_word_logic l (Some c) r) sta
      by true e = fixed_by l c e
      by false e = computed_effect l (Some c)
