-- The statements of each row are well typed and nest little, their expressions are low, and they call nothing, where the
-- locals have their types.
use Rattle.std.proofs.Common.{◌≡◌, ℕ, ◌+◌, ◌≤◌, max, true, false, List, [], ◌∷◌, ◌++◌, Some, inr, refl, arith}
use Rattle.std.specs.Prelude.{pos}
use Rattle.s7_base.specs.declared.register.Reg.{Reg}
use Rattle.s7_base.specs.declared.register.Reg.TheVariants as reg
use Rattle.s7_base.specs.declared.word.Width.{Width}
use Rattle.s7_base.specs.declared.word.Width.TheVariants as width
use Rattle.status_word.specs.declared.test.Test.{Test}
use Rattle.status_word.specs.declared.test.Test.TheVariants as test
use Rattle.stl_tree.specs.declared.accumulator.Arith.{Arith}
use Rattle.stl_tree.specs.declared.accumulator.Arith.TheVariants as row
use Rattle.st_tree.specs.Naming.{is_conversion}
use Rattle.st_tree.specs.TypeRules.{type_of_unary, type_on_equals}
use Rattle.st_tree.specs.WellTyped.{UnitScope, is_value, variable_type}
use Rattle.st_tree.specs.declared.expr.BinaryOp.{BinaryOp}
use Rattle.st_tree.specs.declared.expr.BinaryOp.TheVariants as binary
use Rattle.st_tree.specs.declared.expr.Expr.{Expr}
use Rattle.st_tree.specs.declared.expr.ShiftOp.TheVariants as shift
use Rattle.st_tree.specs.declared.expr.StType.{StType}
use Rattle.st_tree.specs.declared.expr.StType.TheVariants as type
use Rattle.st_tree.specs.declared.expr.UnaryOp.TheVariants as unary
use Rattle.st_tree.specs.declared.expr.Var.TheVariants as var
use Rattle.st_tree.specs.declared.program.Stmt.{Stmt}
use Rattle.graph_rules.proofs.Divisors.{IsNoDivision}
use Rattle.graph_rules.specs.Divisors.{IsSureDivisor}
use Rattle.template_parts.specs.Builders.{local_of, or_of, read_of, unary_of}
use Rattle.template_parts.specs.Templates.{AreTyped, IsPlainBody}
use Rattle.template_parts.proofs.Typing.{IsBool, IsOf, binary_is, cleared_plain, constant_is, convert_is, first_typed, literal_is, local_is, local_plain, more, or_is, quotient_is, register_is, remainder_is, select_is, set_plain, shift_is, unary_is}
use Rattle.arithmetic_templates.specs.Calculations.{both_words_of, calculated_of, division_by_local_of, division_ending_of, divisor_kept_of, divisor_of, negated_of, operation_of, product_of, quotient_in_dword_of, quotient_in_words_of, quotient_over_of, remainder_in_dword_of, result_of, types_of_calculated, types_of_negated, zero_of}
use Rattle.arithmetic_templates.specs.Comparisons.{compared_of, comparison_of, types_of_compared}
use Rattle.arithmetic_templates.specs.Numbers.{differs_of, narrow_local_of, ending_of, narrow, negative_of, positive_of, wide, wide_number_of, with_number_of}

-- What operators and conversions give for the types of a width

abbrev IsNumbers : StType → Type 0
IsNumbers ty =
    (type_on_equals binary.Gt ty ≡ Some type.Bool) × (type_on_equals binary.Lt ty ≡ Some type.Bool) × (is_value ty (pos 0) ≡ true)

narrow_numbers : (w : Width) → IsNumbers (narrow w)
narrow_numbers width.Dword = (refl, refl, refl)
narrow_numbers other = (refl, refl, refl)

wide_numbers : (w : Width) → IsNumbers (wide w)
wide_numbers width.Dword = (refl, refl, refl)
wide_numbers other = (refl, refl, refl)

-- the other signs of comparisons
same_signs : (w : Width) → (type_on_equals binary.Eq (narrow w) ≡ Some type.Bool) × (type_on_equals binary.Ne (narrow w) ≡ Some type.Bool)
    × (type_on_equals binary.Ge (narrow w) ≡ Some type.Bool) × (type_on_equals binary.Le (narrow w) ≡ Some type.Bool)
same_signs width.Dword = (refl, refl, refl, refl)
same_signs other = (refl, refl, refl, refl)

-- between its own type and the wider one, and in the wider one
record Rules (w : Width) : Type 0 where
  widens : is_conversion (narrow w) (wide w) ≡ true
  cuts : is_conversion (wide w) (narrow w) ≡ true
  loads : is_conversion type.Dword (narrow w) ≡ true
  stores : is_conversion (wide w) type.Dword ≡ true
  differ : type_on_equals binary.Ne (wide w) ≡ Some type.Bool
  equals : type_on_equals binary.Eq (wide w) ≡ Some type.Bool
  one_value : is_value (wide w) (pos 1) ≡ true
  divides : type_on_equals binary.Div (wide w) ≡ Some (wide w)
  leaves : type_on_equals binary.Mod (wide w) ≡ Some (wide w)
  multiplies : type_on_equals binary.Mul (wide w) ≡ Some (wide w)
  negates : type_of_unary unary.Minus (wide w) ≡ Some (wide w)

rules : (w : Width) → Rules w
rules width.Dword = record {
  widens = refl;
  cuts = refl;
  loads = refl;
  stores = refl;
  differ = refl;
  equals = refl;
  one_value = refl;
  divides = refl;
  leaves = refl;
  multiplies = refl;
  negates = refl;
}
rules other = record {
  widens = refl;
  cuts = refl;
  loads = refl;
  stores = refl;
  differ = refl;
  equals = refl;
  one_value = refl;
  divides = refl;
  leaves = refl;
  multiplies = refl;
  negates = refl;
}

module _ (sight : UnitScope) where
  -- a local is of a type
  abbrev IsLocal : ℕ → StType → Type 0
  IsLocal i ty = variable_type sight (var.Local i) ≡ Some ty

  accu1_is : IsOf sight type.Dword 1 (read_of reg.Accu1)
  accu1_is = register_is sight reg.Accu1

  accu2_is : IsOf sight type.Dword 1 (read_of reg.Accu2)
  accu2_is = register_is sight reg.Accu2

  wide_is : (w : Width) (r : Reg) → IsOf sight type.Dword 1 (read_of r) → IsOf sight (wide w) 3 (wide_number_of w r)
  wide_is w r h = convert_is sight (rules w).widens (convert_is sight (rules w).loads h)

  cut_is : (w : Width) (i : ℕ) → IsLocal i (wide w) → IsOf sight (narrow w) 2 (narrow_local_of w i)
  cut_is w i h = convert_is sight (rules w).cuts (local_is sight h)

  differs_is : {n : ℕ} (w : Width) (e : Expr) (i : ℕ) → IsOf sight (narrow w) n e → IsLocal i (wide w) → IsBool sight (1 + max (1 + n) 1) (differs_of w e i)
  differs_is w e i h k = binary_is sight binary.Ne tt (rules w).differ (convert_is sight (rules w).widens h) (local_is sight k)

  positive_is : (ty : StType) (i : ℕ) → IsNumbers ty → IsLocal i ty → IsBool sight 2 (positive_of ty i)
  positive_is ty i numbers h = binary_is sight binary.Gt tt numbers.0 (local_is sight h) (constant_is sight numbers.2)

  negative_is : (ty : StType) (i : ℕ) → IsNumbers ty → IsLocal i ty → IsBool sight 2 (negative_of ty i)
  negative_is ty i numbers h = binary_is sight binary.Lt tt numbers.1 (local_is sight h) (constant_is sight numbers.2)

  with_number_is : {n : ℕ} (w : Width) (e : Expr) → IsOf sight (narrow w) n e → IsOf sight type.Dword (3 + n) (with_number_of w e)
  with_number_is width.Dword e h = more sight (omega arith) (convert_is sight refl h)
  with_number_is other e h =
      more sight (omega arith)
      (or_dword (binary_is sight binary.And tt refl accu1_is (constant_is sight refl)) (convert_is sight refl (convert_is sight refl h)))
    where
      or_dword : {m n : ℕ} {e f : Expr} → IsOf sight type.Dword m e → IsOf sight type.Dword n f → IsOf sight type.Dword (1 + max m n) (or_of e f)
      or_dword h k = binary_is sight binary.Or tt refl h k

  operated_is : (op : BinaryOp) → IsNoDivision op → (w : Width) → type_on_equals op (wide w) ≡ Some (wide w) → IsOf sight (wide w) 4 (operation_of op w)
  operated_is op other w h = binary_is sight op other h (wide_is w reg.Accu2 accu2_is) (wide_is w reg.Accu1 accu1_is)

  zero_is : (w : Width) (i : ℕ) → IsLocal i (wide w) → IsBool sight 2 (zero_of (wide w) i)
  zero_is w i h = binary_is sight binary.Eq tt (rules w).equals (local_is sight h) (constant_is sight (wide_numbers w).2)

  divisor_is : (w : Width) (i : ℕ) → IsLocal i (wide w) → IsOf sight (wide w) 3 (divisor_of (wide w) i)
  unfolding divisor_of
  divisor_is w i h = select_is sight (zero_is w i h) (local_is sight h) (constant_is sight (rules w).one_value)

  divisor_is_sure : (w : Width) (i : ℕ) → IsSureDivisor (divisor_of (wide w) i)
  unfolding divisor_of
  divisor_is_sure w i = inr (record { ty = wide w; number = local_of i; select = refl })

  quotient_in_wide : (w : Width) (i : ℕ) → IsLocal i (wide w) → IsOf sight (wide w) 4 (division_by_local_of binary.Div w i)
  quotient_in_wide w i h = quotient_is sight (divisor_is_sure w i) (rules w).divides (wide_is w reg.Accu2 accu2_is) (divisor_is w i h)

  remainder_in_wide : (w : Width) (i : ℕ) → IsLocal i (wide w) → IsOf sight (wide w) 4 (division_by_local_of binary.Mod w i)
  remainder_in_wide w i h = remainder_is sight (divisor_is_sure w i) (rules w).leaves (wide_is w reg.Accu2 accu2_is) (divisor_is w i h)

  quotient_over_is : (w : Width) (none i : ℕ) → IsLocal none type.Bool → IsLocal i (wide w) → IsBool sight 5 (quotient_over_of w none i)
  quotient_over_is w none i h k = or_is sight (local_is sight h) (differs_is w (narrow_local_of w i) i (cut_is w i k) k)

  both_words_is : (quotient remainder : ℕ) → IsLocal quotient type.Dint
      → IsLocal remainder type.Dint → IsOf sight type.Dword 4 (both_words_of quotient remainder)
  both_words_is quotient remainder h k =
      binary_is sight binary.Or tt refl (shift_is sight shift.Shl refl (convert_is sight refl (local_is sight k)) (constant_is sight refl))
      (convert_is sight refl (convert_is sight refl (local_is sight h)))

  comparison_is : (t : Test) (w : Width) (i : ℕ) → IsLocal i (narrow w) → IsLocal (i + 1) (narrow w)
      → IsBool sight 2 (comparison_of t (local_of i) (local_of (i + 1)))
  comparison_is test.Eq w i h k = binary_is sight binary.Eq tt (same_signs w).0 (local_is sight h) (local_is sight k)
  comparison_is test.Ne w i h k = binary_is sight binary.Ne tt (same_signs w).1 (local_is sight h) (local_is sight k)
  comparison_is test.Gt w i h k = binary_is sight binary.Gt tt (narrow_numbers w).0 (local_is sight h) (local_is sight k)
  comparison_is test.Lt w i h k = binary_is sight binary.Lt tt (narrow_numbers w).1 (local_is sight h) (local_is sight k)
  comparison_is test.Ge w i h k = binary_is sight binary.Ge tt (same_signs w).2 (local_is sight h) (local_is sight k)
  comparison_is test.Le w i h k = binary_is sight binary.Le tt (same_signs w).3 (local_is sight h) (local_is sight k)
  comparison_is other w i h k = more sight (omega arith) (literal_is sight false)

  module _ (rest : List Stmt) (plain : IsPlainBody sight rest) where
    ending_plain : {l m n : ℕ} (cc1 cc0 : Expr) (over : ℕ) (accu1 : Expr) → l ≤ 32 → m ≤ 32 → n ≤ 32 → IsBool sight l cc1 → IsBool sight m cc0
        → IsLocal over type.Bool → IsOf sight type.Dword n accu1 → IsPlainBody sight (ending_of cc1 cc0 over accu1 ++ rest)
    ending_plain cc1 cc0 over accu1 one two three first second overs last =
        set_plain sight _ _ _ one first
        (set_plain sight _ _ _ two second
        (set_plain sight _ _ _ (omega arith) (local_is sight overs)
        (set_plain sight _ _ _ (omega arith) (or_is sight (register_is sight reg.Os) (local_is sight overs))
        (set_plain sight _ _ _ three last plain))))

    module _ (used : ℕ) where
      result_plain : {n : ℕ} (w : Width) (e : Expr) → n ≤ 32 → IsOf sight (wide w) n e → AreTyped sight used (wide w ∷ narrow w ∷ type.Bool ∷ [])
          → IsPlainBody sight (result_of used w e ++ rest)
      result_plain w e small h types =
          let first : IsLocal used (wide w) = first_typed sight used (wide w) (narrow w ∷ type.Bool ∷ []) types in
          let second : IsLocal (used + 1) (narrow w) = types 1 (narrow w) refl in
          let third : IsLocal (used + 2) type.Bool = types 2 type.Bool refl in
          local_plain sight _ _ _ small first h
          (local_plain sight _ _ _ (omega arith) second (cut_is w used first)
          (local_plain sight _ _ _ (omega arith) third (differs_is w (local_of (used + 1)) used (local_is sight second) first)
          (ending_plain _ _ (used + 2) _ (omega arith) (omega arith) (omega arith) (positive_is (narrow w) (used + 1) (narrow_numbers w) second)
          (negative_is (narrow w) (used + 1) (narrow_numbers w) second) third (with_number_is w (local_of (used + 1)) (local_is sight second)))))

      product_plain : (w : Width) → AreTyped sight used (wide w ∷ type.Bool ∷ []) → IsPlainBody sight (product_of used w ++ rest)
      product_plain w types =
          let first : IsLocal used (wide w) = first_typed sight used (wide w) (type.Bool ∷ []) types in
          let second : IsLocal (used + 1) type.Bool = types 1 type.Bool refl in
          local_plain sight _ _ _ (omega arith) first (operated_is binary.Mul tt w (rules w).multiplies)
          (local_plain sight _ _ _ (omega arith) second (differs_is w (narrow_local_of w used) used (cut_is w used first) first)
          (ending_plain _ _ (used + 1) _ (omega arith) (omega arith) (omega arith) (positive_is (wide w) used (wide_numbers w) first)
          (negative_is (wide w) used (wide_numbers w) first) second (convert_is sight (rules w).stores (local_is sight first))))

      -- what divisions end with
      division_ending_plain : {n : ℕ} (w : Width) (none over signed : ℕ) (accu1 : Expr) → n ≤ 31 → IsLocal none type.Bool → IsLocal over type.Bool
          → IsLocal signed (wide w) → IsOf sight type.Dword n accu1 → IsPlainBody sight (division_ending_of w none over signed accu1 ++ rest)
      division_ending_plain w none over signed accu1 small gate overs sign h =
          ending_plain _ _ over _ (omega arith) (omega arith) (omega arith)
          (or_is sight (local_is sight gate) (positive_is (wide w) signed (wide_numbers w) sign))
          (or_is sight (local_is sight gate) (negative_is (wide w) signed (wide_numbers w) sign)) overs (select_is sight (local_is sight gate) h accu1_is)

      words_plain : AreTyped sight used (types_of_calculated row.DivI) → IsPlainBody sight (calculated_of used row.DivI ++ rest)
      unfolding divisor_kept_of quotient_in_words_of
      words_plain types =
          let first : IsLocal used type.Dint = first_typed sight used type.Dint (type.Bool ∷ type.Dint ∷ type.Dint ∷ type.Bool ∷ []) types in
          let none : IsLocal (used + 1) type.Bool = types 1 type.Bool refl in
          let quotient : IsLocal (used + 2) type.Dint = types 2 type.Dint refl in
          let remainder : IsLocal (used + 3) type.Dint = types 3 type.Dint refl in
          let over : IsLocal (used + 4) type.Bool = types 4 type.Bool refl in
          local_plain sight _ _ _ (omega arith) first (wide_is width.Word reg.Accu1 accu1_is)
          (local_plain sight _ _ _ (omega arith) none (zero_is width.Word used first)
          (local_plain sight _ _ _ (omega arith) quotient (quotient_in_wide width.Word used first)
          (local_plain sight _ _ _ (omega arith) remainder (remainder_in_wide width.Word used first)
          (local_plain sight _ _ _ (omega arith) over (quotient_over_is width.Word (used + 1) (used + 2) none quotient)
          (division_ending_plain width.Word (used + 1) (used + 4) (used + 2) _
          (omega arith) none over quotient (both_words_is (used + 2) (used + 3) quotient remainder))))))

      dword_plain : AreTyped sight used (types_of_calculated row.DivD) → IsPlainBody sight (calculated_of used row.DivD ++ rest)
      unfolding divisor_kept_of quotient_in_dword_of
      dword_plain types =
          let first : IsLocal used type.Lint = first_typed sight used type.Lint (type.Bool ∷ type.Lint ∷ type.Bool ∷ []) types in
          let none : IsLocal (used + 1) type.Bool = types 1 type.Bool refl in
          let quotient : IsLocal (used + 2) type.Lint = types 2 type.Lint refl in
          let over : IsLocal (used + 3) type.Bool = types 3 type.Bool refl in
          local_plain sight _ _ _ (omega arith) first (wide_is width.Dword reg.Accu1 accu1_is)
          (local_plain sight _ _ _ (omega arith) none (zero_is width.Dword used first)
          (local_plain sight _ _ _ (omega arith) quotient (quotient_in_wide width.Dword used first)
          (local_plain sight _ _ _ (omega arith) over (quotient_over_is width.Dword (used + 1) (used + 2) none quotient)
          (division_ending_plain width.Dword (used + 1) (used + 3) (used + 2) _
          (omega arith) none over quotient (convert_is sight refl (local_is sight quotient))))))

      remainder_plain : AreTyped sight used (types_of_calculated row.Mod) → IsPlainBody sight (calculated_of used row.Mod ++ rest)
      unfolding divisor_kept_of remainder_in_dword_of
      remainder_plain types =
          let first : IsLocal used type.Lint = first_typed sight used type.Lint (type.Bool ∷ type.Lint ∷ []) types in
          let none : IsLocal (used + 1) type.Bool = types 1 type.Bool refl in
          let remainder : IsLocal (used + 2) type.Lint = types 2 type.Lint refl in
          local_plain sight _ _ _ (omega arith) first (wide_is width.Dword reg.Accu1 accu1_is)
          (local_plain sight _ _ _ (omega arith) none (zero_is width.Dword used first)
          (local_plain sight _ _ _ (omega arith) remainder (remainder_in_wide width.Dword used first)
          (division_ending_plain width.Dword (used + 1) (used + 1) (used + 2) _
          (omega arith) none none remainder (convert_is sight refl (local_is sight remainder)))))

      -- Each row

      pub calculated_plain : (a : Arith) → AreTyped sight used (types_of_calculated a) → IsPlainBody sight (calculated_of used a ++ rest)
      calculated_plain row.AddI types =
          result_plain width.Word (operation_of binary.Add width.Word) (omega arith) (operated_is binary.Add tt width.Word refl) types
      calculated_plain row.SubI types =
          result_plain width.Word (operation_of binary.Sub width.Word) (omega arith) (operated_is binary.Sub tt width.Word refl) types
      calculated_plain row.MulI types = product_plain width.Word types
      calculated_plain row.DivI types = words_plain types
      calculated_plain row.AddD types =
          result_plain width.Dword (operation_of binary.Add width.Dword) (omega arith) (operated_is binary.Add tt width.Dword refl) types
      calculated_plain row.SubD types =
          result_plain width.Dword (operation_of binary.Sub width.Dword) (omega arith) (operated_is binary.Sub tt width.Dword refl) types
      calculated_plain row.MulD types = product_plain width.Dword types
      calculated_plain row.DivD types = dword_plain types
      calculated_plain row.Mod types = remainder_plain types

      pub negated_plain : (w : Width) → AreTyped sight used (types_of_negated w) → IsPlainBody sight (negated_of used w ++ rest)
      negated_plain w types =
          result_plain w (unary_of unary.Minus (wide_number_of w reg.Accu1)) (omega arith)
          (unary_is sight unary.Minus (rules w).negates (wide_is w reg.Accu1 accu1_is)) types

      pub compared_plain : (t : Test) (w : Width) → AreTyped sight used (types_of_compared w) → IsPlainBody sight (compared_of used t w ++ rest)
      compared_plain t w types =
          let first : IsLocal used (narrow w) = first_typed sight used (narrow w) (narrow w ∷ []) types in
          let second : IsLocal (used + 1) (narrow w) = types 1 (narrow w) refl in
          local_plain sight _ _ _ (omega arith) first (convert_is sight (rules w).loads accu2_is)
          (local_plain sight _ _ _ (omega arith) second (convert_is sight (rules w).loads accu1_is)
          (set_plain sight _ _ _ (omega arith) (comparison_is t w used first second)
          (set_plain sight _ _ _ (omega arith) (binary_is sight binary.Gt tt (narrow_numbers w).0 (local_is sight first) (local_is sight second))
          (set_plain sight _ _ _ (omega arith) (binary_is sight binary.Lt tt (narrow_numbers w).1 (local_is sight first) (local_is sight second))
          (set_plain sight _ _ _ (omega arith) (literal_is sight false)
          (cleared_plain sight true rest plain))))))
