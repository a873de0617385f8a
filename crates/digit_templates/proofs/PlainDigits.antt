-- The statements of the conversions are well typed, for locals of their types; and which registers they read.
use Rattle.std.proofs.Common.{◌≡◌, ℕ, ◌+◌, ◌^◌, ◌<◌, ◌≤◌, max, pos, true, List, [], ◌∷◌, ◌++◌, Some, inl, inr, refl, ap, ◌∙◌, arith}
use Rattle.std.specs.Prelude.{ℤ, ◌≢◌, unsigned_abs}
use Rattle.std.specs.Ordering.{int_eq}
use Rattle.std.proofs.lemmas.Int.{ints}
use Rattle.s7_base.specs.declared.register.Reg.{Reg}
use Rattle.s7_base.specs.declared.register.Reg.TheVariants as reg
use Rattle.stl_tree.specs.Reads.{reads_of}
use Rattle.stl_tree.specs.declared.accumulator.UnaryRow.TheVariants as row
use Rattle.stl_tree.specs.declared.program.Op.TheVariants as op
use Rattle.st_tree.specs.TypeRules.{type_of_unary, type_on_equals}
use Rattle.st_tree.specs.WellTyped.{UnitScope, variable_type}
use Rattle.st_tree.specs.declared.expr.BinaryOp.TheVariants as binary
use Rattle.st_tree.specs.declared.expr.Expr.{Expr}
use Rattle.st_tree.specs.declared.expr.StType.{StType}
use Rattle.st_tree.specs.declared.expr.StType.TheVariants as type
use Rattle.st_tree.specs.declared.expr.UnaryOp.TheVariants as unary
use Rattle.st_tree.specs.declared.expr.Var.TheVariants as var
use Rattle.st_tree.specs.declared.program.Stmt.{Stmt}
use Rattle.graph_rules.specs.Divisors.{IsSureDivisor}
use Rattle.template_parts.specs.Builders.{constant_of}
use Rattle.template_parts.proofs.ReadRegisters.{AllRead, Has, variables_read}
use Rattle.template_parts.specs.Templates.{AreTyped, IsPlainBody}
use Rattle.template_parts.proofs.Typing.{IsOf, binary_is, constant_is, convert_is, first_typed, local_is, local_plain, or_is, quotient_is, register_is, remainder_is, select_is, set_plain, unary_is}
use Rattle.digit_templates.specs.FromDigits.{btd_of, bti_of, types_of_btd, types_of_bti}
use Rattle.digit_templates.proofs.DigitSums.{Holds, dint_holds, lint_holds}
use Rattle.template_parts.specs.Builders.{with_low_of}
use Rattle.digit_templates.specs.ToDigits.{by_sign_of, digits_of, dtb_of, itb_of, measured_of, under_sign_of, types_of_dtb, types_of_itb, with_digit_of, written_of}

-- Types

-- a local of a type
abbrev IsLocal : UnitScope → ℕ → StType → Type 0
IsLocal sight i ty = variable_type sight (var.Local i) ≡ Some ty

equals_itself : (n : ℕ) → int_eq (pos n) (pos n) ≡ true
equals_itself n = grind (arith, ints)

above_zero : (n : ℕ) → 1 ≤ n → pos n ≢ pos 0
above_zero n some e = let none : n ≡ 0 = ap unsigned_abs e in absurd (omega arith)

module _ (sight : UnitScope) where
  low_is : {n : ℕ} {e : Expr} → IsOf sight type.Word n e → IsOf sight type.Dword (1 + max (1 + max 1 1) (1 + n)) (with_low_of e)
  low_is h =
      binary_is sight binary.Or tt refl (binary_is sight binary.And tt refl (register_is sight reg.Accu1) (constant_is sight refl))
      (convert_is sight refl h)

  -- in a type of numbers
  module _ (ty : StType) (sums : type_on_equals binary.Add ty ≡ Some ty) (products : type_on_equals binary.Mul ty ≡ Some ty)
      (quotients : type_on_equals binary.Div ty ≡ Some ty) (remainders : type_on_equals binary.Mod ty ≡ Some ty)
      (less : type_on_equals binary.Lt ty ≡ Some type.Bool) (greater : type_on_equals binary.Gt ty ≡ Some type.Bool)
      (negated : type_of_unary unary.Minus ty ≡ Some ty) (room : ℕ) (holds : Holds ty room) (wide : 2 ^ 31 ≤ room) where
    number_is : (n : ℕ) → n < room → IsOf sight ty 1 (constant_of ty (pos n))
    number_is n h = constant_is sight (ap (λ (z : ℤ). int_eq z (pos n)) (holds n h) ∙ equals_itself n)

    literal_divisor : (n : ℕ) → 1 ≤ n → IsSureDivisor (constant_of ty (pos n))
    literal_divisor n some = inl (record { ty = ty; number = pos n; literal = refl; other = above_zero n some })

    digit_is : {n : ℕ} {amount e : Expr} (power place : ℕ) → 1 ≤ power → power < room → place < room → IsOf sight ty 1 amount → IsOf sight ty n e
        → IsOf sight ty (1 + max n 4) (with_digit_of ty amount e (pos power) (pos place))
    digit_is power place some p q a h =
        binary_is sight binary.Add tt sums h
        (binary_is sight binary.Mul tt products
        (remainder_is sight (literal_divisor 10 (omega arith)) remainders
        (quotient_is sight (literal_divisor power some) quotients a (number_is power p)) (number_is 10 (omega arith)))
        (number_is place q))

    three_is : {amount : Expr} → IsOf sight ty 1 amount → IsOf sight ty 6 (digits_of ty amount 2)
    three_is a =
        digit_is 100 256 (omega arith) (omega arith) (omega arith) a
        (digit_is 10 16 (omega arith) (omega arith) (omega arith) a
        (remainder_is sight (literal_divisor 10 (omega arith)) remainders a (number_is 10 (omega arith))))

    seven_is : {amount : Expr} → IsOf sight ty 1 amount → IsOf sight ty 10 (digits_of ty amount 6)
    seven_is a =
        digit_is 1000000 16777216 (omega arith) (omega arith) (omega arith) a
        (digit_is 100000 1048576 (omega arith) (omega arith) (omega arith) a
        (digit_is 10000 65536 (omega arith) (omega arith) (omega arith) a (digit_is 1000 4096 (omega arith) (omega arith) (omega arith) a (three_is a))))

    sign_is : {m n : ℕ} {number e f : Expr} → IsOf sight ty 1 number → IsOf sight ty m e → IsOf sight ty n f
        → IsOf sight ty (1 + max 2 (max m n)) (by_sign_of ty number e f)
    sign_is i h k = select_is sight (binary_is sight binary.Lt tt less i (number_is 0 (omega arith))) h k

    signed_is : {n : ℕ} {number digits : Expr} (sign : ℕ) → sign < room → IsOf sight ty 1 number → IsOf sight ty n digits
        → IsOf sight ty (1 + max n 3) (under_sign_of ty number digits (pos sign))
    signed_is sign h i d = binary_is sight binary.Add tt sums d (sign_is i (number_is 0 (omega arith)) (number_is sign h))

    written_plain : {m n : ℕ} {number pattern written : Expr} (used greatest : ℕ) (rest : List Stmt) → greatest < room → m ≤ 32 → n ≤ 31
        → IsLocal sight used ty → IsLocal sight (used + 1) ty → IsLocal sight (used + 2) type.Bool → IsLocal sight (used + 3) ty
        → IsOf sight ty 3 number → IsOf sight ty m pattern → IsOf sight type.Dword n written → IsPlainBody sight rest
        → IsPlainBody sight (measured_of ty used number (pos greatest) ++ written_of used pattern written ++ rest)
    written_plain used greatest rest few low less_low first second third fourth i p w plain =
        let given = local_is sight first in
        local_plain sight _ _ _ (omega arith) first i
        (local_plain sight _ _ _ (omega arith) second (sign_is given given (unary_is sight unary.Minus negated given))
        (local_plain sight _ _ _ (omega arith) third (binary_is sight binary.Gt tt greater (local_is sight second) (number_is greatest few))
        (local_plain sight _ _ _ low fourth p
        (set_plain sight _ _ _ (omega arith) (local_is sight third)
        (set_plain sight _ _ _ (omega arith) (or_is sight (register_is sight reg.Os) (local_is sight third))
        (set_plain sight _ _ _ (omega arith) (select_is sight (local_is sight third) w (register_is sight reg.Accu1)) plain))))))

module _ (sight : UnitScope) (used : ℕ) (rest : List Stmt) (plain : IsPlainBody sight rest) where
  pub bti_plain : AreTyped sight used types_of_bti → IsPlainBody sight (bti_of used ++ rest)
  bti_plain types =
      let first : IsLocal sight used type.Int = first_typed sight used type.Int [] types in
      local_plain sight _ _ _ (omega arith) first (unary_is sight unary.BcdToInt refl (convert_is sight refl (register_is sight reg.Accu1)))
      (set_plain sight _ _ _ (omega arith) (low_is sight (convert_is sight refl (local_is sight first))) plain)

  pub btd_plain : AreTyped sight used types_of_btd → IsPlainBody sight (btd_of used ++ rest)
  btd_plain types =
      let first : IsLocal sight used type.Dint = first_typed sight used type.Dint [] types in
      local_plain sight _ _ _ (omega arith) first (unary_is sight unary.BcdToDint refl (register_is sight reg.Accu1))
      (set_plain sight _ _ _ (omega arith) (convert_is sight refl (local_is sight first)) plain)

  pub itb_plain : AreTyped sight used types_of_itb → IsPlainBody sight (itb_of used ++ rest)
  itb_plain types =
      let first : IsLocal sight used type.Dint = first_typed sight used type.Dint (type.Dint ∷ type.Bool ∷ type.Dint ∷ []) types in
      let second : IsLocal sight (used + 1) type.Dint = types 1 type.Dint refl in
      written_plain sight type.Dint refl refl refl refl refl refl refl (2 ^ 31) dint_holds (omega arith) used 999 rest (omega arith) (omega arith) (omega arith)
      first second (types 2 type.Bool refl) (types 3 type.Dint refl) (convert_is sight refl (convert_is sight refl (register_is sight reg.Accu1)))
      (signed_is sight type.Dint refl refl refl refl refl refl refl (2 ^ 31) dint_holds (omega arith) 0xF000 (omega arith) (local_is sight first)
      (three_is sight type.Dint refl refl refl refl refl refl refl (2 ^ 31) dint_holds (omega arith) (local_is sight second)))
      (low_is sight (convert_is sight refl (local_is sight (types 3 type.Dint refl)))) plain

  pub dtb_plain : AreTyped sight used types_of_dtb → IsPlainBody sight (dtb_of used ++ rest)
  dtb_plain types =
      let first : IsLocal sight used type.Lint = first_typed sight used type.Lint (type.Lint ∷ type.Bool ∷ type.Lint ∷ []) types in
      let second : IsLocal sight (used + 1) type.Lint = types 1 type.Lint refl in
      written_plain sight type.Lint refl refl refl refl refl refl refl (2 ^ 33) lint_holds
      (omega arith) used 9999999 rest (omega arith) (omega arith) (omega arith)
      first second (types 2 type.Bool refl) (types 3 type.Lint refl) (convert_is sight refl (convert_is sight refl (register_is sight reg.Accu1)))
      (signed_is sight type.Lint refl refl refl refl refl refl refl (2 ^ 33) lint_holds (omega arith) 0xF0000000 (omega arith) (local_is sight first)
      (seven_is sight type.Lint refl refl refl refl refl refl refl (2 ^ 33) lint_holds (omega arith) (local_is sight second)))
      (convert_is sight refl (local_is sight (types 3 type.Lint refl))) plain

-- Registers that are read: P is what holds of those that the instruction reads by its row

module _ (P : Reg → Type 0) (used : ℕ) (rest : List Stmt) where
  pub bti_reads : Has P (reads_of (op.Unary row.Bti)) → AllRead P rest → AllRead P (bti_of used ++ rest)
  bti_reads h k =
      let one : P reg.Accu1 = h reg.Accu1 (inl refl) in
      simp variables_read (one, (one, k))

  pub btd_reads : Has P (reads_of (op.Unary row.Btd)) → AllRead P rest → AllRead P (btd_of used ++ rest)
  btd_reads h k = simp variables_read (h reg.Accu1 (inl refl), k)

  pub itb_reads : Has P (reads_of (op.Unary row.Itb)) → AllRead P rest → AllRead P (itb_of used ++ rest)
  itb_reads h k =
      let one : P reg.Accu1 = h reg.Accu1 (inl refl) in
      let os : P reg.Os = h reg.Os (inr (inl refl)) in
      simp variables_read (one, (os, (one, (one, k))))

  pub dtb_reads : Has P (reads_of (op.Unary row.Dtb)) → AllRead P rest → AllRead P (dtb_of used ++ rest)
  dtb_reads h k =
      let one : P reg.Accu1 = h reg.Accu1 (inl refl) in
      let os : P reg.Os = h reg.Os (inr (inl refl)) in
      simp variables_read (one, (os, (one, k)))
