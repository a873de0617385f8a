-- The statements of shifts and rotations are well typed, for locals of their types, and low.
use Rattle.std.proofs.Common.{◌≡◌, ℕ, ◌+◌, ◌-◌, ◌^◌, ◌<◌, ◌≤◌, ◌==◌, max, pos, Bool, true, false, if◌then◌else◌, List, [], ◌++◌, Option, Some, None, refl, ap, ◌∙◌, arith}
use Rattle.std.proofs.lemmas.Int.{ints}
use Rattle.template_parts.specs.Templates.{AreTyped, IsPlainBody}
use Rattle.template_parts.proofs.Typing.{IsBool, IsOf, and_is, binary_is, constant_is, convert_is, literal_is, local_is, local_plain, more, not_is, register_is, select_is, set_plain, shift_is, unary_is}
use Rattle.template_parts.specs.Builders.{or_of, read_of, select_of, shift_of}
use Rattle.s7_base.specs.declared.register.Reg.TheVariants as reg
use Rattle.s7_base.specs.declared.word.Width.{Width}
use Rattle.s7_base.specs.declared.word.Width.TheVariants as width
use Rattle.shift_templates.proofs.Patterns.{IsShifted}
use Rattle.shift_templates.specs.ShiftParts.{accu1_with, count_of, count_locals, flags_set, flags_set_where, has_bit, one_less, operand_of, shown_bit, signed_shift, top_bit}
use Rattle.shift_templates.specs.ShiftTemplates.{by_accu2, by_constant, rlda_template, rrda_template, shift_by_accu2, shift_by_constant, shift_template, signed_by_accu2, signed_by_constant, through_cc1, turn_by_accu2, turn_by_constant, types_by_accu2, types_by_constant, types_of_shift, types_through_cc1}
use Rattle.st_tree.specs.TypeRules.{has_bits, type_of_unary, type_on_equals}
use Rattle.st_tree.specs.Values.{type_of_width}
use Rattle.st_tree.specs.WellTyped.{UnitScope, is_value, variable_type}
use Rattle.st_tree.specs.declared.expr.BinaryOp.TheVariants as binary
use Rattle.st_tree.specs.declared.expr.Expr.{Expr}
use Rattle.st_tree.specs.declared.expr.ShiftOp.{ShiftOp}
use Rattle.st_tree.specs.declared.expr.ShiftOp.TheVariants as shift
use Rattle.st_tree.specs.declared.expr.StType.{StType}
use Rattle.st_tree.specs.declared.expr.StType.TheVariants as type
use Rattle.st_tree.specs.declared.expr.UnaryOp.TheVariants as unary
use Rattle.st_tree.specs.declared.expr.Var.TheVariants as var
use Rattle.st_tree.specs.declared.program.Stmt.{Stmt}
use Rattle.stl_tree.specs.Accepted.{IsCount}
use Rattle.stl_tree.specs.Shifts.{most_steps}
use Rattle.stl_tree.specs.declared.accumulator.ShiftRow.{ShiftRow}
use Rattle.stl_tree.specs.declared.accumulator.ShiftRow.TheVariants as row

-- Types of a width

bits_typed : (w : Width) → has_bits (type_of_width w) ≡ true
bits_typed width.Bit = refl
bits_typed width.Byte = refl
bits_typed width.Word = refl
bits_typed width.Dword = refl

masks_typed : (w : Width) → type_on_equals binary.And (type_of_width w) ≡ Some (type_of_width w)
masks_typed width.Bit = refl
masks_typed width.Byte = refl
masks_typed width.Word = refl
masks_typed width.Dword = refl

inverse_typed : (w : Width) → type_of_unary unary.Not (type_of_width w) ≡ Some (type_of_width w)
inverse_typed width.Bit = refl
inverse_typed width.Byte = refl
inverse_typed width.Word = refl
inverse_typed width.Dword = refl

zero_value : (w : Width) → is_value (type_of_width w) (pos 0) ≡ true
zero_value width.Bit = refl
zero_value width.Byte = refl
zero_value width.Word = refl
zero_value width.Dword = refl

one_value : (w : Width) → is_value (type_of_width w) (pos 1) ≡ true
one_value width.Bit = refl
one_value width.Byte = refl
one_value width.Word = refl
one_value width.Dword = refl

top_value : (w : Width) → IsShifted w → is_value (type_of_width w) (pos (top_bit w)) ≡ true
top_value width.Bit wide = elim wide [ ]
top_value width.Byte wide = elim wide [ ]
top_value width.Word wide = refl
top_value width.Dword wide = refl

shown_value : (op : ShiftOp) (w : Width) → IsShifted w → is_value (type_of_width w) (pos (shown_bit op w)) ≡ true
shown_value shift.Shl w wide = top_value w wide
shown_value shift.Shr w wide = one_value w
shown_value shift.Rol w wide = one_value w
shown_value shift.Ror w wide = top_value w wide

int_value : (n : ℕ) → n < 2 ^ 15 → is_value type.Int (pos n) ≡ true
int_value n h = grind (arith, ints)

module _ (sight : UnitScope) where
  -- Parts

  operand_is : (w : Width) → IsShifted w → IsOf sight (type_of_width w) 2 (operand_of w)
  operand_is width.Bit wide = elim wide [ ]
  operand_is width.Byte wide = elim wide [ ]
  operand_is width.Word wide = convert_is sight refl (register_is sight reg.Accu1)
  operand_is width.Dword wide = more sight (omega arith) (register_is sight reg.Accu1)

  accu1_is : {n : ℕ} {e : Expr} (w : Width) → IsShifted w → IsOf sight (type_of_width w) n e → IsOf sight type.Dword (3 + n) (accu1_with w e)
  accu1_is width.Bit wide h = elim wide [ ]
  accu1_is width.Byte wide h = elim wide [ ]
  accu1_is {n} width.Word wide h =
      more sight (omega arith)
      (binary_is sight binary.Or tt refl (binary_is sight binary.And tt refl (register_is sight reg.Accu1) (constant_is sight refl))
      (convert_is sight refl h))
  accu1_is width.Dword wide h = more sight (omega arith) h

  bit_is : {n : ℕ} {e : Expr} (w : Width) (b : ℕ) → is_value (type_of_width w) (pos b) ≡ true → IsOf sight (type_of_width w) n e
      → IsBool sight (1 + max (1 + max n 1) 1) (has_bit w b e)
  bit_is w b h k =
      binary_is sight binary.Ne tt refl (binary_is sight binary.And tt (masks_typed w) k (constant_is sight h)) (constant_is sight (zero_value w))

  count_is : (n : ℕ) → n < 2 ^ 15 → IsOf sight type.Int 1 (count_of n)
  count_is n h = constant_is sight (int_value n h)

  less_is : {e : Expr} → IsOf sight type.Int 1 e → IsOf sight type.Int 2 (one_less e)
  less_is h = binary_is sight binary.Sub tt refl h (constant_is sight refl)

  moved_is : {m n : ℕ} {e d : Expr} (op : ShiftOp) (w : Width) → IsOf sight (type_of_width w) m e → IsOf sight type.Int n d
      → IsOf sight (type_of_width w) (1 + max m n) (shift_of op e d)
  moved_is op w h k = shift_is sight op (bits_typed w) h k

  signed_is : {n : ℕ} {sign e d : Expr} (w : Width) → IsBool sight 1 sign → IsOf sight (type_of_width w) 1 e → IsOf sight type.Int n d
      → IsOf sight (type_of_width w) (7 + n) (signed_shift sign e d)
  signed_is {n} w s h k =
      more sight (omega arith)
      (select_is sight s (moved_is shift.Shr w h k)
      (unary_is sight unary.Not (inverse_typed w) (moved_is shift.Shr w (unary_is sight unary.Not (inverse_typed w) h) k)))

  -- Statements

  flags_plain : {n : ℕ} (out : Expr) (rest : List Stmt) → n ≤ 32 → IsBool sight n out → IsPlainBody sight rest → IsPlainBody sight (flags_set out ++ rest)
  flags_plain out rest small h plain =
      set_plain sight _ _ _ small h
      (set_plain sight _ _ _ (omega arith) (literal_is sight false) (set_plain sight _ _ _ (omega arith) (literal_is sight false) plain))

  where_plain : {n : ℕ} (stepped out : Expr) (rest : List Stmt) → n ≤ 30 → IsBool sight 1 stepped → IsBool sight n out → IsPlainBody sight rest
      → IsPlainBody sight (flags_set_where stepped out ++ rest)
  where_plain {n} stepped out rest small s h plain =
      let cc1 : IsBool sight 32 (select_of stepped (read_of reg.Cc1) out) = more sight (omega arith) (select_is sight s (register_is sight reg.Cc1) h) in
      set_plain sight reg.Cc1 _ _ (omega arith) cc1
      (set_plain sight _ _ _ (omega arith) (and_is sight (register_is sight reg.Cc0) (not_is sight s))
      (set_plain sight _ _ _ (omega arith) (and_is sight (register_is sight reg.Ov) (not_is sight s)) plain))

  counted_plain : (used : ℕ) (rest : List Stmt) → variable_type sight (var.Local used) ≡ Some type.Int
      → variable_type sight (var.Local (used + 1)) ≡ Some type.Bool
      → IsPlainBody sight rest → IsPlainBody sight (count_locals used ++ rest)
  counted_plain used rest first second plain =
      local_plain sight _ _ _ (omega arith) first
      (convert_is sight refl (binary_is sight binary.And tt refl (register_is sight reg.Accu2) (constant_is sight refl)))
      (local_plain sight _ _ _ (omega arith) second (binary_is sight binary.Ne tt refl (local_is sight first) (constant_is sight refl)) plain)

  -- By a constant

  module _ (used : ℕ) (rest : List Stmt) (plain : IsPlainBody sight rest) where
    module _ (n : ℕ) (small : n < 2 ^ 15) where
      fewer : n - 1 < 2 ^ 15
      fewer = omega arith

      shift_plain : (op : ShiftOp) (w : Width) → IsShifted w → variable_type sight (var.Local used) ≡ Some (type_of_width w)
          → IsPlainBody sight (shift_by_constant op w n used ++ rest)
      shift_plain op w wide first =
          local_plain sight _ _ _ (omega arith) first (moved_is op w (operand_is w wide) (count_is (n - 1) fewer))
          (flags_plain _ _ (omega arith) (bit_is w (shown_bit op w) (shown_value op w wide) (local_is sight first))
          (set_plain sight _ _ _ (omega arith) (accu1_is w wide (moved_is op w (local_is sight first) (count_is 1 (omega arith)))) plain))

      signed_plain : (w : Width) → IsShifted w → variable_type sight (var.Local used) ≡ Some (type_of_width w)
          → variable_type sight (var.Local (used + 1)) ≡ Some type.Bool → variable_type sight (var.Local (used + 2)) ≡ Some (type_of_width w)
          → IsPlainBody sight (signed_by_constant w n used ++ rest)
      signed_plain w wide first second third =
          local_plain sight _ _ _ (omega arith) first (operand_is w wide)
          (local_plain sight _ _ _ (omega arith) second (bit_is w (top_bit w) (top_value w wide) (local_is sight first))
          (local_plain sight _ _ _ (omega arith) third (signed_is w (local_is sight second) (local_is sight first) (count_is (n - 1) fewer))
          (flags_plain _ _ (omega arith) (bit_is w 1 (one_value w) (local_is sight third))
          (set_plain sight _ _ _ (omega arith)
          (accu1_is w wide (signed_is w (local_is sight second) (local_is sight third) (count_is 1 (omega arith)))) plain))))

      turn_plain : (op : ShiftOp) → variable_type sight (var.Local used) ≡ Some type.Dword → IsPlainBody sight (turn_by_constant op n used ++ rest)
      turn_plain op first =
          local_plain sight _ _ _ (omega arith) first (moved_is op width.Dword (register_is sight reg.Accu1) (count_is n small))
          (flags_plain _ _ (omega arith) (bit_is width.Dword (shown_bit op width.Dword) (shown_value op width.Dword tt) (local_is sight first))
          (set_plain sight _ _ _ (omega arith) (local_is sight first) plain))

    -- By ACCU2

    module _ (first : variable_type sight (var.Local used) ≡ Some type.Int) (second : variable_type sight (var.Local (used + 1)) ≡ Some type.Bool) where
      shift_where_plain : (op : ShiftOp) (w : Width) → IsShifted w → variable_type sight (var.Local (used + 2)) ≡ Some (type_of_width w)
          → variable_type sight (var.Local (used + 3)) ≡ Some (type_of_width w) → IsPlainBody sight (shift_by_accu2 op w used ++ rest)
      shift_where_plain op w wide third fourth =
          counted_plain used _ first second
          (local_plain sight _ _ _ (omega arith) third (operand_is w wide)
          (local_plain sight _ _ _ (omega arith) fourth (moved_is op w (local_is sight third) (less_is (local_is sight first)))
          (where_plain _ _ _ (omega arith) (local_is sight second) (bit_is w (shown_bit op w) (shown_value op w wide) (local_is sight fourth))
          (set_plain sight _ _ _ (omega arith) (accu1_is w wide (moved_is op w (local_is sight third) (local_is sight first))) plain))))

      signed_where_plain : (w : Width) → IsShifted w → variable_type sight (var.Local (used + 2)) ≡ Some (type_of_width w)
          → variable_type sight (var.Local (used + 3)) ≡ Some type.Bool → variable_type sight (var.Local (used + 4)) ≡ Some (type_of_width w)
          → IsPlainBody sight (signed_by_accu2 w used ++ rest)
      signed_where_plain w wide third fourth fifth =
          counted_plain used _ first second
          (local_plain sight _ _ _ (omega arith) third (operand_is w wide)
          (local_plain sight _ _ _ (omega arith) fourth (bit_is w (top_bit w) (top_value w wide) (local_is sight third))
          (local_plain sight _ _ _ (omega arith) fifth (signed_is w (local_is sight fourth) (local_is sight third) (less_is (local_is sight first)))
          (where_plain _ _ _ (omega arith) (local_is sight second) (bit_is w 1 (one_value w) (local_is sight fifth))
          (set_plain sight _ _ _ (omega arith)
          (accu1_is w wide (signed_is w (local_is sight fourth) (local_is sight third) (local_is sight first))) plain)))))

      turn_where_plain : (op : ShiftOp) → variable_type sight (var.Local (used + 2)) ≡ Some type.Dword → IsPlainBody sight (turn_by_accu2 op used ++ rest)
      turn_where_plain op third =
          counted_plain used _ first second
          (local_plain sight _ _ _ (omega arith) third (moved_is op width.Dword (register_is sight reg.Accu1) (local_is sight first))
          (where_plain _ _ _ (omega arith) (local_is sight second)
          (bit_is width.Dword (shown_bit op width.Dword) (shown_value op width.Dword tt) (local_is sight third))
          (set_plain sight _ _ _ (omega arith) (local_is sight third) plain)))

    -- Each row

    at_first : {ty : StType} → variable_type sight (var.Local (used + 0)) ≡ Some ty → variable_type sight (var.Local used) ≡ Some ty
    at_first h = let e : used ≡ used + 0 = omega arith in ap (λ (i : ℕ). variable_type sight (var.Local i)) e ∙ h

    constant_plain : (i : ShiftRow) (n : ℕ) → n < 2 ^ 15 → AreTyped sight used (types_by_constant i) → IsPlainBody sight (by_constant i n used ++ rest)
    constant_plain row.Slw n small h = shift_plain n small shift.Shl width.Word tt (at_first (h 0 type.Word refl))
    constant_plain row.Srw n small h = shift_plain n small shift.Shr width.Word tt (at_first (h 0 type.Word refl))
    constant_plain row.Ssi n small h =
        signed_plain n small width.Word tt (at_first (h 0 type.Word refl)) (h 1 type.Bool refl) (h 2 type.Word refl)
    constant_plain row.Sld n small h = shift_plain n small shift.Shl width.Dword tt (at_first (h 0 type.Dword refl))
    constant_plain row.Srd n small h = shift_plain n small shift.Shr width.Dword tt (at_first (h 0 type.Dword refl))
    constant_plain row.Ssd n small h =
        signed_plain n small width.Dword tt (at_first (h 0 type.Dword refl)) (h 1 type.Bool refl) (h 2 type.Dword refl)
    constant_plain row.Rld n small h = turn_plain n small shift.Rol (at_first (h 0 type.Dword refl))
    constant_plain row.Rrd n small h = turn_plain n small shift.Ror (at_first (h 0 type.Dword refl))

    accu2_plain : (i : ShiftRow) → AreTyped sight used (types_by_accu2 i) → IsPlainBody sight (by_accu2 i used ++ rest)
    accu2_plain row.Slw h =
        shift_where_plain (at_first (h 0 type.Int refl)) (h 1 type.Bool refl) shift.Shl width.Word tt (h 2 type.Word refl) (h 3 type.Word refl)
    accu2_plain row.Srw h =
        shift_where_plain (at_first (h 0 type.Int refl)) (h 1 type.Bool refl) shift.Shr width.Word tt (h 2 type.Word refl) (h 3 type.Word refl)
    accu2_plain row.Ssi h =
        signed_where_plain (at_first (h 0 type.Int refl)) (h 1 type.Bool refl) width.Word tt (h 2 type.Word refl) (h 3 type.Bool refl) (h 4 type.Word refl)
    accu2_plain row.Sld h =
        shift_where_plain (at_first (h 0 type.Int refl)) (h 1 type.Bool refl) shift.Shl width.Dword tt (h 2 type.Dword refl) (h 3 type.Dword refl)
    accu2_plain row.Srd h =
        shift_where_plain (at_first (h 0 type.Int refl)) (h 1 type.Bool refl) shift.Shr width.Dword tt (h 2 type.Dword refl) (h 3 type.Dword refl)
    accu2_plain row.Ssd h =
        signed_where_plain (at_first (h 0 type.Int refl)) (h 1 type.Bool refl) width.Dword tt (h 2 type.Dword refl) (h 3 type.Bool refl) (h 4 type.Dword refl)
    accu2_plain row.Rld h = turn_where_plain (at_first (h 0 type.Int refl)) (h 1 type.Bool refl) shift.Rol (h 2 type.Dword refl)
    accu2_plain row.Rrd h = turn_where_plain (at_first (h 0 type.Int refl)) (h 1 type.Bool refl) shift.Ror (h 2 type.Dword refl)

    most_few : (i : ShiftRow) → most_steps i ≤ 32
    most_few row.Slw = omega arith
    most_few row.Srw = omega arith
    most_few row.Ssi = omega arith
    most_few row.Sld = omega arith
    most_few row.Srd = omega arith
    most_few row.Ssd = omega arith
    most_few row.Rld = omega arith
    most_few row.Rrd = omega arith

    pub any_shift_plain : (i : ShiftRow) (by : Option ℕ) → IsCount i by
        → AreTyped sight used (types_of_shift i by) → IsPlainBody sight (shift_template used i by ++ rest)
    any_shift_plain i None count h = accu2_plain i h
    any_shift_plain i (Some n) count h = at (n == 0) h
      where
        small : n < 2 ^ 15
        small = omega (arith, most_few i, count)

        at : (none : Bool) → AreTyped sight used (if none then [] else types_by_constant i)
            → IsPlainBody sight ((if none then [] else by_constant i n used) ++ rest)
        at true h = plain
        at false h = constant_plain i n small h

    -- RLDA, RRDA

    through_plain : {n : ℕ} (op : ShiftOp) (entering : Expr) → n ≤ 30 → variable_type sight (var.Local used) ≡ Some type.Bool → IsOf sight type.Dword n entering
        → IsPlainBody sight (through_cc1 op entering used ++ rest)
    through_plain {n} op entering small first h =
        let joined : IsOf sight type.Dword 32 (or_of (shift_of op (read_of reg.Accu1) (count_of 1)) entering) =
        more sight (omega arith) (binary_is sight binary.Or tt refl (moved_is op width.Dword (register_is sight reg.Accu1) (count_is 1 (omega arith))) h) in
        local_plain sight _ _ _ (omega arith) first (register_is sight reg.Cc1)
        (flags_plain _ _ (omega arith) (bit_is width.Dword (shown_bit op width.Dword) (shown_value op width.Dword tt) (register_is sight reg.Accu1))
        (set_plain sight reg.Accu1 _ _ (omega arith) joined plain))

    pub rlda_plain : AreTyped sight used types_through_cc1 → IsPlainBody sight (rlda_template used ++ rest)
    rlda_plain h =
        let first : variable_type sight (var.Local used) ≡ Some type.Bool = at_first (h 0 type.Bool refl) in
        through_plain shift.Shl _ (omega arith) first (convert_is sight refl (local_is sight first))

    pub rrda_plain : AreTyped sight used types_through_cc1 → IsPlainBody sight (rrda_template used ++ rest)
    rrda_plain h =
        let first : variable_type sight (var.Local used) ≡ Some type.Bool = at_first (h 0 type.Bool refl) in
        through_plain shift.Shr _ (omega arith) first (select_is sight (local_is sight first) (constant_is sight refl) (constant_is sight refl))
