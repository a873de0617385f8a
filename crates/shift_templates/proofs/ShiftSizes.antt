-- The statements of shifts and rotations are assignments, few, of few nodes, and set their locals in order.
use Rattle.std.proofs.Common.{◌≡◌, ℕ, suc, ◌+◌, ◌==◌, Bool, true, false, if◌then◌else◌, List, [], ◌∷◌, ◌++◌, Option, Some, None, refl, ◌∙◌, arith}
use Rattle.graph_rules.proofs.Runs.{disorder, order_equations}
use Rattle.template_parts.proofs.Obligations.{HasSizes, with_sizes}
use Rattle.template_parts.proofs.FetchOrder.{misses}
use Rattle.template_parts.proofs.Sizes.{counts}
use Rattle.template_parts.specs.Builders.{set_local_of, set_of}
use Rattle.s7_base.specs.declared.register.Reg.{Reg}
use Rattle.s7_base.specs.declared.word.Width.{Width}
use Rattle.s7_base.specs.declared.word.Width.TheVariants as width
use Rattle.shift_templates.specs.ShiftParts.{accu1_with, count_locals, flags_set_where, operand_of}
use Rattle.shift_templates.specs.ShiftTemplates.{by_accu2, by_constant, rlda_template, rrda_template, shift_by_accu2, shift_template, signed_by_accu2, signed_by_constant, turn_by_accu2, types_by_accu2, types_by_constant, types_of_shift, types_through_cc1}
use Rattle.st_tree.specs.declared.expr.Expr.{Expr}
use Rattle.st_tree.specs.declared.expr.ShiftOp.{ShiftOp}
use Rattle.st_tree.specs.declared.expr.ShiftOp.TheVariants as shift
use Rattle.st_tree.specs.declared.program.Stmt.{Stmt}
use Rattle.stl_tree.specs.declared.accumulator.ShiftRow.{ShiftRow}
use Rattle.stl_tree.specs.declared.accumulator.ShiftRow.TheVariants as row

-- Order, a statement at a time

-- where so many locals are written, statements set the next ones in order, and read those alone from the lowest one on
record IsNext (low w : ℕ) (body : List Stmt) : Type 0 where
  none : disorder low w body ≡ 0

nothing_next : {low w : ℕ} → IsNext low w []
nothing_next = record { none = refl }

local_next : {low w i : ℕ} {e : Expr} {rest : List Stmt} → i ≡ w → misses low w e ≡ 0 → IsNext low (suc w) rest → IsNext low w (set_local_of i e ∷ rest)
local_next {low} {w} {i} {e} {rest} same known h = let others : disorder low (suc w) rest ≡ 0 = h.none in record { none = omega arith }

register_next : {low w : ℕ} {r : Reg} {e : Expr} {rest : List Stmt} → misses low w e ≡ 0 → IsNext low w rest → IsNext low w (set_of r e ∷ rest)
register_next {low} {w} {r} {e} {rest} known h = let others : disorder low w rest ≡ 0 = h.none in record { none = omega arith }

operand_misses : (low n : ℕ) (w : Width) → misses low n (operand_of w) ≡ 0
operand_misses low n width.Word = simp order_equations
operand_misses low n w = simp order_equations

accu1_misses : (low n : ℕ) (w : Width) (e : Expr) → misses low n (accu1_with w e) ≡ misses low n e
accu1_misses low n width.Word e = simp order_equations (omega arith)
accu1_misses low n w e = refl

where_next : {low w : ℕ} (stepped out : Expr) {rest : List Stmt} → misses low w stepped ≡ 0
    → misses low w out ≡ 0 → IsNext low w rest → IsNext low w (flags_set_where stepped out ++ rest)
where_next stepped out h k more =
    register_next (simp order_equations (omega (arith, h, k)))
    (register_next (simp order_equations (omega (arith, h))) (register_next (simp order_equations (omega (arith, h))) more))

module _ (used : ℕ) where
  counted_next : {rest : List Stmt} → IsNext used (suc (suc used)) rest → IsNext used used (count_locals used ++ rest)
  counted_next more = local_next refl (simp order_equations) (local_next (omega arith) (simp order_equations (omega arith)) more)

  signed_order : (w : Width) (n : ℕ) → IsNext used used (signed_by_constant w n used)
  signed_order w n =
      local_next refl (operand_misses used used w)
      (local_next (omega arith) (simp order_equations (omega arith))
      (local_next (omega arith) (simp order_equations (omega arith))
      (register_next (simp order_equations (omega arith))
      (register_next (simp order_equations) (register_next (simp order_equations)
      (register_next (accu1_misses used _ w _ ∙ simp order_equations (omega arith)) nothing_next))))))

  shift_where_order : (op : ShiftOp) (w : Width) → IsNext used used (shift_by_accu2 op w used)
  shift_where_order op w =
      counted_next
      (local_next (omega arith) (operand_misses used _ w)
      (local_next (omega arith) (simp order_equations (omega arith))
      (where_next _ _ (simp order_equations (omega arith)) (simp order_equations (omega arith))
      (register_next (accu1_misses used _ w _ ∙ simp order_equations (omega arith)) nothing_next))))

  signed_where_order : (w : Width) → IsNext used used (signed_by_accu2 w used)
  signed_where_order w =
      counted_next
      (local_next (omega arith) (operand_misses used _ w)
      (local_next (omega arith) (simp order_equations (omega arith))
      (local_next (omega arith) (simp order_equations (omega arith))
      (where_next _ _ (simp order_equations (omega arith)) (simp order_equations (omega arith))
      (register_next (accu1_misses used _ w _ ∙ simp order_equations (omega arith)) nothing_next)))))

  turn_where_order : (op : ShiftOp) → IsNext used used (turn_by_accu2 op used)
  turn_where_order op =
      counted_next
      (local_next (omega arith) (simp order_equations (omega arith))
      (where_next _ _ (simp order_equations (omega arith)) (simp order_equations (omega arith))
      (register_next (simp order_equations (omega arith)) nothing_next)))

  -- Sizes

  constant_sizes : (i : ShiftRow) (n : ℕ) → HasSizes used (types_by_constant i) (by_constant i n used)
  constant_sizes row.Slw n =
      with_sizes (by_constant row.Slw n used) 5 19 tt refl (simp counts) (omega arith) (omega arith) (simp order_equations (omega arith)) refl
  constant_sizes row.Srw n =
      with_sizes (by_constant row.Srw n used) 5 19 tt refl (simp counts) (omega arith) (omega arith) (simp order_equations (omega arith)) refl
  constant_sizes row.Ssi n =
      with_sizes (by_constant row.Ssi n used) 7 39 tt refl (simp counts) (omega arith) (omega arith) (signed_order width.Word n).none refl
  constant_sizes row.Sld n =
      with_sizes (by_constant row.Sld n used) 5 13 tt refl (simp counts) (omega arith) (omega arith) (simp order_equations (omega arith)) refl
  constant_sizes row.Srd n =
      with_sizes (by_constant row.Srd n used) 5 13 tt refl (simp counts) (omega arith) (omega arith) (simp order_equations (omega arith)) refl
  constant_sizes row.Ssd n =
      with_sizes (by_constant row.Ssd n used) 7 33 tt refl (simp counts) (omega arith) (omega arith) (signed_order width.Dword n).none refl
  constant_sizes row.Rld n =
      with_sizes (by_constant row.Rld n used) 5 11 tt refl (simp counts) (omega arith) (omega arith) (simp order_equations (omega arith)) refl
  constant_sizes row.Rrd n =
      with_sizes (by_constant row.Rrd n used) 5 11 tt refl (simp counts) (omega arith) (omega arith) (simp order_equations (omega arith)) refl

  accu2_sizes : (i : ShiftRow) → HasSizes used (types_by_accu2 i) (by_accu2 i used)
  accu2_sizes row.Slw =
      with_sizes (by_accu2 row.Slw used) 8 38 tt refl (simp counts) (omega arith) (omega arith) (shift_where_order shift.Shl width.Word).none refl
  accu2_sizes row.Srw =
      with_sizes (by_accu2 row.Srw used) 8 38 tt refl (simp counts) (omega arith) (omega arith) (shift_where_order shift.Shr width.Word).none refl
  accu2_sizes row.Ssi = with_sizes (by_accu2 row.Ssi used) 9 59 tt refl (simp counts) (omega arith) (omega arith) (signed_where_order width.Word).none refl
  accu2_sizes row.Sld =
      with_sizes (by_accu2 row.Sld used) 8 32 tt refl (simp counts) (omega arith) (omega arith) (shift_where_order shift.Shl width.Dword).none refl
  accu2_sizes row.Srd =
      with_sizes (by_accu2 row.Srd used) 8 32 tt refl (simp counts) (omega arith) (omega arith) (shift_where_order shift.Shr width.Dword).none refl
  accu2_sizes row.Ssd = with_sizes (by_accu2 row.Ssd used) 9 53 tt refl (simp counts) (omega arith) (omega arith) (signed_where_order width.Dword).none refl
  accu2_sizes row.Rld = with_sizes (by_accu2 row.Rld used) 7 27 tt refl (simp counts) (omega arith) (omega arith) (turn_where_order shift.Rol).none refl
  accu2_sizes row.Rrd = with_sizes (by_accu2 row.Rrd used) 7 27 tt refl (simp counts) (omega arith) (omega arith) (turn_where_order shift.Ror).none refl

  pub shift_sizes : (i : ShiftRow) (by : Option ℕ) → HasSizes used (types_of_shift i by) (shift_template used i by)
  shift_sizes i None = accu2_sizes i
  shift_sizes i (Some n) = at (n == 0)
    where
      at : (none : Bool) → HasSizes used (if none then [] else types_by_constant i) (if none then [] else by_constant i n used)
      at true = with_sizes [] 0 0 tt refl refl (omega arith) (omega arith) refl refl
      at false = constant_sizes i n

  pub rlda_sizes : HasSizes used types_through_cc1 (rlda_template used)
  rlda_sizes = with_sizes (rlda_template used) 5 14 tt refl (simp counts) (omega arith) (omega arith) (simp order_equations (omega arith)) refl

  pub rrda_sizes : HasSizes used types_through_cc1 (rrda_template used)
  rrda_sizes = with_sizes (rrda_template used) 5 16 tt refl (simp counts) (omega arith) (omega arith) (simp order_equations (omega arith)) refl
