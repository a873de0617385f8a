-- What is promised of the statements of shifts and rotations.
use Rattle.std.specs.Prelude.{ℕ, Option}
use Rattle.template_parts.specs.Templates.{Serves}
use Rattle.shift_templates.specs.ShiftTemplates.{rlda_template, rrda_template, shift_template, types_of_shift, types_through_cc1}
use Rattle.stl_tree.specs.Accepted.{HasOperand}
use Rattle.stl_tree.specs.declared.accumulator.ShiftRow.{ShiftRow}
use Rattle.stl_tree.specs.declared.program.Op.TheVariants as op

-- the statements of each shift and rotation serve it
pub record ShiftsServe : Type 0 where
  pub shifts : (s : ShiftRow) (count : Option ℕ) → (first : ℕ)
      → Serves (op.Shift s count) first (types_of_shift s count) (shift_template first s count)
  pub left_turns : (first : ℕ) → Serves op.Rlda first types_through_cc1 (rlda_template first)
  pub right_turns : (first : ℕ) → Serves op.Rrda first types_through_cc1 (rrda_template first)
