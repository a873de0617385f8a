-- The statements of shifts and rotations, and the types of the locals that they take.
use Rattle.std.specs.Prelude.{ℕ, ◌+◌, ◌-◌, ◌==◌, if◌then◌else◌, pos, List, [], ◌∷◌, ◌++◌, Option, Some, None}
use Rattle.template_parts.specs.Builders.{constant_of, convert_of, local_of, or_of, read_of, select_of, set_local_of, set_of, shift_of}
use Rattle.s7_base.specs.declared.register.Reg.TheVariants as reg
use Rattle.s7_base.specs.declared.word.Width.{Width}
use Rattle.s7_base.specs.declared.word.Width.TheVariants as width
use Rattle.shift_templates.specs.ShiftParts.{accu1_with, count_of, count_locals, flags_set, flags_set_where, has_bit, one_less, operand_of, shown_bit, signed_operand, signed_result, signed_shift}
use Rattle.st_tree.specs.declared.expr.Expr.{Expr}
use Rattle.st_tree.specs.declared.expr.ShiftOp.{ShiftOp}
use Rattle.st_tree.specs.declared.expr.ShiftOp.TheVariants as shift
use Rattle.st_tree.specs.declared.expr.StType.{StType}
use Rattle.st_tree.specs.declared.expr.StType.TheVariants as type
use Rattle.st_tree.specs.declared.program.Stmt.{Stmt}
use Rattle.stl_tree.specs.declared.accumulator.ShiftRow.{ShiftRow}
use Rattle.stl_tree.specs.declared.accumulator.ShiftRow.TheVariants as row

-- By a constant, which is not 0

-- the statements of SLW, SRW, SLD and SRD: a local keeps the pattern after all steps but the last
abbrev pub shift_by_constant : ShiftOp → Width → ℕ → ℕ → List Stmt
shift_by_constant op w n first =
    set_local_of first (shift_of op (operand_of w) (count_of (n - 1)))
    ∷ (flags_set (has_bit w (shown_bit op w) (local_of first))
    ++ (set_of reg.Accu1 (accu1_with w (shift_of op (local_of first) (count_of 1))) ∷ []))

-- the statements of SSI and SSD: locals keep the pattern, its sign, which no step changes, and the pattern after all
-- steps but the last
abbrev pub signed_by_constant : Width → ℕ → ℕ → List Stmt
signed_by_constant w n first =
    signed_operand w first (first + 1)
    ++ (set_local_of (first + 2) (signed_shift (local_of (first + 1)) (local_of first) (count_of (n - 1)))
    ∷ (flags_set (has_bit w 1 (local_of (first + 2)))
    ++ signed_result w (first + 2) (first + 1) (count_of 1)))

-- the statements of RLD and RRD: a local keeps the pattern after all steps
abbrev pub turn_by_constant : ShiftOp → ℕ → ℕ → List Stmt
turn_by_constant op n first =
    set_local_of first (shift_of op (read_of reg.Accu1) (count_of n))
    ∷ (flags_set (has_bit width.Dword (shown_bit op width.Dword) (local_of first))
    ++ (set_of reg.Accu1 (local_of first) ∷ []))

abbrev pub by_constant : ShiftRow → ℕ → ℕ → List Stmt
by_constant row.Slw n first = shift_by_constant shift.Shl width.Word n first
by_constant row.Srw n first = shift_by_constant shift.Shr width.Word n first
by_constant row.Ssi n first = signed_by_constant width.Word n first
by_constant row.Sld n first = shift_by_constant shift.Shl width.Dword n first
by_constant row.Srd n first = shift_by_constant shift.Shr width.Dword n first
by_constant row.Ssd n first = signed_by_constant width.Dword n first
by_constant row.Rld n first = turn_by_constant shift.Rol n first
by_constant row.Rrd n first = turn_by_constant shift.Ror n first

abbrev pub types_by_constant : ShiftRow → List StType
types_by_constant row.Slw = type.Word ∷ []
types_by_constant row.Srw = type.Word ∷ []
types_by_constant row.Ssi = type.Word ∷ type.Bool ∷ type.Word ∷ []
types_by_constant row.Sld = type.Dword ∷ []
types_by_constant row.Srd = type.Dword ∷ []
types_by_constant row.Ssd = type.Dword ∷ type.Bool ∷ type.Dword ∷ []
types_by_constant row.Rld = type.Dword ∷ []
types_by_constant row.Rrd = type.Dword ∷ []

-- By ACCU2, where the count may be 0. The count less one is then below 0, and a shift by it does not change its
-- pattern

-- the statements of SLW, SRW, SLD and SRD: after the count locals keep the pattern, and the pattern after all steps
-- but the last
abbrev pub shift_by_accu2 : ShiftOp → Width → ℕ → List Stmt
shift_by_accu2 op w first =
    count_locals first
    ++ (set_local_of (first + 2) (operand_of w)
    ∷ set_local_of (first + 3) (shift_of op (local_of (first + 2)) (one_less (local_of first)))
    ∷ (flags_set_where (local_of (first + 1)) (has_bit w (shown_bit op w) (local_of (first + 3)))
    ++ (set_of reg.Accu1 (accu1_with w (shift_of op (local_of (first + 2)) (local_of first))) ∷ [])))

-- the statements of SSI and SSD: after the count locals keep the pattern, its sign, and the pattern after all steps
-- but the last
abbrev pub signed_by_accu2 : Width → ℕ → List Stmt
signed_by_accu2 w first =
    count_locals first
    ++ (signed_operand w (first + 2) (first + 3)
    ++ (set_local_of (first + 4)
    (signed_shift (local_of (first + 3)) (local_of (first + 2)) (one_less (local_of first)))
    ∷ (flags_set_where (local_of (first + 1)) (has_bit w 1 (local_of (first + 4)))
    ++ signed_result w (first + 2) (first + 3) (local_of first))))

-- the statements of RLD and RRD: after the count a local keeps the pattern after all steps
abbrev pub turn_by_accu2 : ShiftOp → ℕ → List Stmt
turn_by_accu2 op first =
    count_locals first
    ++ (set_local_of (first + 2) (shift_of op (read_of reg.Accu1) (local_of first))
    ∷ (flags_set_where (local_of (first + 1)) (has_bit width.Dword (shown_bit op width.Dword) (local_of (first + 2)))
    ++ (set_of reg.Accu1 (local_of (first + 2)) ∷ [])))

abbrev pub by_accu2 : ShiftRow → ℕ → List Stmt
by_accu2 row.Slw first = shift_by_accu2 shift.Shl width.Word first
by_accu2 row.Srw first = shift_by_accu2 shift.Shr width.Word first
by_accu2 row.Ssi first = signed_by_accu2 width.Word first
by_accu2 row.Sld first = shift_by_accu2 shift.Shl width.Dword first
by_accu2 row.Srd first = shift_by_accu2 shift.Shr width.Dword first
by_accu2 row.Ssd first = signed_by_accu2 width.Dword first
by_accu2 row.Rld first = turn_by_accu2 shift.Rol first
by_accu2 row.Rrd first = turn_by_accu2 shift.Ror first

abbrev pub types_by_accu2 : ShiftRow → List StType
types_by_accu2 row.Slw = type.Int ∷ type.Bool ∷ type.Word ∷ type.Word ∷ []
types_by_accu2 row.Srw = type.Int ∷ type.Bool ∷ type.Word ∷ type.Word ∷ []
types_by_accu2 row.Ssi = type.Int ∷ type.Bool ∷ type.Word ∷ type.Bool ∷ type.Word ∷ []
types_by_accu2 row.Sld = type.Int ∷ type.Bool ∷ type.Dword ∷ type.Dword ∷ []
types_by_accu2 row.Srd = type.Int ∷ type.Bool ∷ type.Dword ∷ type.Dword ∷ []
types_by_accu2 row.Ssd = type.Int ∷ type.Bool ∷ type.Dword ∷ type.Bool ∷ type.Dword ∷ []
types_by_accu2 row.Rld = type.Int ∷ type.Bool ∷ type.Dword ∷ []
types_by_accu2 row.Rrd = type.Int ∷ type.Bool ∷ type.Dword ∷ []

-- By either

-- the statements of a shift or a rotation, whose locals are those from this one on; none by the constant 0
abbrev pub shift_template : ℕ → ShiftRow → Option ℕ → List Stmt
shift_template first s None = by_accu2 s first
shift_template first s (Some n) = if n == 0 then [] else by_constant s n first

abbrev pub types_of_shift : ShiftRow → Option ℕ → List StType
types_of_shift s None = types_by_accu2 s
types_of_shift s (Some n) = if n == 0 then [] else types_by_constant s

-- Through CC1

-- a local keeps CC1, and the flags show the bit that leaves ACCU1
abbrev pub leaving : ShiftOp → ℕ → List Stmt
leaving op first =
    set_local_of first (read_of reg.Cc1)
    ∷ flags_set (has_bit width.Dword (shown_bit op width.Dword) (read_of reg.Accu1))

-- ACCU1 takes its pattern after one step, with the bit that enters it
abbrev pub step_with_entry : ShiftOp → Expr → List Stmt
step_with_entry op entering = set_of reg.Accu1 (or_of (shift_of op (read_of reg.Accu1) (count_of 1)) entering) ∷ []

-- the statements of RLDA and RRDA: what enters is the CC1 of before
abbrev pub through_cc1 : ShiftOp → Expr → ℕ → List Stmt
through_cc1 op entering first = leaving op first ++ step_with_entry op entering

abbrev pub rlda_template : ℕ → List Stmt
rlda_template first = through_cc1 shift.Shl (convert_of type.Bool type.Dword (local_of first)) first

abbrev pub rrda_template : ℕ → List Stmt
rrda_template first =
    through_cc1 shift.Shr
    (select_of (local_of first) (constant_of type.Dword (pos 0)) (constant_of type.Dword (pos 0x80000000))) first

-- the types of the locals of RLDA and RRDA
abbrev pub types_through_cc1 : List StType
types_through_cc1 = type.Bool ∷ []
