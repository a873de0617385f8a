-- The parts of which the statements of shifts and rotations are made.
use Rattle.std.specs.Prelude.{ℕ, ◌+◌, pos, false, List, [], ◌∷◌, ◌++◌}
use Rattle.template_parts.specs.Builders.{and_of, binary_of, constant_of, convert_of, literal_of, local_of, not_of, or_of, read_of, select_of, set_local_of, set_of, shift_of}
use Rattle.s7_base.specs.declared.register.Reg.{Reg}
use Rattle.s7_base.specs.declared.register.Reg.TheVariants as reg
use Rattle.s7_base.specs.declared.word.Width.{Width}
use Rattle.s7_base.specs.declared.word.Width.TheVariants as width
use Rattle.st_tree.specs.Values.{type_of_width}
use Rattle.st_tree.specs.declared.expr.BinaryOp.TheVariants as binary
use Rattle.st_tree.specs.declared.expr.Expr.{Expr}
use Rattle.st_tree.specs.declared.expr.ShiftOp.{ShiftOp}
use Rattle.st_tree.specs.declared.expr.ShiftOp.TheVariants as shift
use Rattle.st_tree.specs.declared.expr.StType.TheVariants as type
use Rattle.st_tree.specs.declared.program.Stmt.{Stmt}

-- Patterns

-- what is shifted: the low word of ACCU1, or the whole of it
abbrev pub operand_of : Width → Expr
operand_of width.Word = convert_of type.Dword type.Word (read_of reg.Accu1)
operand_of other = read_of reg.Accu1

-- ACCU1 with a pattern in the place of what was shifted
abbrev pub accu1_with : Width → Expr → Expr
accu1_with width.Word e =
    or_of (and_of (read_of reg.Accu1) (constant_of type.Dword (pos 0xFFFF0000))) (convert_of type.Word type.Dword e)
accu1_with other e = e

-- the highest bit of a width
abbrev pub top_bit : Width → ℕ
top_bit width.Word = 0x8000
top_bit other = 0x80000000

-- the bit that shows what was shifted out last: a shift has it at that end before its last step, a rotation at the
-- other end after it
abbrev pub shown_bit : ShiftOp → Width → ℕ
shown_bit shift.Shl w = top_bit w
shown_bit shift.Shr w = 1
shown_bit shift.Rol w = 1
shown_bit shift.Ror w = top_bit w

-- a pattern of a width has this bit
abbrev pub has_bit : Width → ℕ → Expr → Expr
has_bit w bit e =
    binary_of binary.Ne (and_of e (constant_of (type_of_width w) (pos bit))) (constant_of (type_of_width w) (pos 0))

-- a pattern shifted to the right with its sign: a negative one has its bits inverted before and after it
abbrev pub signed_shift : Expr → Expr → Expr → Expr
signed_shift sign e count = select_of sign (shift_of shift.Shr e count) (not_of (shift_of shift.Shr (not_of e) count))

-- Counts

-- a count as a constant
abbrev pub count_of : ℕ → Expr
count_of n = constant_of type.Int (pos n)

-- the lowest byte of ACCU2
abbrev pub count_in_accu2 : Expr
count_in_accu2 = convert_of type.Dword type.Int (and_of (read_of reg.Accu2) (constant_of type.Dword (pos 0xFF)))

-- a count less one
abbrev pub one_less : Expr → Expr
one_less count = binary_of binary.Sub count (count_of 1)

-- Statements

-- a local takes the count, and the next one whether there is a step
abbrev pub count_locals : ℕ → List Stmt
count_locals first =
    set_local_of first count_in_accu2
    ∷ set_local_of (first + 1) (binary_of binary.Ne (local_of first) (count_of 0))
    ∷ []

-- the flags show what was shifted out last
abbrev pub flags_set : Expr → List Stmt
flags_set out = set_of reg.Cc1 out ∷ set_of reg.Cc0 (literal_of false) ∷ set_of reg.Ov (literal_of false) ∷ []

-- a flag is cleared where there is a step
abbrev pub cleared_where : Expr → Reg → List Stmt
cleared_where stepped flag = set_of flag (and_of (read_of flag) (not_of stepped)) ∷ []

-- the flags show what was shifted out last where there is a step, and else stay as they are
abbrev pub flags_set_where : Expr → Expr → List Stmt
flags_set_where stepped out =
    set_of reg.Cc1 (select_of stepped (read_of reg.Cc1) out)
    ∷ (cleared_where stepped reg.Cc0 ++ cleared_where stepped reg.Ov)

-- locals take what is shifted and its sign
abbrev pub signed_operand : Width → ℕ → ℕ → List Stmt
signed_operand w pattern sign =
    set_local_of pattern (operand_of w) ∷ set_local_of sign (has_bit w (top_bit w) (local_of pattern)) ∷ []

-- ACCU1 takes a local's pattern, shifted with its sign
abbrev pub signed_result : Width → ℕ → ℕ → Expr → List Stmt
signed_result w pattern sign count =
    set_of reg.Accu1 (accu1_with w (signed_shift (local_of sign) (local_of pattern) count)) ∷ []
