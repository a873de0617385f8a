-- What works on ACCU1 alone and is no matter of digits: the sign extended, bits inverted, bytes in reverse order.
use Rattle.std.specs.Prelude.{ℕ, pos, List, [], ◌∷◌}
use Rattle.accumulator_templates.specs.AccumulatorParts.{lowest_bits_of, zero_extension_of, with_low_of}
use Rattle.template_parts.specs.Builders.{constant_of, convert_of, not_of, or_of, read_of, set_of, shift_of}
use Rattle.s7_base.specs.declared.register.Reg.TheVariants as reg
use Rattle.s7_base.specs.declared.word.Width.TheVariants as width
use Rattle.st_tree.specs.declared.expr.Expr.{Expr}
use Rattle.st_tree.specs.declared.expr.ShiftOp.{ShiftOp}
use Rattle.st_tree.specs.declared.expr.ShiftOp.TheVariants as shift
use Rattle.st_tree.specs.declared.expr.StType.TheVariants as type
use Rattle.st_tree.specs.declared.program.Stmt.{Stmt}

-- a shift or a rotation by a constant
abbrev pub constant_shift_of : ShiftOp → Expr → ℕ → Expr
constant_shift_of op e n = shift_of op e (constant_of type.Int (pos n))

-- the statements of ITD
abbrev pub itd_of : List Stmt
itd_of = set_of reg.Accu1 (convert_of type.Int type.Dword (convert_of type.Dword type.Int (read_of reg.Accu1))) ∷ []

-- the statements of INVI
abbrev pub invi_of : List Stmt
invi_of = set_of reg.Accu1 (with_low_of (not_of (lowest_bits_of width.Word (read_of reg.Accu1)))) ∷ []

-- the statements of INVD
abbrev pub invd_of : List Stmt
invd_of = set_of reg.Accu1 (not_of (read_of reg.Accu1)) ∷ []

-- the statements of CAW
abbrev pub caw_of : List Stmt
caw_of =
    set_of reg.Accu1 (with_low_of (constant_shift_of shift.Rol (lowest_bits_of width.Word (read_of reg.Accu1)) 8)) ∷ []

-- the lowest byte of a DWORD, as a DWORD
abbrev pub low_byte_of : Expr → Expr
low_byte_of e = zero_extension_of width.Byte (lowest_bits_of width.Byte e)

-- the byte of ACCU1 that begins at a bit, as a DWORD
abbrev pub byte_above_of : ℕ → Expr
byte_above_of n = low_byte_of (constant_shift_of shift.Shr (read_of reg.Accu1) n)

-- the byte of ACCU1 that begins at a bit, moved to another bit
abbrev pub byte_moved_of : ℕ → ℕ → Expr
byte_moved_of from to = constant_shift_of shift.Shl (byte_above_of from) to

-- the lowest byte of ACCU1, moved to the highest byte
abbrev pub lowest_byte_moved : Expr
lowest_byte_moved = constant_shift_of shift.Shl (low_byte_of (read_of reg.Accu1)) 24

-- the bytes of ACCU1 in reverse order: the highest two, the highest three, and all four

abbrev pub two_reversed : Expr
two_reversed = or_of lowest_byte_moved (byte_moved_of 8 16)

abbrev pub three_reversed : Expr
three_reversed = or_of two_reversed (byte_moved_of 16 8)

abbrev pub reversed_value : Expr
reversed_value = or_of three_reversed (byte_above_of 24)

-- the statements of CAD
abbrev pub cad_of : List Stmt
cad_of = set_of reg.Accu1 reversed_value ∷ []
