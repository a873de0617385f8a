-- A constant added to a part of ACCU1, or taken from it.
use Rattle.std.specs.Prelude.{ℕ, ℤ, pos, if◌then◌else◌, List, [], ◌∷◌}
use Rattle.std.specs.Ordering.{int_eq}
use Rattle.accumulator_templates.specs.AccumulatorParts.{with_byte_of, with_low_of}
use Rattle.template_parts.specs.Builders.{binary_of, constant_of, convert_of, read_of, set_of}
use Rattle.s7_base.specs.declared.register.Reg.TheVariants as reg
use Rattle.st_tree.specs.declared.expr.BinaryOp.{BinaryOp}
use Rattle.st_tree.specs.declared.expr.BinaryOp.TheVariants as binary
use Rattle.st_tree.specs.declared.expr.Expr.{Expr}
use Rattle.st_tree.specs.declared.expr.StType.{StType}
use Rattle.st_tree.specs.declared.expr.StType.TheVariants as type
use Rattle.st_tree.specs.declared.program.Stmt.{Stmt}

-- ACCU1 as a number of a type, with a constant, as a pattern of another type
abbrev pub sum_of : BinaryOp → StType → StType → ℤ → Expr
sum_of op number pattern n =
    convert_of number pattern (binary_of op (convert_of type.Dword number (read_of reg.Accu1)) (constant_of number n))

-- ACCU1 takes a value; but a constant 0 leaves it, and then nothing is read
abbrev pub unless_zero : ℤ → Expr → List Stmt
unless_zero n e = if int_eq n (pos 0) then [] else set_of reg.Accu1 e ∷ []

-- the statements of + n
abbrev pub add_word_of : ℤ → List Stmt
add_word_of n = unless_zero n (with_low_of (sum_of binary.Add type.Int type.Word n))

-- the statements of + L#n
abbrev pub add_dword_of : ℤ → List Stmt
add_dword_of n = unless_zero n (sum_of binary.Add type.Dint type.Dword n)

-- a constant added to the lowest byte of ACCU1, or subtracted from it
abbrev pub byte_sum_of : BinaryOp → ℕ → List Stmt
byte_sum_of op n = unless_zero (pos n) (with_byte_of (sum_of op type.Int type.Byte (pos n)))

-- the statements of INC
abbrev pub inc_of : ℕ → List Stmt
inc_of n = byte_sum_of binary.Add n

-- the statements of DEC
abbrev pub dec_of : ℕ → List Stmt
dec_of n = byte_sum_of binary.Sub n
