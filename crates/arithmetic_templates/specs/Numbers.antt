-- The parts of which templates of calculations are made: numbers of a width and wider ones, and what ends a
-- calculation.
pub use Rattle.template_parts.specs.Builders.{with_low_of}
use Rattle.std.specs.Prelude.{ℕ, pos, List, [], ◌∷◌, ◌++◌}
use Rattle.template_parts.specs.Builders.{binary_of, constant_of, convert_of, local_of, or_of, read_of, set_of}
use Rattle.s7_base.specs.declared.register.Reg.{Reg}
use Rattle.s7_base.specs.declared.register.Reg.TheVariants as reg
use Rattle.s7_base.specs.declared.word.Width.{Width}
use Rattle.s7_base.specs.declared.word.Width.TheVariants as width
use Rattle.st_tree.specs.declared.expr.BinaryOp.TheVariants as binary
use Rattle.st_tree.specs.declared.expr.Expr.{Expr}
use Rattle.st_tree.specs.declared.expr.StType.{StType}
use Rattle.st_tree.specs.declared.expr.StType.TheVariants as type
use Rattle.st_tree.specs.declared.program.Stmt.{Stmt}

-- the type of the numbers of a width
abbrev pub narrow : Width → StType
narrow width.Dword = type.Dint
narrow other = type.Int

-- the type that has each sum, difference, product and quotient of two numbers of a width
abbrev pub wide : Width → StType
wide width.Dword = type.Lint
wide other = type.Dint

-- Expressions

-- the number in an accumulator
abbrev pub number_of : Width → Reg → Expr
number_of w r = convert_of type.Dword (narrow w) (read_of r)

-- the number in an accumulator, in the wider type
abbrev pub wide_number_of : Width → Reg → Expr
wide_number_of w r = convert_of (narrow w) (wide w) (number_of w r)

-- the number of a local of the wider type, cut to the width
abbrev pub narrow_local_of : Width → ℕ → Expr
narrow_local_of w i = convert_of (wide w) (narrow w) (local_of i)

-- the number of a local of the wider type is not the one cut to the width
abbrev pub differs_of : Width → Expr → ℕ → Expr
differs_of w cut i = binary_of binary.Ne (convert_of (narrow w) (wide w) cut) (local_of i)

-- a local is above zero
abbrev pub positive_of : StType → ℕ → Expr
positive_of ty i = binary_of binary.Gt (local_of i) (constant_of ty (pos 0))

-- a local is below zero
abbrev pub negative_of : StType → ℕ → Expr
negative_of ty i = binary_of binary.Lt (local_of i) (constant_of ty (pos 0))

-- ACCU1 with a number of a width
abbrev pub with_number_of : Width → Expr → Expr
with_number_of width.Dword e = convert_of type.Dint type.Dword e
with_number_of other e = with_low_of (convert_of type.Int type.Word e)

-- Statements

-- OV and OS by a local that says whether a calculation overflowed
abbrev pub overflow_of : ℕ → List Stmt
overflow_of over = set_of reg.Ov (local_of over) ∷ set_of reg.Os (or_of (read_of reg.Os) (local_of over)) ∷ []

-- the flags of a calculation: CC1 and CC0, and those of an overflow
abbrev pub flags_of : Expr → Expr → ℕ → List Stmt
flags_of cc1 cc0 over = set_of reg.Cc1 cc1 ∷ set_of reg.Cc0 cc0 ∷ overflow_of over

-- the end of a calculation: its flags, and ACCU1
abbrev pub ending_of : Expr → Expr → ℕ → Expr → List Stmt
ending_of cc1 cc0 over accu1 = flags_of cc1 cc0 over ++ (set_of reg.Accu1 accu1 ∷ [])
