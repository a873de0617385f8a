-- The parts of which the statements of instructions are made: expressions, and assignments to registers and locals.
use Rattle.std.specs.Prelude.{ℕ, ℤ, pos, Bool, false, List, [], ◌∷◌, if◌then◌else◌}
use Rattle.s7_base.specs.declared.register.Reg.{Reg}
use Rattle.s7_base.specs.declared.register.Reg.TheVariants as reg
use Rattle.st_tree.specs.declared.expr.StType.{StType}
use Rattle.st_tree.specs.declared.expr.StType.TheVariants as type
use Rattle.st_tree.specs.declared.expr.UnaryOp.{UnaryOp}
use Rattle.st_tree.specs.declared.expr.UnaryOp.TheVariants as unary
use Rattle.st_tree.specs.declared.expr.BinaryOp.{BinaryOp}
use Rattle.st_tree.specs.declared.expr.BinaryOp.TheVariants as binary
use Rattle.st_tree.specs.declared.expr.ShiftOp.{ShiftOp}
use Rattle.st_tree.specs.declared.expr.Var.TheVariants as var
use Rattle.st_tree.specs.declared.expr.Expr.{Expr}
use Rattle.st_tree.specs.declared.expr.Expr.TheVariants as expr
use Rattle.st_tree.specs.declared.program.Stmt.{Stmt}
use Rattle.st_tree.specs.declared.program.Stmt.TheVariants as stmt

-- Expressions

-- the value of a register
abbrev pub read_of : Reg → Expr
read_of r = expr.Read (var.Register r)

-- the value of a local
abbrev pub local_of : ℕ → Expr
local_of i = expr.Read (var.Local i)

-- a number of a type
abbrev pub constant_of : StType → ℤ → Expr
constant_of ty n = expr.Literal ty n

-- the literal TRUE or FALSE
abbrev pub literal_of : Bool → Expr
literal_of b = expr.Literal type.Bool (if b then pos 1 else pos 0)

-- an operator or a function of one operand
abbrev pub unary_of : UnaryOp → Expr → Expr
unary_of op e = expr.Unary op e

-- NOT of an operand
abbrev pub not_of : Expr → Expr
not_of e = expr.Unary unary.Not e

-- an operator between two operands
abbrev pub binary_of : BinaryOp → Expr → Expr → Expr
binary_of op e f = expr.Binary op e f

-- AND of two operands
abbrev pub and_of : Expr → Expr → Expr
and_of e f = expr.Binary binary.And e f

-- OR of two operands
abbrev pub or_of : Expr → Expr → Expr
or_of e f = expr.Binary binary.Or e f

-- XOR of two operands
abbrev pub xor_of : Expr → Expr → Expr
xor_of e f = expr.Binary binary.Xor e f

-- a conversion from a type to another
abbrev pub convert_of : StType → StType → Expr → Expr
convert_of from to e = expr.Convert from to e

-- SEL: the second of the two where the gate is TRUE
abbrev pub select_of : Expr → Expr → Expr → Expr
select_of gate e f = expr.Select gate e f

-- a shift or a rotation by a count
abbrev pub shift_of : ShiftOp → Expr → Expr → Expr
shift_of op e count = expr.Shift op e count

-- ACCU1 with a WORD for its low word
abbrev pub with_low_of : Expr → Expr
with_low_of word =
    or_of (and_of (read_of reg.Accu1) (constant_of type.Dword (pos 0xFFFF0000))) (convert_of type.Word type.Dword word)

-- Statements

-- a register takes a value
abbrev pub set_of : Reg → Expr → Stmt
set_of r e = stmt.Assign (var.Register r) e

-- a local takes a value
abbrev pub set_local_of : ℕ → Expr → Stmt
set_local_of i e = stmt.Assign (var.Local i) e

-- OR is cleared, and NFC set or not
abbrev pub clear_or : Bool → List Stmt
clear_or nfc = set_of reg.Orb (literal_of false) ∷ set_of reg.Nfc (literal_of nfc) ∷ []
