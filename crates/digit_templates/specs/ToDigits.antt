-- The statements of ITB and DTB, by the number of their first local. The locals are the number, its amount, whether it
-- has too many digits, and the pattern of its digits.
use Rattle.std.specs.Prelude.{ℕ, zero, suc, ◌+◌, ◌^◌, ℤ, pos, List, [], ◌∷◌, ◌++◌}
use Rattle.s7_base.specs.declared.register.Reg.TheVariants as reg
use Rattle.template_parts.specs.Builders.{with_low_of}
use Rattle.template_parts.specs.Builders.{binary_of, constant_of, convert_of, local_of, or_of, read_of, select_of, set_local_of, set_of, unary_of}
use Rattle.st_tree.specs.declared.expr.BinaryOp.TheVariants as binary
use Rattle.st_tree.specs.declared.expr.Expr.{Expr}
use Rattle.st_tree.specs.declared.expr.StType.{StType}
use Rattle.st_tree.specs.declared.expr.StType.TheVariants as type
use Rattle.st_tree.specs.declared.expr.UnaryOp.TheVariants as unary
use Rattle.st_tree.specs.declared.program.Stmt.{Stmt}

-- The pattern of a number

-- whether a number is below 0
abbrev pub below_zero_of : StType → Expr → Expr
below_zero_of ty number = binary_of binary.Lt number (constant_of ty (pos 0))

-- one of two by the sign of a number: the second where it is below 0
abbrev pub by_sign_of : StType → Expr → Expr → Expr → Expr
by_sign_of ty number e f = select_of (below_zero_of ty number) e f

-- the amount of a number
abbrev pub amount_of : StType → Expr → Expr
amount_of ty number = by_sign_of ty number number (unary_of unary.Minus number)

-- the digit of an amount that counts as a power of ten, at its place in a pattern
abbrev pub placed_digit_of : StType → Expr → ℤ → ℤ → Expr
placed_digit_of ty amount power place =
    binary_of binary.Mul
    (binary_of binary.Mod (binary_of binary.Div amount (constant_of ty power)) (constant_of ty (pos 10)))
    (constant_of ty place)

-- a sum, and one more digit of an amount, at its place
abbrev pub with_digit_of : StType → Expr → Expr → ℤ → ℤ → Expr
with_digit_of ty amount sum power place = binary_of binary.Add sum (placed_digit_of ty amount power place)

-- the lowest digit of an amount, and this many more
abbrev pub digits_of : StType → Expr → ℕ → Expr
digits_of ty amount zero = binary_of binary.Mod amount (constant_of ty (pos 10))
digits_of ty amount (suc n) = with_digit_of ty amount (digits_of ty amount n) (pos (10 ^ suc n)) (pos (16 ^ suc n))

-- the sign digit of a number, whose pattern is 0 or this
abbrev pub sign_digit_of : StType → Expr → ℤ → Expr
sign_digit_of ty number sign = by_sign_of ty number (constant_of ty (pos 0)) (constant_of ty sign)

-- digits under the sign digit of a number
abbrev pub under_sign_of : StType → Expr → Expr → ℤ → Expr
under_sign_of ty number digits sign = binary_of binary.Add digits (sign_digit_of ty number sign)

-- The statements

-- the number, its amount, and whether that is greater than the greatest with all digits
abbrev pub measured_of : StType → ℕ → Expr → ℤ → List Stmt
measured_of ty first number greatest =
    set_local_of first number
    ∷ set_local_of (first + 1) (amount_of ty (local_of first))
    ∷ set_local_of (first + 2) (binary_of binary.Gt (local_of (first + 1)) (constant_of ty greatest))
    ∷ []

-- the pattern, and an overflow where the number has too many digits
abbrev pub noted_of : ℕ → Expr → List Stmt
noted_of first pattern =
    set_local_of (first + 3) pattern
    ∷ set_of reg.Ov (local_of (first + 2))
    ∷ set_of reg.Os (or_of (read_of reg.Os) (local_of (first + 2)))
    ∷ []

-- ACCU1 takes the value made of the pattern where the number does not have too many digits
abbrev pub taken_of : ℕ → Expr → List Stmt
taken_of first written = set_of reg.Accu1 (select_of (local_of (first + 2)) written (read_of reg.Accu1)) ∷ []

-- the pattern is noted, and ACCU1 takes what is made of it
abbrev pub written_of : ℕ → Expr → Expr → List Stmt
written_of first pattern written = noted_of first pattern ++ taken_of first written

-- the statements of ITB: the number in the low word, as a DINT, in which its amount has room
abbrev pub itb_of : ℕ → List Stmt
itb_of first =
    measured_of type.Dint first
    (convert_of type.Int type.Dint (convert_of type.Dword type.Int (read_of reg.Accu1))) (pos 999)
    ++ written_of first
    (under_sign_of type.Dint (local_of first) (digits_of type.Dint (local_of (first + 1)) 2) (pos 0xF000))
    (with_low_of (convert_of type.Dint type.Word (local_of (first + 3))))

abbrev pub types_of_itb : List StType
types_of_itb = type.Dint ∷ type.Dint ∷ type.Bool ∷ type.Dint ∷ []

-- the statements of DTB: the number in ACCU1, as a LINT
abbrev pub dtb_of : ℕ → List Stmt
dtb_of first =
    measured_of type.Lint first
    (convert_of type.Dint type.Lint (convert_of type.Dword type.Dint (read_of reg.Accu1))) (pos 9999999)
    ++ written_of first
    (under_sign_of type.Lint (local_of first) (digits_of type.Lint (local_of (first + 1)) 6) (pos 0xF0000000))
    (convert_of type.Lint type.Dword (local_of (first + 3)))

abbrev pub types_of_dtb : List StType
types_of_dtb = type.Lint ∷ type.Lint ∷ type.Bool ∷ type.Lint ∷ []
