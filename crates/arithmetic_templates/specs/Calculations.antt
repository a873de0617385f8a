-- The templates of arithmetic rows. The locals from the first on take what is used twice: the true result, which a
-- wider type has, what is left of it, the divisor, and whether there is an overflow or no divisor.
use Rattle.std.specs.Prelude.{ℕ, ◌+◌, pos, List, [], ◌∷◌, ◌++◌}
use Rattle.arithmetic_templates.specs.Numbers.{narrow_local_of, differs_of, ending_of, flags_of, narrow, negative_of, positive_of, wide, wide_number_of, with_number_of}
use Rattle.template_parts.specs.Builders.{binary_of, constant_of, convert_of, local_of, or_of, read_of, select_of, set_local_of, set_of, shift_of, unary_of}
use Rattle.s7_base.specs.declared.register.Reg.TheVariants as reg
use Rattle.s7_base.specs.declared.word.Width.{Width}
use Rattle.s7_base.specs.declared.word.Width.TheVariants as width
use Rattle.st_tree.specs.declared.expr.BinaryOp.{BinaryOp}
use Rattle.st_tree.specs.declared.expr.BinaryOp.TheVariants as binary
use Rattle.st_tree.specs.declared.expr.Expr.{Expr}
use Rattle.st_tree.specs.declared.expr.ShiftOp.TheVariants as shift
use Rattle.st_tree.specs.declared.expr.StType.{StType}
use Rattle.st_tree.specs.declared.expr.StType.TheVariants as type
use Rattle.st_tree.specs.declared.expr.UnaryOp.TheVariants as unary
use Rattle.st_tree.specs.declared.program.Stmt.{Stmt}
use Rattle.stl_tree.specs.declared.accumulator.Arith.{Arith}
use Rattle.stl_tree.specs.declared.accumulator.Arith.TheVariants as row

-- Sums, differences and products

-- an operator between the number in ACCU2 and that in ACCU1
abbrev pub operation_of : BinaryOp → Width → Expr
operation_of op w = binary_of op (wide_number_of w reg.Accu2) (wide_number_of w reg.Accu1)

-- the end of a calculation by its true result: a part of ACCU1 and the sign flags take what is left of it
abbrev pub result_of : ℕ → Width → Expr → List Stmt
result_of first w e =
    set_local_of first e
    ∷ set_local_of (first + 1) (narrow_local_of w first)
    ∷ set_local_of (first + 2) (differs_of w (local_of (first + 1)) first)
    ∷ ending_of (positive_of (narrow w) (first + 1)) (negative_of (narrow w) (first + 1))
    (first + 2) (with_number_of w (local_of (first + 1)))

-- a true product in the whole of ACCU1, whose own sign is shown
abbrev pub product_of : ℕ → Width → List Stmt
product_of first w =
    set_local_of first (operation_of binary.Mul w)
    ∷ set_local_of (first + 1) (differs_of w (narrow_local_of w first) first)
    ∷ ending_of (positive_of (wide w) first) (negative_of (wide w) first)
    (first + 1) (convert_of (wide w) type.Dword (local_of first))

-- Divisions

-- a local is 0
abbrev pub zero_of : StType → ℕ → Expr
zero_of ty i = binary_of binary.Eq (local_of i) (constant_of ty (pos 0))

-- a local, but 1 where it is 0: so no division has a fault
unfoldable pub divisor_of : StType → ℕ → Expr
divisor_of ty i = select_of (zero_of ty i) (local_of i) (constant_of ty (pos 1))

-- the number in ACCU2 divided by a local
abbrev pub division_by_local_of : BinaryOp → Width → ℕ → Expr
division_by_local_of op w i = binary_of op (wide_number_of w reg.Accu2) (divisor_of (wide w) i)

-- the quotient in a local overflows, or there is none
abbrev pub quotient_over_of : Width → ℕ → ℕ → Expr
quotient_over_of w none i = or_of (local_of none) (differs_of w (narrow_local_of w i) i)

-- a local in the high word, above zeros
abbrev pub in_high_word_of : ℕ → Expr
in_high_word_of i = shift_of shift.Shl (convert_of type.Dint type.Dword (local_of i)) (constant_of type.Int (pos 16))

-- a local in the low word, below zeros
abbrev pub in_low_word_of : ℕ → Expr
in_low_word_of i = convert_of type.Word type.Dword (convert_of type.Dint type.Word (local_of i))

-- the remainder in a local in the high word, and the quotient in another in the low one
abbrev pub both_words_of : ℕ → ℕ → Expr
both_words_of quotient remainder = or_of (in_high_word_of remainder) (in_low_word_of quotient)

-- the flags of a division: a local says that there is no divisor, and another whether OV is set; the sign flags are
-- those of a third
abbrev pub division_flags_of : Width → ℕ → ℕ → ℕ → List Stmt
division_flags_of w none over signed =
    flags_of (or_of (local_of none) (positive_of (wide w) signed))
    (or_of (local_of none) (negative_of (wide w) signed)) over

-- ACCU1 takes the result of a division, and is kept where a local says that there is no divisor
abbrev pub division_left_of : ℕ → Expr → List Stmt
division_left_of none accu1 = set_of reg.Accu1 (select_of (local_of none) accu1 (read_of reg.Accu1)) ∷ []

-- the end of a division: its flags, and ACCU1
abbrev pub division_ending_of : Width → ℕ → ℕ → ℕ → Expr → List Stmt
division_ending_of w none over signed accu1 = division_flags_of w none over signed ++ division_left_of none accu1

-- the beginning of all divisions: the divisor, and whether it is 0
unfoldable pub divisor_kept_of : ℕ → Width → List Stmt
divisor_kept_of first w =
    set_local_of first (wide_number_of w reg.Accu1) ∷ set_local_of (first + 1) (zero_of (wide w) first) ∷ []

-- the statements of /I: the quotient and the remainder
unfoldable pub quotient_in_words_of : ℕ → List Stmt
quotient_in_words_of first =
    set_local_of (first + 2) (division_by_local_of binary.Div width.Word first)
    ∷ set_local_of (first + 3) (division_by_local_of binary.Mod width.Word first)
    ∷ set_local_of (first + 4) (quotient_over_of width.Word (first + 1) (first + 2))
    ∷ division_ending_of width.Word (first + 1) (first + 4) (first + 2) (both_words_of (first + 2) (first + 3))

-- the statements of /D: the quotient
unfoldable pub quotient_in_dword_of : ℕ → List Stmt
quotient_in_dword_of first =
    set_local_of (first + 2) (division_by_local_of binary.Div width.Dword first)
    ∷ set_local_of (first + 3) (quotient_over_of width.Dword (first + 1) (first + 2))
    ∷ division_ending_of width.Dword (first + 1) (first + 3) (first + 2)
    (convert_of type.Lint type.Dword (local_of (first + 2)))

-- the statements of MOD: the remainder, whose one overflow is that there is no divisor
unfoldable pub remainder_in_dword_of : ℕ → List Stmt
remainder_in_dword_of first =
    set_local_of (first + 2) (division_by_local_of binary.Mod width.Dword first)
    ∷ division_ending_of width.Dword (first + 1) (first + 1) (first + 2)
    (convert_of type.Lint type.Dword (local_of (first + 2)))

-- Instructions

-- the statements of each arithmetic instruction
abbrev pub calculated_of : ℕ → Arith → List Stmt
calculated_of first row.AddI = result_of first width.Word (operation_of binary.Add width.Word)
calculated_of first row.SubI = result_of first width.Word (operation_of binary.Sub width.Word)
calculated_of first row.MulI = product_of first width.Word
calculated_of first row.DivI = divisor_kept_of first width.Word ++ quotient_in_words_of first
calculated_of first row.AddD = result_of first width.Dword (operation_of binary.Add width.Dword)
calculated_of first row.SubD = result_of first width.Dword (operation_of binary.Sub width.Dword)
calculated_of first row.MulD = product_of first width.Dword
calculated_of first row.DivD = divisor_kept_of first width.Dword ++ quotient_in_dword_of first
calculated_of first row.Mod = divisor_kept_of first width.Dword ++ remainder_in_dword_of first

-- the statements of NEGI and NEGD
abbrev pub negated_of : ℕ → Width → List Stmt
negated_of first w = result_of first w (unary_of unary.Minus (wide_number_of w reg.Accu1))

-- The types of the locals

abbrev pub types_of_calculated : Arith → List StType
types_of_calculated row.AddI = type.Dint ∷ type.Int ∷ type.Bool ∷ []
types_of_calculated row.SubI = type.Dint ∷ type.Int ∷ type.Bool ∷ []
types_of_calculated row.MulI = type.Dint ∷ type.Bool ∷ []
types_of_calculated row.DivI = type.Dint ∷ type.Bool ∷ type.Dint ∷ type.Dint ∷ type.Bool ∷ []
types_of_calculated row.AddD = type.Lint ∷ type.Dint ∷ type.Bool ∷ []
types_of_calculated row.SubD = type.Lint ∷ type.Dint ∷ type.Bool ∷ []
types_of_calculated row.MulD = type.Lint ∷ type.Bool ∷ []
types_of_calculated row.DivD = type.Lint ∷ type.Bool ∷ type.Lint ∷ type.Bool ∷ []
types_of_calculated row.Mod = type.Lint ∷ type.Bool ∷ type.Lint ∷ []

abbrev pub types_of_negated : Width → List StType
types_of_negated w = wide w ∷ narrow w ∷ type.Bool ∷ []
