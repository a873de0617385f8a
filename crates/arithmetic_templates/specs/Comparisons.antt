-- The templates of comparisons of whole numbers.
use Rattle.std.specs.Prelude.{ℕ, ◌+◌, true, false, List, [], ◌∷◌}
use Rattle.arithmetic_templates.specs.Numbers.{narrow, number_of}
use Rattle.template_parts.specs.Builders.{binary_of, clear_or, literal_of, local_of, set_local_of, set_of}
use Rattle.s7_base.specs.declared.register.Reg.TheVariants as reg
use Rattle.s7_base.specs.declared.word.Width.{Width}
use Rattle.st_tree.specs.declared.expr.BinaryOp.TheVariants as binary
use Rattle.st_tree.specs.declared.expr.Expr.{Expr}
use Rattle.st_tree.specs.declared.expr.StType.{StType}
use Rattle.st_tree.specs.declared.program.Stmt.{Stmt}
use Rattle.status_word.specs.declared.test.Test.{Test}
use Rattle.status_word.specs.declared.test.Test.TheVariants as test

-- how two numbers compare; other tests of the status word are no comparison, and FALSE
abbrev pub comparison_of : Test → Expr → Expr → Expr
comparison_of test.Eq e f = binary_of binary.Eq e f
comparison_of test.Ne e f = binary_of binary.Ne e f
comparison_of test.Gt e f = binary_of binary.Gt e f
comparison_of test.Lt e f = binary_of binary.Lt e f
comparison_of test.Ge e f = binary_of binary.Ge e f
comparison_of test.Le e f = binary_of binary.Le e f
comparison_of other e f = literal_of false

-- the statements of ==I, <>I and their kin, and of those with D; two locals take the numbers in ACCU2 and ACCU1
abbrev pub compared_of : ℕ → Test → Width → List Stmt
compared_of first t w =
    set_local_of first (number_of w reg.Accu2)
    ∷ set_local_of (first + 1) (number_of w reg.Accu1)
    ∷ set_of reg.Rlo (comparison_of t (local_of first) (local_of (first + 1)))
    ∷ set_of reg.Cc1 (binary_of binary.Gt (local_of first) (local_of (first + 1)))
    ∷ set_of reg.Cc0 (binary_of binary.Lt (local_of first) (local_of (first + 1)))
    ∷ set_of reg.Ov (literal_of false)
    ∷ clear_or true

-- the types of the locals of a comparison
abbrev pub types_of_compared : Width → List StType
types_of_compared w = narrow w ∷ narrow w ∷ []
