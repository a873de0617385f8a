-- The statements of BTI and BTD, by the number of their first local. The digits are read by an assignment of its own,
-- which faults where one is above 9.
use Rattle.std.specs.Prelude.{ℕ, List, [], ◌∷◌}
use Rattle.s7_base.specs.declared.register.Reg.TheVariants as reg
use Rattle.template_parts.specs.Builders.{with_low_of}
use Rattle.template_parts.specs.Builders.{convert_of, local_of, read_of, set_local_of, set_of, unary_of}
use Rattle.st_tree.specs.declared.expr.StType.{StType}
use Rattle.st_tree.specs.declared.expr.StType.TheVariants as type
use Rattle.st_tree.specs.declared.expr.UnaryOp.TheVariants as unary
use Rattle.st_tree.specs.declared.program.Stmt.{Stmt}

-- the statements of BTI: three digits of the low word
abbrev pub bti_of : ℕ → List Stmt
bti_of first =
    set_local_of first (unary_of unary.BcdToInt (convert_of type.Dword type.Word (read_of reg.Accu1)))
    ∷ set_of reg.Accu1 (with_low_of (convert_of type.Int type.Word (local_of first)))
    ∷ []

abbrev pub types_of_bti : List StType
types_of_bti = type.Int ∷ []

-- the statements of BTD: seven digits
abbrev pub btd_of : ℕ → List Stmt
btd_of first =
    set_local_of first (unary_of unary.BcdToDint (read_of reg.Accu1))
    ∷ set_of reg.Accu1 (convert_of type.Dint type.Dword (local_of first))
    ∷ []

abbrev pub types_of_btd : List StType
types_of_btd = type.Dint ∷ []
