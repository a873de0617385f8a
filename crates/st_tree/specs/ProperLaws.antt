-- What holds of each well typed expression of a tree.
use Rattle.std.specs.Prelude.{◌≡◌, Some}
use Rattle.st_tree.specs.Spelling.{names_in}
use Rattle.st_tree.specs.Typing.{type_of}
use Rattle.st_tree.specs.WellTyped.{expression_type, unit_scope_in}
use Rattle.st_tree.specs.declared.expr.Expr.{Expr}
use Rattle.st_tree.specs.declared.expr.StType.{StType}
use Rattle.st_tree.specs.declared.program.Pou.{Pou}
use Rattle.st_tree.specs.declared.program.StProgram.{StProgram}

-- the type of a well typed expression is the one in which its canonical text writes labels
abbrev pub TypesAgree : Type 0
TypesAgree =
    (tree : StProgram) (unit : Pou) (e : Expr) (ty : StType)
    → expression_type (unit_scope_in tree unit) e ≡ Some ty → type_of (names_in tree unit) e ≡ ty
