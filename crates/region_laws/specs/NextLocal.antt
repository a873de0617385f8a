-- The local `NEXT` of a unit of a text: the last one, where the unit has it. It has the position of a node, and
-- statements set it or choose by it.
-- Held against: this project's own names.
use Rattle.std.specs.Prelude.{ℕ, pos, Bool, true, false, List, [], ◌∷◌, ◌++◌, codes}
use Rattle.st_tree.specs.declared.expr.Expr.TheVariants as expr
use Rattle.st_tree.specs.declared.expr.StType.TheVariants as type
use Rattle.st_tree.specs.declared.expr.Var.TheVariants as var
use Rattle.st_tree.specs.declared.program.CaseArm.{CaseArm}
use Rattle.st_tree.specs.declared.program.Local.{Local}
use Rattle.st_tree.specs.declared.program.Stmt.{Stmt}
use Rattle.st_tree.specs.declared.program.Stmt.TheVariants as stmt

-- the local `NEXT`
abbrev pub next_local : Local
next_local = record { name = codes "NEXT"; ty = type.Dint }

-- the locals of a unit without `NEXT`, or of one that has it as its last one
abbrev pub locals_of_text : Bool → List Local → List Local
locals_of_text true locals = locals
locals_of_text false locals = locals ++ next_local ∷ []

-- `NEXT`, the local at a position, takes the position of a node
abbrev pub set_next : ℕ → ℕ → Stmt
set_next next j = stmt.Assign (var.Local next) (expr.Literal type.Dint (pos j))

-- an arm of a CASE with one label
abbrev pub arm_with_label : ℕ → List Stmt → CaseArm
arm_with_label label body = record { labels = pos label ∷ []; body = body }
