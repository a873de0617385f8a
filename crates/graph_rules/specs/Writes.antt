-- Statements that write one thing each.
use Rattle.std.specs.Prelude.{List, [], ◌∷◌}
use Rattle.st_tree.specs.declared.program.Stmt.{Stmt}
use Rattle.st_tree.specs.declared.program.Stmt.TheVariants as stmt

-- each of some statements is an assignment or an area write
abbrev pub AreWrites : List Stmt → Type 0
AreWrites [] = Unit {0}
AreWrites (stmt.Assign v e ∷ rest) = AreWrites rest
AreWrites (stmt.AreaWrite w p e ∷ rest) = AreWrites rest
AreWrites (other ∷ rest) = ⊥
