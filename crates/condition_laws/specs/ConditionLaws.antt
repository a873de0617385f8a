-- Laws of the tree that is made of a proper one.
use Rattle.std.specs.Prelude.{ℕ, List, Option}
use Rattle.condition_laws.specs.Elsif.{AllHaveElsif}
use Rattle.condition_laws.specs.Kept.{KeepsHeads}
use Rattle.condition_laws.specs.NoLarger.{HasNoLarger, IsNoLarger}
use Rattle.condition_laws.specs.SameRuns.{RunsAlike}
use Rattle.condition_laws.specs.inner.Rewriting.{rewrite_program}
use Rattle.st_tree.specs.Proper.{Proper}
use Rattle.st_tree.specs.declared.program.StProgram.{StProgram}
use Rattle.st_tree.specs.declared.program.Stmt.{Stmt}
use Rattle.stl_tree.specs.Flows.{Flow}
use Rattle.text_shapes.specs.IsShaped.{IsShaped}

-- it is proper
abbrev pub MadeIsProper : Type 0
MadeIsProper = (tree : StProgram) → Proper tree → Proper (rewrite_program tree)

-- it keeps all but statements
abbrev pub MadeIsKept : Type 0
MadeIsKept = (tree : StProgram) → KeepsHeads tree (rewrite_program tree)

-- it runs as that one does
abbrev pub MadeRunsAlike : Type 0
MadeRunsAlike = (tree : StProgram) → Proper tree → RunsAlike tree (rewrite_program tree)

-- its bodies are no larger
abbrev pub MadeIsNoLarger : Type 0
MadeIsNoLarger = (tree : StProgram) → HasNoLarger tree (rewrite_program tree)

-- a body that is no larger than one with a shape has that shape too
abbrev pub NoLargerIsShaped : Type 0
NoLargerIsShaped = (flow : Flow) (conditionals lists : ℕ) (next : Option ℕ) (old new : List Stmt)
    → IsNoLarger old new → IsShaped flow conditionals lists next old → IsShaped flow conditionals lists next new

-- no IF of it has an IF alone after its ELSE
abbrev pub MadeHasElsif : Type 0
MadeHasElsif = (tree : StProgram) → AllHaveElsif (rewrite_program tree)
