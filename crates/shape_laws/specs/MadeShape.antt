-- The text that is made of the nodes of a unit has the shape that its blocks allow.
use Rattle.std.specs.Prelude.{◌≡◌, ◌≢◌, ℕ, pos, false, ◌==◌, if◌then◌else◌, List, [], ◌∷◌, Some, None}
use Rattle.st_tree.specs.declared.expr.Expr.TheVariants as expr
use Rattle.st_tree.specs.declared.expr.StType.TheVariants as type
use Rattle.st_tree.specs.declared.graph.StExit.{StExit}
use Rattle.st_tree.specs.declared.graph.StExit.TheVariants as exit
use Rattle.st_tree.specs.declared.graph.StNode.{StNode}
use Rattle.st_tree.specs.declared.program.Stmt.{Stmt}
use Rattle.graph_rules.specs.Flow.{flow_of}
use Rattle.text_shapes.specs.IsShaped.{IsShaped}
use Rattle.text_shapes.specs.NodeCounts.{KeepsOff, conditionals_of, lists_of}
use Rattle.text_shapes.specs.Shape.{count_in, selector_cases}
use Rattle.unit_regions.specs.MadeCharts.{ArePlain, IsMade}

-- where nodes leave the local alone that is to be the selector, the text made of them has the shape of their blocks,
-- with a selector if there are dispatch loops, and a CASE over it for each of these
abbrev pub MadeHasShape : Type 0
MadeHasShape = (nodes : List StNode) (next : ℕ) (body : List Stmt) (loops : ℕ) → nodes ≢ [] → ArePlain nodes
    → KeepsOff next nodes → IsMade nodes next body loops
    → IsShaped (flow_of nodes) (conditionals_of nodes) (lists_of nodes) (if loops == 0 then None else Some next) body
    × (count_in (selector_cases (Some next)) body ≡ loops)

-- A worked unit: a block with a jump list that leads to it again or to the next block, which jumps back. Its segment is
-- not well nested

abbrev pub worked_exit : StExit
worked_exit = exit.Table (expr.Literal type.Int (pos 0)) (0 ∷ []) 1

abbrev pub worked_nodes : List StNode
worked_nodes =
    record { steps = []; exit = worked_exit; only_end = false }
    ∷ record { steps = []; exit = exit.Jump 0; only_end = false } ∷ []

-- all that the law asks holds of it, with one dispatch loop
pub record IsExample (nodes : List StNode) (next loops : ℕ) : Type 0 where
  pub some : nodes ≢ []
  pub plain : ArePlain nodes
  pub off : KeepsOff next nodes
  pub body : List Stmt
  pub made : IsMade nodes next body loops

abbrev pub WorkedUnitIsMade : Type 0
WorkedUnitIsMade = (next : ℕ) → IsExample worked_nodes next 1
