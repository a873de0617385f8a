-- The text that is made of the nodes of a unit is short: it has few statements besides those of its blocks.
-- Held against: this project's own bounds.
use Rattle.std.specs.Prelude.{ℕ, ◌+◌, ◌*◌, ◌≤◌, List, length}
use Rattle.std.specs.List.{sum_by}
use Rattle.st_tree.specs.BodyParts.{statements_in}
use Rattle.st_tree.specs.declared.graph.StNode.{StNode}
use Rattle.st_tree.specs.declared.program.Stmt.{Stmt}
use Rattle.unit_regions.specs.MadeCharts.{ArePlain, IsMade}
use Rattle.unit_regions.specs.UnitCounts.{entries_in}

-- the most statements, at every depth, that the text of some nodes may have, with so many dispatch loops: those in the
-- steps of each node, with 24 more, and one more for each entry of its jump list; and three for each dispatch loop
abbrev pub most_statements : List StNode → ℕ → ℕ
most_statements nodes loops =
    sum_by (λ (n : StNode). length (statements_in n.steps) + 24 + entries_in n.exit) nodes + 3 * loops

-- the text that is made of plain nodes has no more
abbrev pub MadeIsShort : Type 0
MadeIsShort = (nodes : List StNode) (next : ℕ) (body : List Stmt) (loops : ℕ) → ArePlain nodes
    → IsMade nodes next body loops → length (statements_in body) ≤ most_statements nodes loops
