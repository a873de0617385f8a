-- The statements of a unit are few, by its nodes.
-- Held against: this project's own bounds.
use Rattle.std.specs.Prelude.{◌≤◌, List, length}
use Rattle.restructure.specs.declared.structured.Structured.{Structured}
use Rattle.shape_laws.specs.Lengths.{most_statements}
use Rattle.st_tree.specs.BodyParts.{statements_in}
use Rattle.st_tree.specs.declared.graph.StNode.{StNode}

-- there are no more statements, at every depth, than those in the steps of the nodes and a few for each node, for each
-- entry of a jump list and for each loop over the selector
abbrev pub IsShort : List StNode → Structured → Type 0
IsShort nodes made = length (statements_in made.body) ≤ most_statements nodes made.selectors
