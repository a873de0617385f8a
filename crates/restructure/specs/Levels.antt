-- How deep the statements of a unit nest, by its nodes.
-- Held against: this project's own bounds.
use Rattle.std.specs.Prelude.{◌≤◌, List}
use Rattle.graph_rules.specs.Plain.{node_statements}
use Rattle.restructure.specs.declared.structured.Structured.{Structured}
use Rattle.st_tree.specs.Nesting.{body_nesting}
use Rattle.st_tree.specs.declared.graph.StNode.{StNode}

-- where those of the nodes nest at most 64 deep, as in any plain unit, the statements nest at most 130 deep
abbrev pub IsLow : List StNode → Structured → Type 0
IsLow nodes made = body_nesting (node_statements nodes) ≤ 64 → body_nesting made.body ≤ 130
