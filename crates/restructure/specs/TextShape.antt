-- The shape of the statements of a unit, by its nodes.
-- Held against: this project's own readable texts.
use Rattle.std.specs.Prelude.{◌≡◌, ℕ, if◌then◌else◌, List, Some, None}
use Rattle.graph_rules.specs.Flow.{flow_of}
use Rattle.restructure.specs.Structures.{needs_no_selector}
use Rattle.restructure.specs.declared.structured.Structured.{Structured}
use Rattle.st_tree.specs.declared.graph.StNode.{StNode}
use Rattle.text_shapes.specs.IsShaped.{IsShaped}
use Rattle.text_shapes.specs.NodeCounts.{conditionals_of, lists_of}
use Rattle.text_shapes.specs.Shape.{count_in, selector_cases}

-- the statements have the shape that the nodes allow, with the selector where some of them choose by it
abbrev pub HasShape : List StNode → ℕ → Structured → Type 0
HasShape nodes selector made =
    IsShaped (flow_of nodes) (conditionals_of nodes) (lists_of nodes)
    (if needs_no_selector made then None else Some selector) made.body

-- so many CASE statements choose by the selector as are counted
abbrev pub HasSelectors : ℕ → Structured → Type 0
HasSelectors selector made = count_in (selector_cases (Some selector)) made.body ≡ made.selectors
