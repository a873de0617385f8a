-- The shape of each unit's text, by the nodes of the unit.
-- Held against: this project's own readable texts.
use Rattle.std.specs.Prelude.{List, [], ◌∷◌}
use Rattle.graph_rules.specs.Flow.{flow_of}
use Rattle.graph_texts.specs.NextOf.{next_of}
use Rattle.st_tree.specs.declared.graph.GraphPou.{GraphPou}
use Rattle.st_tree.specs.declared.program.Pou.{Pou}
use Rattle.text_shapes.specs.IsShaped.{IsShaped}
use Rattle.text_shapes.specs.NodeCounts.{conditionals_of, lists_of}

-- the statements of a text have the shape that the nodes of a unit allow
abbrev pub HasShapeOf : GraphPou → Pou → Type 0
HasShapeOf unit text =
    IsShaped (flow_of unit.graph.nodes) (conditionals_of unit.graph.nodes) (lists_of unit.graph.nodes)
    (next_of text.locals) text.body

-- there is a text for each unit, in the same order
abbrev pub HaveShapes : List GraphPou → List Pou → Type 0
HaveShapes [] [] = Unit {0}
HaveShapes [] (text ∷ texts) = ⊥
HaveShapes (unit ∷ units) [] = ⊥
HaveShapes (unit ∷ units) (text ∷ texts) = HasShapeOf unit text × HaveShapes units texts
