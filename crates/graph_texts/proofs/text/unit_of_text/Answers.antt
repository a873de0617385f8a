use Rattle.std.proofs.Common.{rules, arith, subst}
use Rattle.std.proofs.lemmas.Grind.{common_steps}
use Rattle.text_shapes.specs.NodeCounts.{KeepsOff}
use Rattle.graph_texts.proofs.Shapes.{shape_of_unit}
use Rattle.graph_texts.proofs.UnitTexts.{proper_unit, unit_nodes}
use Rattle.graph_texts.proofs.text.unit_of_text.Goals as goal

pub restructure-requires : goal.restructure-requires
restructure-requires c = unit_nodes c.args.unit c.requires.plain

pub returns-clause-text : goal.returns-clause-text
returns-clause-text c =
    proper_unit c.args.unit c.in_ok-made.made c.in_ok-next.next c.in_ok-head.field-0 (first_of (search rules, grind (arith, common_steps)))
    (first_of (search rules, grind (arith, common_steps))) c.in_ok-made.ensures.right

pub returns-clause-shape : goal.returns-clause-shape
returns-clause-shape c =
    shape_of_unit c.args.unit c.in_ok-made.made c.in_ok-next.next c.in_ok-head.field-0 (first_of (search rules, grind (arith, common_steps)))
    (first_of (search rules, grind (arith, common_steps))) c.requires.plain.names
    (c.in_ok-made.ensures.shape
    (subst (λ n. KeepsOff n c.args.unit.graph.nodes) (first_of (search rules, grind (arith, common_steps))) c.requires.next))
