use Rattle.std.proofs.Common.{rules, arith}
use Rattle.std.proofs.lemmas.Grind.{common_steps}
use Rattle.graph_texts.proofs.Shapes.{one_shape_more}
use Rattle.graph_texts.proofs.UnitTexts.{one_more}
use Rattle.graph_texts.proofs.text.tree_of.Goals as goal

pub loop-unit-preserved : goal.loop-unit-preserved
loop-unit-preserved c = (
  one_more c.loop-unit.yielded c.loop-unit.pous c.in-Some.unit c.in_ok-unit_of_text.field-0 c.push.new.self
      (first_of (search rules, grind (arith, common_steps))) c.loop-unit.invariant.0 c.in_ok-unit_of_text.ensures.text,
  one_shape_more c.loop-unit.yielded c.loop-unit.pous c.in-Some.unit c.in_ok-unit_of_text.field-0 c.push.new.self
      (first_of (search rules, grind (arith, common_steps))) c.loop-unit.invariant.1 c.in_ok-unit_of_text.ensures.shape,
)
