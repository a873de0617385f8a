use Rattle.graph_texts.specs.Shapes.{HaveShapes}
use Rattle.region_types.specs.ProperLaw.{AreProperTexts}
use Rattle.graph_texts.proofs.text.tree_of.Given as goal

abbrev pub invariant-loop-unit : goal.invariant-loop-unit
invariant-loop-unit l = AreProperTexts l.yielded l.pous × HaveShapes l.yielded l.pous
