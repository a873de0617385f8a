-- The units of a text have the shapes that the blocks of the program allow.
use Rattle.std.proofs.Common.{List, [], ◌∷◌, length, subst}
use Rattle.flow_graph.specs.Graphs.{flow_of}
use Rattle.graph_texts.specs.NextOf.{next_of}
use Rattle.graph_texts.specs.Shapes.{HasShapeOf, HaveShapes}
use Rattle.instruction_lowering.specs.Lowered.{AreUnitsOf, IsUnitOf, Lowered}
use Rattle.instruction_lowering.specs.UnitNames.{in_order}
use Rattle.st_tree.specs.declared.graph.GraphPou.{GraphPou}
use Rattle.st_tree.specs.declared.graph.GraphProgram.{GraphProgram}
use Rattle.st_tree.specs.declared.program.Pou.{Pou}
use Rattle.st_tree.specs.declared.program.StProgram.{StProgram}
use Rattle.stl_tree.specs.Flows.{Flow}
use Rattle.stl_tree.specs.declared.program.Block.{Block}
use Rattle.stl_tree.specs.declared.program.Program.{Program}
use Rattle.text_shapes.specs.IsShaped.{IsShaped}
use Rattle.text_shapes.specs.NodeCounts.{conditionals_of, lists_of}
use Rattle.text_shapes.proofs.ShapeCases.{more_jumps_allow_more}
use Rattle.stl_translate.proofs.BodyShapes.{conditionals_few, flow_same, lists_few}
use Rattle.stl_translate.specs.Shape.{AreShapedBy, IsShapedBy, Shape, conditionals_in, lists_in}

shaped_by : (block : Block) (unit : GraphPou) (text : Pou) → IsUnitOf block unit → HasShapeOf unit text → IsShapedBy block text
shaped_by block unit text h s =
    record {
      graph = h.graph;
      is_graph = h.is_graph;
      shape =
          more_jumps_allow_more (flow_of (length block.body) h.graph.nodes) (conditionals_of unit.graph.nodes)
          (lists_of unit.graph.nodes) (conditionals_in block.body) (lists_in block.body) (next_of text.locals) text.body
          (conditionals_few block.body h.graph h.is_graph unit.graph.nodes h.nodes)
          (lists_few block.body h.graph h.is_graph unit.graph.nodes h.nodes)
          (subst
          (λ (flow : Flow). IsShaped flow (conditionals_of unit.graph.nodes) (lists_of unit.graph.nodes) (next_of text.locals) text.body)
          (flow_same block.body h.graph.nodes unit.graph.nodes h.nodes) s);
    }

each_shaped : (blocks : List Block) (units : List GraphPou) (texts : List Pou) → AreUnitsOf blocks units → HaveShapes units texts
    → AreShapedBy blocks texts
each_shaped [] [] [] h s = tt
each_shaped (block ∷ blocks) (unit ∷ units) (text ∷ texts) h s =
    (shaped_by block unit text h.0 s.0, each_shaped blocks units texts h.1 s.1)
each_shaped [] [] (text ∷ texts) h s = absurd s
each_shaped [] (unit ∷ units) texts h s = absurd h
each_shaped (block ∷ blocks) [] texts h s = absurd h
each_shaped (block ∷ blocks) (unit ∷ units) [] h s = absurd s

pub shape_whole : (program : Program) (graph : GraphProgram) (tree : StProgram) → Lowered program graph → HaveShapes graph.pous tree.pous
    → Shape program tree
shape_whole program graph tree lowered shapes = each_shaped (in_order program.blocks) graph.pous tree.pous lowered.units shapes
