-- The units of a text are called as the blocks of the program.
use Rattle.std.proofs.Common.{List, [], ◌∷◌, ◌∙◌}
use Rattle.graph_texts.specs.Heads.{KeepHeads}
use Rattle.instruction_lowering.specs.Lowered.{AreUnitsOf, Lowered}
use Rattle.instruction_lowering.specs.UnitNames.{in_order}
use Rattle.st_tree.specs.declared.graph.GraphPou.{GraphPou}
use Rattle.st_tree.specs.declared.graph.GraphProgram.{GraphProgram}
use Rattle.st_tree.specs.declared.program.Pou.{Pou}
use Rattle.st_tree.specs.declared.program.StProgram.{StProgram}
use Rattle.stl_tree.specs.declared.program.Block.{Block}
use Rattle.stl_tree.specs.declared.program.Program.{Program}
use Rattle.stl_translate.specs.Named.{AreNamedAs}

named_as : (blocks : List Block) (units : List GraphPou) (texts : List Pou) → AreUnitsOf blocks units → KeepHeads units texts
    → AreNamedAs blocks texts
named_as [] [] [] h k = tt
named_as (block ∷ blocks) (unit ∷ units) (text ∷ texts) h k = (
  record {
    kind = k.0.kind ∙ h.0.head.kind;
    name = k.0.name ∙ h.0.head.name;
    formals = k.0.formals ∙ h.0.head.formals;
    locals = k.0.locals;
  },
  named_as blocks units texts h.1 k.1,
)
named_as [] [] (text ∷ texts) h k = absurd k
named_as [] (unit ∷ units) texts h k = absurd h
named_as (block ∷ blocks) [] texts h k = absurd h
named_as (block ∷ blocks) (unit ∷ units) [] h k = absurd k

pub named_whole : (program : Program) (graph : GraphProgram) (text : StProgram) → Lowered program graph → KeepHeads graph.pous text.pous
    → AreNamedAs (in_order program.blocks) text.pous
named_whole program graph text lowered heads = named_as (in_order program.blocks) graph.pous text.pous lowered.units heads
