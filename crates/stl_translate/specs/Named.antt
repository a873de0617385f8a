-- What the units of a text, their formals and their locals are called: functions stand first, then function blocks,
-- then organization blocks, each by its number. And by which symbols it names places.
-- Held against: this project's own names.
use Rattle.std.specs.Prelude.{◌≡◌, List, [], ◌∷◌, All}
use Rattle.graph_texts.specs.Heads.{IsNamedLocal}
use Rattle.instruction_lowering.specs.UnitNames.{in_order, unit_formals}
use Rattle.st_polish.specs.Symbols.{NamesSymbols}
use Rattle.st_tree.specs.StRun.{called_name, is_program}
use Rattle.st_tree.specs.declared.program.Pou.{Pou}
use Rattle.st_tree.specs.declared.program.StProgram.{StProgram}
use Rattle.stl_tree.specs.declared.program.Block.{Block}
use Rattle.stl_tree.specs.declared.program.Program.{Program}

-- a unit is called as a block, and so are its formals; its locals are temporaries, or `NEXT`
pub record IsNamedAs (block : Block) (unit : Pou) : Type 0 where
  pub kind : unit.program ≡ is_program block.name
  pub name : unit.name ≡ called_name block.name
  pub formals : unit.formals ≡ unit_formals block.name block.formals
  pub locals : All IsNamedLocal unit.locals

-- there is a unit for each block, in the same order
abbrev pub AreNamedAs : List Block → List Pou → Type 0
AreNamedAs [] [] = Unit {0}
AreNamedAs [] (unit ∷ units) = ⊥
AreNamedAs (block ∷ blocks) [] = ⊥
AreNamedAs (block ∷ blocks) (unit ∷ units) = IsNamedAs block unit × AreNamedAs blocks units

-- the units of a text have the names of a program's blocks, and its globals are symbols of the program
pub record Named (program : Program) (tree : StProgram) : Type 0 where
  pub units : AreNamedAs (in_order program.blocks) tree.pous
  pub symbols : NamesSymbols program.symbols tree
