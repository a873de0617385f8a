-- What a text keeps of the names of another, whose statements name places by symbols.
-- Held against: this project's own names.
use Rattle.std.specs.Prelude.{List}
use Rattle.condition_laws.specs.Kept.{KeepsHead}
use Rattle.st_polish.specs.Symbols.{NamesSymbols}
use Rattle.st_tree.specs.Fitting.{Paired}
use Rattle.st_tree.specs.declared.program.StProgram.{StProgram}
use Rattle.stl_tree.specs.declared.program.Symbol.{Symbol}

-- a text keeps the kind, the name, the formals and the locals of each unit of another, and names places by symbols
pub record KeepsNames (symbols : List Symbol) (old new : StProgram) : Type 0 where
  pub units : Paired KeepsHead old.pous new.pous
  pub named : NamesSymbols symbols new
