-- The symbols by which a text names places.
-- Held against: this project's own names.
use Rattle.std.specs.Prelude.{◌≡◌, List, map}
use Rattle.st_globals.specs.Globals.{globals_of, named_var}
use Rattle.st_globals.specs.NamedText.{NamesNoGlobalDirectly}
use Rattle.st_globals.specs.WithVariables.{unit_with}
use Rattle.st_tree.specs.declared.program.Pou.{Pou}
use Rattle.st_tree.specs.declared.program.StProgram.{StProgram}
use Rattle.stl_tree.specs.declared.program.Symbol.{Symbol}

-- there are units which name places directly: the text has them with its globals in the place of those places, its
-- globals are the symbols by which these units can name places, in the order of their table, and no statement names the
-- place of a global directly
pub record NamesSymbols (symbols : List Symbol) (tree : StProgram) : Type 0 where
  pub units : List Pou
  pub statements : tree.pous ≡ map (unit_with (named_var tree.globals)) units
  pub globals : tree.globals ≡ globals_of units symbols
  pub direct : NamesNoGlobalDirectly tree
