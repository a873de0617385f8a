-- A text in which symbols stand for places, and what it has in common with the text before.
-- Held against: this project's own claim.
use Rattle.std.specs.Prelude.{◌≡◌, ℕ, false, List, map, All}
use Rattle.std.specs.List.{list_any}
use Rattle.memory_areas.specs.Areas.{Areas}
use Rattle.memory_areas.specs.declared.call.Call.{Call}
use Rattle.st_tree.specs.StRun.{FitsSt, st_run}
use Rattle.st_tree.specs.declared.expr.Var.{Var}
use Rattle.st_tree.specs.declared.program.Located.{Located}
use Rattle.st_tree.specs.declared.program.StProgram.{StProgram}
use Rattle.stl_tree.specs.declared.program.Symbol.{Symbol}
use Rattle.st_globals.specs.Globals.{globals_of, named_var, stands_for}
use Rattle.st_globals.specs.Variables.{unit_variables}
use Rattle.st_globals.specs.WithVariables.{unit_with}

-- a text with these globals, whose statements name them in place of the places for which they stand; all else stays
abbrev pub text_with : List Located → StProgram → StProgram
text_with globals tree = record tree { globals = globals; pous = map (unit_with (named_var globals)) tree.pous }

-- a text whose symbols stand for places
abbrev pub named_text : List Symbol → StProgram → StProgram
named_text symbols tree = text_with (globals_of tree.pous symbols) tree

-- the same calls fit two texts, and each call ends alike in both, from each memory and within each number of units
pub record HaveSameRuns (tree other : StProgram) : Type 0 where
  pub fits : (call : Call) → FitsSt tree call → FitsSt other call
  pub fits_back : (call : Call) → FitsSt other call → FitsSt tree call
  pub runs : (call : Call) (memory : Areas) (units : ℕ) → st_run other call memory units ≡ st_run tree call memory units

-- no statement names the place of a global directly
abbrev pub NamesNoGlobalDirectly : StProgram → Type 0
NamesNoGlobalDirectly tree =
    All (λ (v : Var). list_any (λ (g : Located). stands_for g v) tree.globals ≡ false) (unit_variables tree.pous)
