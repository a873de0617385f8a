use Rattle.std.proofs.Common.{◌≡◌, [], fold, take}
use Rattle.st_globals.specs.Globals.{names_in, with_symbol}
use Rattle.st_globals.specs.Variables.{unit_variables}
use Rattle.st_globals.specs.inner.Tables.{Tracks}
use Rattle.st_globals.proofs.globals.globals_of.Given as goal

abbrev pub invariant-loop-symbol : goal.invariant-loop-symbol
invariant-loop-symbol l =
    Tracks (names_in l.units) l.globals.list l.globals.names l.globals.numbers.entries
    × (l.globals.list
    ≡ fold (with_symbol (names_in l.units) (unit_variables l.units)) [] (take l.symbol-index l.symbols))
