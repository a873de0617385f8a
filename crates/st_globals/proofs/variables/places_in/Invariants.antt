use Rattle.std.proofs.Common.{◌≡◌, [], fold, take}
use Rattle.st_globals.specs.inner.Tables.{with_unit_keys}
use Rattle.st_globals.proofs.variables.places_in.Given as goal

abbrev pub invariant-loop-unit : goal.invariant-loop-unit
invariant-loop-unit l = l.keys.keys ≡ fold with_unit_keys [] (take l.unit-index l.units)
