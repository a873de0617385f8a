use Rattle.std.proofs.Common.{◌≡◌, [], fold, take}
use Rattle.st_globals.specs.inner.Names.{with_unit}
use Rattle.st_globals.proofs.names.Names.of_units.Given as goal

abbrev pub invariant-loop-unit : goal.invariant-loop-unit
invariant-loop-unit l = l.names ≡ fold with_unit [] (take l.unit-index l.units)
