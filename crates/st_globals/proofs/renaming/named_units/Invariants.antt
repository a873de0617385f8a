use Rattle.std.proofs.Common.{◌≡◌, map}
use Rattle.st_globals.specs.WithVariables.{unit_with}
use Rattle.st_globals.specs.inner.Tables.{var_by}
use Rattle.st_globals.proofs.renaming.named_units.Given as goal

abbrev pub invariant-loop-unit : goal.invariant-loop-unit
invariant-loop-unit l = l.named ≡ map (unit_with (var_by l.numbers.entries)) l.yielded
