use Rattle.std.proofs.Common.{◌≡◌, take}
use Rattle.st_rules.specs.Declarations.{all_outside}
use Rattle.st_scopes.proofs.declaration.all_outside.Given as goal

abbrev pub invariant-loop-unit : goal.invariant-loop-unit
invariant-loop-unit l = l.declared ≡ all_outside l.globals (take l.unit-index l.units)
