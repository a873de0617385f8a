use Rattle.std.proofs.Common.{◌≡◌, map, take}
use Rattle.st_rules.specs.Declarations.{formals_of}
use Rattle.st_scopes.proofs.declaration.formals_of.Given as goal

abbrev pub invariant-loop-unit : goal.invariant-loop-unit
invariant-loop-unit l = l.all ≡ map formals_of (take l.unit-index l.units)
