use Rattle.std.proofs.Common.{◌≡◌, take}
use Rattle.st_rules.specs.Declarations.{all_inside}
use Rattle.st_scopes.proofs.declaration.all_inside.Given as goal

abbrev pub invariant-loop-local : goal.invariant-loop-local
invariant-loop-local l = l.declared ≡ all_inside l.formals (take l.local-index l.locals)
