use Rattle.std.proofs.Common.{◌≡◌, take}
use Rattle.st_rules.specs.Declarations.{locals_of}
use Rattle.st_scopes.proofs.declaration.locals_of.Given as goal

abbrev pub invariant-loop-local : goal.invariant-loop-local
invariant-loop-local l = l.all ≡ locals_of (take l.local-index l.locals)
