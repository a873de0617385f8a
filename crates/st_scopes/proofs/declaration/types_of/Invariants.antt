use Rattle.std.proofs.Common.{◌≡◌, take}
use Rattle.st_rules.specs.Declarations.{types_of}
use Rattle.st_scopes.proofs.declaration.types_of.Given as goal

abbrev pub invariant-loop-formal : goal.invariant-loop-formal
invariant-loop-formal l = l.types ≡ types_of (take l.formal-index l.formals)
