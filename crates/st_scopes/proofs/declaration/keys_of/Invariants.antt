use Rattle.std.proofs.Common.{◌≡◌, take}
use Rattle.st_rules.specs.Declarations.{keys_of}
use Rattle.st_scopes.proofs.declaration.keys_of.Given as goal

abbrev pub invariant-loop-formal : goal.invariant-loop-formal
invariant-loop-formal l = l.keys ≡ keys_of (take l.formal-index l.formals)
