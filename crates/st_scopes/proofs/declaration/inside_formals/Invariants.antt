use Rattle.st_tree.proofs.Common.{◌≡◌, take, fold}
use Rattle.st_rules.specs.Declarations.{no_inside, with_formal}
use Rattle.st_scopes.proofs.declaration.inside_formals.Given as goal

abbrev pub invariant-loop-formal : goal.invariant-loop-formal
invariant-loop-formal l = l.declared ≡ fold with_formal no_inside (take l.formal-index l.formals)
