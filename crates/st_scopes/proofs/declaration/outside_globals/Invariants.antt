use Rattle.st_tree.proofs.Common.{◌≡◌, take, fold}
use Rattle.st_rules.specs.Declarations.{no_outside, with_global}
use Rattle.st_scopes.proofs.declaration.outside_globals.Given as goal

abbrev pub invariant-loop-global : goal.invariant-loop-global
invariant-loop-global l = l.declared ≡ fold with_global no_outside (take l.global-index l.globals)
