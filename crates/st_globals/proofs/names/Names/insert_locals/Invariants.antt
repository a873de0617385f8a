use Rattle.std.proofs.Common.{◌≡◌, fold, take}
use Rattle.st_globals.specs.inner.Names.{with_local}
use Rattle.st_globals.proofs.names.Names.insert_locals.Given as goal

abbrev pub invariant-loop-local : goal.invariant-loop-local
invariant-loop-local l = l.self ≡ fold with_local l.initial.self (take l.local-index l.locals)
