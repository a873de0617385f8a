use Rattle.std.proofs.Common.{◌≡◌, fold, take}
use Rattle.st_globals.specs.inner.Tables.{with_key}
use Rattle.st_globals.proofs.variables.put_vars.Given as goal

abbrev pub invariant-loop-var : goal.invariant-loop-var
invariant-loop-var l = l.keys.keys ≡ fold with_key l.initial.keys.keys (take l.var-index l.vars)
