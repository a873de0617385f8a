use Rattle.std.proofs.Common.{◌≡◌, ◌++◌, drop, map, take}
use Rattle.st_globals.specs.inner.Tables.{var_by}
use Rattle.st_globals.proofs.renaming.named_actuals.Given as goal

abbrev pub invariant-loop-var : goal.invariant-loop-var
invariant-loop-var l =
    l.var-items ≡ map (var_by l.numbers.entries) (take l.var-index l.fn.actuals) ++ drop l.var-index l.fn.actuals
