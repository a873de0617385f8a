use Rattle.std.proofs.Common.{◌≡◌, ◌++◌, map, take}
use Rattle.block_variables.specs.inner.Kept.{formal_of}
use Rattle.block_variables.proofs.formals.put_formals.Given as goal

abbrev pub invariant-loop-d : goal.invariant-loop-d
invariant-loop-d l = l.all ≡ l.initial.all ++ map (formal_of l.raw l.mode) (take l.d-index l.decls)
