use Rattle.st_tree.proofs.Common.{◌≡◌, map, take, vec_capacity, zero_of}
use Rattle.st_runner.proofs.call.zero_locals.Given as goal

abbrev pub invariant-loop-local : goal.invariant-loop-local
invariant-loop-local l = (l.locals.items ≡ map zero_of (take l.local-index l.declared)) × (vec_capacity l.locals ≡ vec_capacity l.fn.locals)
