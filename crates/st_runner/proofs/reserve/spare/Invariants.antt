use Rattle.st_tree.proofs.Common.{◌≡◌, length, vec_capacity, ACTIVATIONS}
use Rattle.st_runner.specs.inner.View.{AreFrames}
use Rattle.st_runner.proofs.reserve.spare.Given as goal

abbrev pub invariant-loop : goal.invariant-loop
invariant-loop l = AreFrames l.locals l.formals l.spare.items × (length l.spare.items ≡ l.counter) × (vec_capacity l.spare ≡ ACTIVATIONS)
