use Rattle.std.proofs.Common.{ℕ, length}
use Rattle.st_runner.proofs.Common.{IsSound, state_of}
use Rattle.st_runner.specs.inner.Begun.{HasBegun}
use Rattle.st_runner.specs.inner.View.{SameShape}
use Rattle.st_runner.proofs.state.State.assign_first.Given as goal

abbrev pub decreases-loop-stmt : goal.decreases-loop-stmt
decreases-loop-stmt l = length l.rest

abbrev pub invariant-loop-stmt : goal.invariant-loop-stmt
invariant-loop-stmt l =
    HasBegun l.globals l.body l.rest (state_of l.fn.self) (state_of l.self)
    × ((locals formals : ℕ) → IsSound locals formals l.fn.self → IsSound locals formals l.self)
    × SameShape l.fn.self l.self
