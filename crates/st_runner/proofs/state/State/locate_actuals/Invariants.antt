use Rattle.st_tree.proofs.Common.{◌≡◌, length, take, Ok, vec_capacity, located_actuals}
use Rattle.st_runner.specs.inner.View.{AreReachable, state_of}
use Rattle.st_runner.proofs.state.State.locate_actuals.Given as goal

abbrev pub invariant-loop-actual : goal.invariant-loop-actual
invariant-loop-actual l =
    (located_actuals l.globals (take l.actual-index l.actuals) (state_of l.self) ≡ Ok l.formals.items)
    × AreReachable l.formals.items
    × (vec_capacity l.formals ≡ vec_capacity l.fn.formals)
    × (length l.formals.items ≡ l.actual-index)
