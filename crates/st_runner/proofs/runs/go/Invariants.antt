use Rattle.st_tree.proofs.Common.{◌≡◌, ℕ, ◌+◌, vec_capacity, calls_to}
use Rattle.st_runner.proofs.Common.{IsReady, IsSettled, end_at, state_of}
use Rattle.st_runner.specs.inner.Plan.{IsPlanned}
use Rattle.st_runner.proofs.runs.go.Given as goal

abbrev pub decreases-loop-next : goal.decreases-loop-next
decreases-loop-next l = l.left

abbrev pub invariant-loop-next : goal.invariant-loop-next
invariant-loop-next l =
    ((j : ℕ) → end_at l.tree.globals (calls_to (l.left + j) l.tree) l.work.items l.next (l.left + j) (state_of l.state)
    ≡ end_at l.tree.globals (calls_to (l.units + j) l.tree) l.fn.work.items l.fn.at (l.units + j) (state_of l.fn.state))
    × IsSettled l.next
    × IsReady l.tree (vec_capacity l.work) l.work.items l.next l.state
    × IsPlanned l.plan.parts.items l.work.items l.next
