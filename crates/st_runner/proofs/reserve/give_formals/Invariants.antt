use Rattle.st_tree.proofs.Common.{◌≡◌, ◌++◌, ◌+◌, ◌≤◌, length, vec_capacity, references}
use Rattle.st_runner.proofs.reserve.give_formals.Given as goal

abbrev pub decreases-loop-formal : goal.decreases-loop-formal
decreases-loop-formal l = length l.formals_left

abbrev pub invariant-loop-formal : goal.invariant-loop-formal
invariant-loop-formal l =
    (l.given.items ++ references l.formals_left l.actuals_left ≡ references l.formals l.actuals)
    × (length l.given.items + length l.formals_left ≤ vec_capacity l.given)
    × (vec_capacity l.given ≡ vec_capacity l.fn.given)
