use Rattle.st_tree.proofs.Common.{◌≡◌, length, vec_capacity, Returns}
use Rattle.st_runner.specs.inner.Leaving.{Leaves}
use Rattle.st_runner.proofs.leaving.return_unit.Given as goal

abbrev pub decreases-loop-frame : goal.decreases-loop-frame
decreases-loop-frame l = length l.work.items

abbrev pub invariant-loop-frame : goal.invariant-loop-frame
invariant-loop-frame l = Leaves Returns Returns l.fn.work.items l.work.items × (vec_capacity l.work ≡ vec_capacity l.fn.work)
