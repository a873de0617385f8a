use Rattle.std.proofs.Common.{length}
use Rattle.stl_tree.specs.StlRun.{IsInstance}
use Rattle.block_calls.proofs.fits.is_instance.Given as goal

abbrev pub decreases-loop-instance : goal.decreases-loop-instance
decreases-loop-instance l = length l.left

abbrev pub invariant-loop-instance : goal.invariant-loop-instance
invariant-loop-instance l =
    (IsInstance l.left l.db l.fb → IsInstance l.instances l.db l.fb) × (IsInstance l.instances l.db l.fb → IsInstance l.left l.db l.fb)
