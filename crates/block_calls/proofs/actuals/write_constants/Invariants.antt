use Rattle.std.proofs.Common.{◌≡◌, ◌+◌, length}
use Rattle.block_calls.specs.inner.Views.{AreSmall}
use Rattle.memory_areas.specs.Memory.{HasBlocks}
use Rattle.stl_tree.specs.Calls.{with_constants}
use Rattle.stl_tree.specs.StlRun.{formals_at}
use Rattle.block_calls.proofs.actuals.write_constants.Given as goal

abbrev pub decreases-loop-formal : goal.decreases-loop-formal
decreases-loop-formal l = length l.formals_left

abbrev pub invariant-loop-formal : goal.invariant-loop-formal
invariant-loop-formal l =
    (with_constants l.depth 0 (formals_at l.program l.block) l.actuals l.fn.memory ≡ with_constants l.depth l.k l.formals_left l.actuals_left l.memory)
    × (l.k + length l.formals_left ≡ length (formals_at l.program l.block))
    × AreSmall l.formals_left l.actuals_left × HasBlocks l.program.dbs l.memory
