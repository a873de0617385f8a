use Rattle.std.proofs.Common.{◌≡◌, drop}
use Rattle.block_calls.specs.Fitting.{AreReached}
use Rattle.block_calls.specs.inner.Copies.{copied_by}
use Rattle.memory_areas.specs.Memory.{HasBlocks}
use Rattle.stl_tree.specs.Calls.{all_copied}
use Rattle.block_calls.proofs.copies.copy_all.Given as goal

abbrev pub invariant-loop-k : goal.invariant-loop-k
invariant-loop-k l =
    (all_copied (copied_by l.way l.instance) l.formals l.places l.fn.memory
    ≡ all_copied (copied_by l.way l.instance) (drop l.k l.formals) (drop l.k l.places) l.memory)
    × HasBlocks l.program.dbs l.memory
    × AreReached l.program.dbs (drop l.k l.formals) (drop l.k l.places)
