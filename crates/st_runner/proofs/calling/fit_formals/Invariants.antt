use Rattle.st_tree.proofs.Common.{List, length, IsMemoryOf, DataBlock, FitFormals}
use Rattle.st_runner.proofs.calling.fit_formals.Given as goal

abbrev pub decreases-loop-formal : goal.decreases-loop-formal
decreases-loop-formal l = length l.formals_left

abbrev pub invariant-loop-formal : goal.invariant-loop-formal
invariant-loop-formal l =
    (blocks : List DataBlock) → IsMemoryOf blocks l.memory.areas
    → (FitFormals blocks l.formals_left l.actuals_left → FitFormals blocks l.formals l.actuals)
    × (FitFormals blocks l.formals l.actuals → FitFormals blocks l.formals_left l.actuals_left)
