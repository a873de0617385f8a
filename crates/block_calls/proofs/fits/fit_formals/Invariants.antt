use Rattle.std.proofs.Common.{List, length, map}
use Rattle.memory_areas.specs.Areas.{IsMemoryOf}
use Rattle.memory_areas.specs.OutsideActuals.{FitWidths}
use Rattle.memory_areas.specs.declared.data_block.DataBlock.{DataBlock}
use Rattle.stl_tree.specs.declared.program.Formal.{Formal}
use Rattle.block_calls.proofs.fits.fit_formals.Given as goal

abbrev pub decreases-loop-formal : goal.decreases-loop-formal
decreases-loop-formal l = length l.formals_left

abbrev pub invariant-loop-formal : goal.invariant-loop-formal
invariant-loop-formal l =
    (blocks : List DataBlock) → IsMemoryOf blocks l.memory.areas
    → (FitWidths blocks (map (λ (f : Formal). f.width) l.formals_left) l.actuals_left
    → FitWidths blocks (map (λ (f : Formal). f.width) l.formals) l.actuals)
    × (FitWidths blocks (map (λ (f : Formal). f.width) l.formals) l.actuals
    → FitWidths blocks (map (λ (f : Formal). f.width) l.formals_left) l.actuals_left)
