use Rattle.std.proofs.Common.{◌≡◌, take}
use Rattle.std.specs.Prelude.{All}
use Rattle.st_tree.specs.Proper.{IsDataBlock}
use Rattle.instruction_lowering.proofs.data_blocks.copy_blocks.Given as goal

abbrev pub invariant-loop-block : goal.invariant-loop-block
invariant-loop-block l = (l.copies ≡ take l.block-index l.blocks) × All IsDataBlock l.copies
