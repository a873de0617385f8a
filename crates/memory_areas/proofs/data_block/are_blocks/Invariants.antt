use Rattle.std.proofs.Common.{drop}
use Rattle.memory_areas.proofs.DataBlocks.{Decides}
use Rattle.memory_areas.proofs.data_block.are_blocks.Given as goal

abbrev pub invariant-loop-block : goal.invariant-loop-block
invariant-loop-block l = Decides l.least (drop l.block-index l.blocks) l.blocks
