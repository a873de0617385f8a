use Rattle.std.proofs.Common.{◌≡◌, map, take, Vec, Global, ℕ}
use Rattle.std.specs.Prelude.{All}
use Rattle.memory_areas.specs.Memory.{HasBytes}
use Rattle.memory_areas.specs.declared.data_block.DataBlock.{DataBlock}
use Rattle.memory_areas.proofs.memory.bytes_of.Given as goal

abbrev pub invariant-loop-block : goal.invariant-loop-block
invariant-loop-block l = record {
  stored : map (λ (b : Vec ℕ Global). b.items) l.stored.items ≡ map (λ (b : DataBlock). b.bytes) (take l.block-index l.blocks);
  small : All HasBytes (take l.block-index l.blocks);
}
