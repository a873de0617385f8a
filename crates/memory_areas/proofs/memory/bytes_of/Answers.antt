use Rattle.std.proofs.Common.{◌<◌, ◌∙◌, List, ℕ, subst}
use Rattle.std.specs.Prelude.{All}
use Rattle.memory_areas.specs.Memory.{HasBytes}
use Rattle.memory_areas.proofs.Fresh.{bytes_more, stored_more}
use Rattle.memory_areas.proofs.memory.bytes_of.Goals as goal

pub loop-block-preserved : goal.loop-block-preserved
loop-block-preserved c =
    let small : HasBytes c.block-item.result =
    subst (λ (bytes : List ℕ). All (λ b. b < 256) bytes) c.as_slice-bytes.ensures c.in_ok-copy_of_bytes.ensures.small in
    record {
      stored =
          stored_more c.args.blocks.now c.loop-block.block-index c.block-item.result c.loop-block.stored.items
          c.push.new.self.items c.in_ok-copy_of_bytes.field-0 c.loop-block-test.true c.block-item.is c.in_ok-push.ensures.items
          (c.in_ok-copy_of_bytes.ensures.same ∙ c.as_slice-bytes.ensures) c.loop-block.invariant.stored;
      small =
          bytes_more c.args.blocks.now c.loop-block.block-index c.block-item.result c.loop-block-test.true c.block-item.is small c.loop-block.invariant.small;
    }
