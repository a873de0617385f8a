use Rattle.std.proofs.Common.{◌≤◌, ◌+◌, drop, sym, subst}
use Rattle.memory_areas.proofs.DataBlocks.{Decides, further}
use Rattle.memory_areas.proofs.data_block.are_blocks.Goals as goal

pub loop-block-preserved : goal.loop-block-preserved
loop-block-preserved c =
    let first = subst (λ n. c.loop-block.least ≤ n) c.from-number.ensures c.if-number-least.false in
    let next =
    further c.loop-block.least c.args.blocks.now c.loop-block.block-index c.block-item.result c.loop-block-test.true
    c.block-item.is c.loop-block.invariant first (c.is_sized.ensures.yes c.if-not-is_sized.false) in
    subst (λ n. Decides (n + 1) (drop (c.loop-block.block-index + 1) c.args.blocks.now) c.args.blocks.now) (sym c.from-number.ensures) next
