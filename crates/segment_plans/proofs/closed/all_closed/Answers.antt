use Rattle.std.proofs.Common.{rules}
use Rattle.segment_plans.proofs.Closing.{closed_step}
use Rattle.segment_plans.proofs.closed.all_closed.Goals as goal

pub loop-at-preserved : goal.loop-at-preserved
loop-at-preserved c =
    closed_step c.args.blocks.now c.args.inner.now c.args.first c.loop-at.at c.args.past _ c.loop-at-test.true (search rules) c.loop-at.invariant
