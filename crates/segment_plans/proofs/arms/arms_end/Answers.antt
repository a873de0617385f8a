use Rattle.std.proofs.Common.{rules}
use Rattle.segment_plans.proofs.Overs.{over_step}
use Rattle.segment_plans.proofs.arms.arms_end.Goals as goal

pub loop-source-preserved : goal.loop-source-preserved
loop-source-preserved c = record {
  last = c.loop-source.invariant.last;
  rest = over_step c.args.blocks.now c.args.around _ c.loop-source.source _ (search rules) (search rules) c.loop-source.invariant.rest;
}
