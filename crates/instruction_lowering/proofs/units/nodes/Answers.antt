use Rattle.std.proofs.Common.{rules, length, arith}
use Rattle.std.proofs.lemmas.Grind.{common_steps}
use Rattle.instruction_lowering.proofs.NodeLoops.{next_left, next_nodes, next_used}
use Rattle.instruction_lowering.proofs.units.nodes.Goals as goal

pub loop-extent-preserved : goal.loop-extent-preserved
loop-extent-preserved c = (
  next_nodes c.args.blocks.now c.args.body.now c.loop-extent.yielded c.in-Some.extent (length c.args.body.now) c.loop-extent.rest.now
      c.loop-extent.used c.loop-extent.nodes c.push.new.self c.node.result c.loop-extent.invariant.2 c.loop-extent.invariant.1
      c.loop-extent.invariant.0 (first_of (search rules, grind (arith, common_steps))) (first_of (search rules, grind (arith, common_steps))),
  next_used c.args.blocks.now c.args.body.now c.loop-extent.yielded c.in-Some.extent c.loop-extent.rest.now c.loop-extent.used
      c.push_steps.new.spot.used c.loop-extent.invariant.2 c.loop-extent.invariant.1 (first_of (search rules, grind (arith, common_steps))),
  next_left c.args.blocks.now c.args.body.now c.loop-extent.yielded c.in-Some.extent
      c.loop-extent.rest.now c.rest_after-rest.result.now c.loop-extent.invariant.2
      (first_of (search rules, grind (arith, common_steps))),
  first_of (search rules, grind (arith, common_steps)),
)
