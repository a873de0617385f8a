use Rattle.std.proofs.Common.{rules, arith}
use Rattle.std.proofs.lemmas.Grind.{common_steps}
use Rattle.segment_plans.proofs.Heads.{heads_step}
use Rattle.segment_plans.proofs.nested.has_one_loop.Goals as goal

pub loop-at-preserved : goal.loop-at-preserved
loop-at-preserved c =
    heads_step c.args.blocks.now c.loop-at.found c.is_some-is_head.result c.if-found-2.found c.loop-at.at c.args.past _ c.loop-at-test.true
    (first_of (search rules, grind (arith, common_steps))) c.else-is_head.either (first_of (search rules, grind (arith, common_steps)))
    c.loop-at.invariant
