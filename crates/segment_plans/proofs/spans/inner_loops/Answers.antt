use Rattle.std.proofs.Common.{rules, arith}
use Rattle.std.proofs.lemmas.Grind.{common_steps}
use Rattle.segment_plans.proofs.Stack.{inner_end, next_inner, next_stack}
use Rattle.segment_plans.proofs.spans.inner_loops.Goals as goal

pub loop-at-preserved : goal.loop-at-preserved
loop-at-preserved c =
    let loops = next_stack c.args.blocks.now c.args.first c.loop-at.at c.begin_loop.new.loops (omega (arith, c.loop-at.auto.at))
    (first_of (search rules, grind (arith, common_steps))) in
    record {
      late = λ x. absurd (omega (arith, x, c.loop-at.auto.at, c.loop-at-test.true));
      loops = loops;
      inner = next_inner c.args.blocks.now c.args.first c.loop-at.at c.loop-at.inner.items c.push.new.self.items c.innermost.result c.begin_loop.new.loops
          (omega (arith, c.loop-at.auto.at)) c.loop-at.invariant.inner (first_of (search rules, grind (arith, common_steps)))
          c.innermost.ensures loops;
    }

pub returns : goal.returns
returns c =
    inner_end c.args.blocks.now c.args.first c.args.past c.loop-at.at c.loop-at.inner.items c.loop-at.auto.at c.loop-at.auto.at-end c.loop-at.invariant.late
    (omega (arith, c.loop-at-test.false)) c.loop-at.invariant.inner
