use Rattle.std.proofs.Common.{rules, ◌+◌, arith}
use Rattle.std.proofs.lemmas.Grind.{common_steps}
use Rattle.segment_plans.proofs.Depth.{keeps, many, span_found}
use Rattle.segment_plans.proofs.Shallow.{not_deep, too_deep}
use Rattle.segment_plans.proofs.spans.is_shallow.Goals as goal

pub returns-then-depth-gt-MOST : goal.returns-then-depth-gt-MOST
returns-then-depth-gt-MOST c =
    too_deep c.args.blocks.now c.args.first c.args.past c.loop-at.at (omega (arith, c.loop-at.auto.at)) (omega (arith, c.loop-at-test.true))
    (many c.args.blocks.now c.args.first c.args.past c.loop-at.at c.loop-at.ends.items c.loop-at.depth c.last_of-last.result
    c.span_end-to.result (c.loop-at.depth + c.count_of.result + c.count_of-in-loop-at.result) (record {
      low = omega (arith, c.loop-at.auto.at);
      high = omega (arith, c.loop-at-test.true);
      counted = c.loop-at.invariant.counted;
      last_is = c.last_of-last.ensures;
      to_is = span_found c.args.blocks.now c.args.first c.args.past c.loop-at.at c.args.inner.now c.span_end-to.result
          (omega (arith, c.loop-at.auto.at)) (omega (arith, c.loop-at-test.true)) c.requires
          (first_of (search rules, grind (arith, common_steps)));
      all_is = first_of (search rules, grind (arith, common_steps));
    }) (omega (arith, c.if-depth-gt-MOST.true)))

pub loop-at-preserved : goal.loop-at-preserved
loop-at-preserved c = record {
  few = first_of (search rules, grind (arith, common_steps));
  size = first_of (search rules, grind (arith, common_steps));
  counted = keeps c.args.blocks.now c.args.first c.args.past c.loop-at.at c.loop-at.ends.items _ c.loop-at.depth
      c.last_of-last.result c.span_end-to.result (c.loop-at.depth + c.count_of.result + c.count_of-in-loop-at.result) (record {
        low = omega (arith, c.loop-at.auto.at);
        high = omega (arith, c.loop-at-test.true);
        counted = c.loop-at.invariant.counted;
        last_is = c.last_of-last.ensures;
        to_is = span_found c.args.blocks.now c.args.first c.args.past c.loop-at.at c.args.inner.now c.span_end-to.result
            (omega (arith, c.loop-at.auto.at)) (omega (arith, c.loop-at-test.true)) c.requires
            (first_of (search rules, grind (arith, common_steps)));
        all_is = first_of (search rules, grind (arith, common_steps));
      }) c.loop-at.invariant.size (first_of (search rules, grind (arith, common_steps))) (omega (arith, c.if-depth-gt-MOST.false)) _
      (first_of (search rules, grind (arith, common_steps)));
}

pub returns : goal.returns
returns c =
    not_deep c.args.blocks.now c.args.first c.args.past c.loop-at.at c.loop-at.ends.items c.loop-at.depth (omega (arith, c.loop-at-test.false))
    c.loop-at.invariant.counted
