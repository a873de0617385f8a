use Rattle.std.proofs.Common.{◌∙◌}
use Rattle.segment_plans.proofs.Segments.{by_both, not_closed, without_plan}
use Rattle.segment_plans.proofs.nested.may_split.Goals as goal

pub returns-then-not-splits : goal.returns-then-not-splits
returns-then-not-splits c =
    without_plan c.args.blocks.now c.args.first c.args.past c.whole.result c.requires c.whole.ensures c.if-not-splits.ensures

pub returns-then-is_closed_or_one_loop : goal.returns-then-is_closed_or_one_loop
returns-then-is_closed_or_one_loop c =
    by_both c.args.blocks.now c.args.first c.args.past c.whole.result c.requires c.whole.ensures c.if-not-splits.ensures
    c.as_slice-inner.result.now (c.as_slice-inner.ensures.value ∙ c.in_ok-inner.ensures) c.is_closed_or_one_loop.result c.is_closed_or_one_loop.ensures
    c.if-is_closed_or_one_loop.true c.is_shallow.result c.is_shallow.ensures

pub returns : goal.returns
returns c =
    not_closed c.args.blocks.now c.args.first c.args.past c.whole.result c.requires c.whole.ensures c.if-not-splits.ensures
    c.as_slice-inner.result.now (c.as_slice-inner.ensures.value ∙ c.in_ok-inner.ensures) c.is_closed_or_one_loop.result c.is_closed_or_one_loop.ensures
    c.if-is_closed_or_one_loop.false
