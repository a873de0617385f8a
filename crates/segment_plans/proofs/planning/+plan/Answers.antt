use Rattle.std.proofs.Common.{◌≤◌, false, sym, subst, arith}
use Rattle.segment_plans.specs.Planned.{after}
use Rattle.segment_plans.proofs.ArmSteps.{arms_end_there, next_stops, next_tracks}
use Rattle.segment_plans.proofs.PlanSteps.{ForEach, Tracks, behind, ends_there, goes_on_with, stops_inside, stops_there}
use Rattle.segment_plans.proofs.planning.+plan.Goals as goal

pub splits-returns-in_default : goal.splits-returns-in_default
splits-returns-in_default t c =
    stops_there c.args.blocks.now c.args.left c.args.part c.args.paid c.args.first c.loop-at.is_paid c.loop-at.at c.loop-at.invariant.tracks
    c.loop-at.invariant.low (omega (arith, c.loop-at-test.true)) c.in_default.ensures.fits

pub splits-returns-then-not-inner_splits : goal.splits-returns-then-not-inner_splits
splits-returns-then-not-inner_splits t c =
    stops_inside c.args.blocks.now c.args.left c.args.part c.args.paid c.args.first c.loop-at.is_paid c.loop-at.at
    c.loop-at.invariant.tracks c.loop-at.invariant.low (omega (arith, c.loop-at-test.true)) c.in-Some.piece c.in-Some.ensures.fits
    c.if-not-inner_splits.ensures

pub splits-loop-at-preserved : goal.splits-loop-at-preserved
splits-loop-at-preserved t c =
    let inside = behind c.args.part c.loop-at.at c.in-Some.piece c.in-Some.ensures.within in
    let low : c.loop-at.at ≤ after c.loop-at.at c.in-Some.piece = inside.0 in
    let high : after c.loop-at.at c.in-Some.piece ≤ c.args.part.past = inside.1 in
    record {
      low = omega (arith, c.loop-at.invariant.low, low, c.after-at.ensures);
      high = omega (arith, high, c.after-at.ensures);
      tracks = subst (λ n. ForEach c.args.blocks.now c.args.part c.args.first (λ g. Tracks g c.args.left c.args.part c.args.paid c.args.first false n))
          (sym c.after-at.ensures)
          (goes_on_with c.args.blocks.now c.args.left c.args.part c.args.paid c.args.first c.loop-at.is_paid c.loop-at.at
          c.loop-at.invariant.tracks c.loop-at.invariant.low (omega (arith, c.loop-at-test.true)) c.in-Some.piece c.in-Some.ensures.fits
          c.if-not-inner_splits.ensures);
    }

pub arms_split-returns-then-not-splits : goal.arms_split-returns-then-not-splits
arms_split-returns-then-not-splits t c =
    next_stops c.args.blocks.now c.args.left c.args.part c.args.list c.args.end c.loop-at.at c.loop-at.invariant.low c.loop-at.invariant.tracks
    (omega (arith, c.loop-at-test.true)) c.next_arm-past.result c.next_arm-past.ensures.is c.next_arm-past.ensures.above c.next_arm-past.ensures.within
    c.list_arm.result c.list_arm.ensures c.if-not-splits.ensures

pub arms_split-loop-at-preserved : goal.arms_split-loop-at-preserved
arms_split-loop-at-preserved t c = record {
  low = omega (arith, c.loop-at.invariant.low, c.next_arm-past.ensures.above);
  high = c.next_arm-past.ensures.within;
  tracks = next_tracks c.args.blocks.now c.args.left c.args.part c.args.list c.args.end c.loop-at.at c.loop-at.invariant.low c.loop-at.invariant.tracks
      (omega (arith, c.loop-at-test.true)) c.next_arm-past.result c.next_arm-past.ensures.is c.next_arm-past.ensures.above
      c.next_arm-past.ensures.within c.list_arm.result c.list_arm.ensures c.if-not-splits.ensures;
}

pub arms_split-returns : goal.arms_split-returns
arms_split-returns t c =
    arms_end_there c.args.blocks.now c.args.left c.args.part c.args.list c.args.end c.loop-at.at c.loop-at.invariant.tracks c.loop-at.invariant.high
    (omega (arith, c.loop-at-test.false))

pub splits-returns : goal.splits-returns
splits-returns t c =
    ends_there c.args.blocks.now c.args.left c.args.part c.args.paid c.args.first c.loop-at.is_paid c.loop-at.at c.loop-at.invariant.tracks
    c.loop-at.invariant.high (omega (arith, c.loop-at-test.false))
