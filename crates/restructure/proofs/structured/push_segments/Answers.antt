use Rattle.std.proofs.Common.{rules, sym, ◌∙◌}
use Rattle.restructure.proofs.Segments.{both, ends, goes_on, known_settings, not_first, not_second, stops}
use Rattle.restructure.proofs.structured.push_segments.Goals as goal
use Rattle.restructure.proofs.structured.push_segments.Goals.{then-not-falls-via-then-not-falls, then-not-falls-via-else-not-falls+then-not-is_reached}

pub push_segment-requires-clause-settings : goal.push_segment-requires-clause-settings
push_segment-requires-clause-settings c = known_settings _ _ _ c.requires.unit

pub push_segment-requires-2-clause-settings : goal.push_segment-requires-2-clause-settings
push_segment-requires-2-clause-settings c = known_settings _ _ _ c.requires.unit

pub returns-then-not-falls : goal.returns-then-not-falls
returns-then-not-falls c =
    stops _ _ _ _ _ _ _ c.push_segment.new.made _ c.in_ok-falls.falls c.push_segment.new.nodes.items c.loop-past-test.true c.loop-past.invariant
    (c.in_ok-falls.ensures _ c.requires.unit)
    (elim c.then-not-falls.branch [
      | then-not-falls-via-then-not-falls w ↦ not_second _ _ w.if-not-falls.true
      | then-not-falls-via-else-not-falls+then-not-is_reached w ↦ not_first _ _ (sym w.is_reached.ensures ∙ w.if-not-is_reached.true)
    ])

pub loop-past-preserved : goal.loop-past-preserved
loop-past-preserved c =
    goes_on _ _ _ _ _ _ _ c.push_segment.new.made _ c.in_ok-falls.falls c.push_segment.new.nodes.items c.loop-past-test.true c.loop-past.invariant
    (c.in_ok-falls.ensures _ c.requires.unit) (both _ _ (sym c.is_reached.ensures ∙ c.if-not-is_reached.false) c.if-not-falls.false)

pub returns : goal.returns
returns c =
    ends _ _ _ _ _ _ _ c.push_segment-2.new.made _ c.len-count.result c.in_ok-push_segment.field-0 c.push_segment-2.new.nodes.items c.loop-past-test.false
    c.loop-past.invariant (search rules) (c.in_ok-push_segment.ensures _ c.requires.unit)
