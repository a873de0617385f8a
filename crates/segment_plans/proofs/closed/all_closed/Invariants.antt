use Rattle.std.proofs.Common.{◌≡◌, ◌-◌}
use Rattle.segment_plans.specs.inner.Spans.{all_closed}
use Rattle.segment_plans.proofs.closed.all_closed.Given as goal

abbrev pub invariant-loop-at : goal.invariant-loop-at
invariant-loop-at l =
    all_closed l.blocks l.inner l.first l.at (l.past - l.at) ≡ all_closed l.blocks l.inner l.first l.first (l.past - l.first)
