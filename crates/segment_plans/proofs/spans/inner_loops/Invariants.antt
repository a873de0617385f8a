use Rattle.std.proofs.Common.{◌≡◌, ◌-◌, ◌<◌, ◌≤◌}
use Rattle.segment_plans.specs.inner.Spans.{inner_loops, stack}
use Rattle.segment_plans.proofs.spans.inner_loops.Given as goal

abbrev pub invariant-loop-at : goal.invariant-loop-at
invariant-loop-at l = record {
  late : l.past < l.first → l.at ≤ l.first;
  loops : l.loops ≡ stack l.blocks l.first (l.at - l.first);
  inner : l.inner.items ≡ inner_loops l.blocks l.first (l.at - l.first);
}
