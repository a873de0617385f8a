use Rattle.std.proofs.Common.{◌≡◌, ◌+◌, ◌-◌, ◌≤◌, length}
use Rattle.segment_plans.proofs.Depth.{AreForward, IsCounted}
use Rattle.segment_plans.proofs.spans.is_shallow.Given as goal

abbrev pub invariant-loop-at : goal.invariant-loop-at
invariant-loop-at l = record {
  few : l.depth ≤ 64;
  size : length l.ends.items ≡ l.past - l.first + 1;
  counted : AreForward l.blocks l.first l.past → IsCounted l.blocks l.first l.at l.ends.items l.depth;
}
