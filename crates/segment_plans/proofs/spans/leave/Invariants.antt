use Rattle.std.proofs.Common.{◌≡◌, length}
use Rattle.segment_plans.specs.inner.Spans.{leave}
use Rattle.segment_plans.proofs.spans.leave.Given as goal

abbrev pub invariant-loop-last : goal.invariant-loop-last
invariant-loop-last l = leave l.at l.loops ≡ leave l.at l.fn.loops

abbrev pub decreases-loop-last : goal.decreases-loop-last
decreases-loop-last l = length l.loops
