use Rattle.std.proofs.Common.{◌≡◌, ◌<◌, ◌≤◌, drop, fold}
use Rattle.segment_plans.specs.Arms.{nearer, next_arm}
use Rattle.segment_plans.proofs.arms.next_arm.Given as goal

abbrev pub invariant-loop-to : goal.invariant-loop-to
invariant-loop-to l = record {
  rest : fold (nearer l.at) l.next (drop l.to-index l.to-items) ≡ next_arm l.fn.blocks l.list l.at l.end;
  above : l.at < l.next;
  within : l.next ≤ l.end;
}
