use Rattle.std.proofs.Common.{◌+◌, ◌-◌, ◌*◌, ◌≤◌}
use Rattle.segment_plans.proofs.ArmSteps.{ArmsTrack, ForArms}
use Rattle.segment_plans.proofs.PlanSteps.{ForEach, Tracks}
use Rattle.segment_plans.proofs.planning.+plan.Given as goal

-- `splits` asks for what is deeper at its own level, which is one less there, by way of the arms of a list
abbrev pub decreases-inner_splits : goal.decreases-inner_splits
decreases-inner_splits l = 3 * l.left

abbrev pub decreases-splits : goal.decreases-splits
decreases-splits l = 3 * l.left + 1

abbrev pub decreases-arms_split : goal.decreases-arms_split
decreases-arms_split l = 3 * l.left + 2

abbrev pub invariant-splits-loop-at : goal.invariant-splits-loop-at
invariant-splits-loop-at l = record {
  low : l.first ≤ l.at;
  high : l.at ≤ l.part.past;
  tracks : ForEach l.blocks l.part l.first (λ g. Tracks g l.left l.part l.paid l.first l.is_paid l.at);
}

abbrev pub decreases-splits-loop-at : goal.decreases-splits-loop-at
decreases-splits-loop-at l = l.part.past - l.at

abbrev pub invariant-arms_split-loop-at : goal.invariant-arms_split-loop-at
invariant-arms_split-loop-at l = record {
  low : l.list + 1 ≤ l.at;
  high : l.at ≤ l.end;
  tracks : ForArms l.blocks l.part l.list l.end (λ g. ArmsTrack g l.left l.part l.list l.end l.at);
}

abbrev pub decreases-arms_split-loop-at : goal.decreases-arms_split-loop-at
decreases-arms_split-loop-at l = l.end - l.at
