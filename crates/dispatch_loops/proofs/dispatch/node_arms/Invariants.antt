use Rattle.std.proofs.Common.{◌≡◌, ◌++◌, ◌-◌, drop}
use Rattle.segment_plans.specs.Counts.{is_reached}
use Rattle.dispatch_loops.specs.inner.Arms.{arms_from}
use Rattle.dispatch_loops.proofs.dispatch.node_arms.Given as goal

abbrev pub invariant-loop-at : goal.invariant-loop-at
invariant-loop-at l = record {
  arms : l.arms ++ arms_from (is_reached l.blocks) l.turns l.goes_on l.at (l.turns.past - l.at) l.nodes.items
      ≡ arms_from (is_reached l.blocks) l.turns l.goes_on l.turns.first (l.turns.past - l.turns.first) l.fn.nodes.items;
  left : l.nodes.items ≡ drop (l.at - l.turns.first) l.fn.nodes.items;
}
