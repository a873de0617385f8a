use Rattle.std.proofs.Common.{◌≡◌, ◌++◌, ◌≤◌, drop}
use Rattle.segment_plans.specs.Known.{counts_from}
use Rattle.segment_plans.proofs.blocks.counts_of.Given as goal

abbrev pub invariant-loop-is_reached : goal.invariant-loop-is_reached
invariant-loop-is_reached l = record {
  rest : l.counts.items ++ counts_from l.count (drop l.is_reached-index l.reached) ≡ counts_from 0 l.reached;
  bound : l.count ≤ l.is_reached-index;
}
