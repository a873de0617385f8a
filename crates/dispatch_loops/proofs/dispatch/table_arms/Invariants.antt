use Rattle.std.proofs.Common.{◌≡◌, length}
use Rattle.unit_regions.specs.UnitRegion.{entry_arms}
use Rattle.dispatch_loops.proofs.dispatch.table_arms.Given as goal

abbrev pub invariant-loop-to : goal.invariant-loop-to
invariant-loop-to l = record {
  arms : l.arms ≡ entry_arms l.turns.selector l.turns.past 0 l.yielded;
  count : l.number ≡ length l.yielded;
}
