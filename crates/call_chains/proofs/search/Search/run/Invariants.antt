use Rattle.std.proofs.Common.{◌≡◌, ◌+◌, length}
use Rattle.call_chains.specs.Search.{IsClosedButFor, IsSound, count_unmarked}
use Rattle.call_chains.proofs.search.Search.run.Given as goal

-- a unit is taken, and each that comes to wait gets a mark
abbrev pub decreases-loop-unit : goal.decreases-loop-unit
decreases-loop-unit l = count_unmarked l.self.seen.items + length l.self.work.items

abbrev pub invariant-loop-unit : goal.invariant-loop-unit
invariant-loop-unit l = record {
  from : l.self.from ≡ l.initial.self.from;
  sound : IsSound l.graph l.self.from l.self.seen.items l.self.work.items;
  followed : IsClosedButFor l.graph l.self.from l.self.seen.items l.self.work.items;
}
