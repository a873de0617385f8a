use Rattle.std.proofs.Common.{◌≡◌, ◌≤◌, ◌+◌, length}
use Rattle.call_chains.specs.Search.{AreFollowed, IsSound, count_unmarked}
use Rattle.call_chains.proofs.search.Search.visit.Given as goal

abbrev pub invariant-loop-call : goal.invariant-loop-call
invariant-loop-call l = record {
  from : l.self.from ≡ l.initial.self.from;
  sound : IsSound l.graph l.self.from l.self.seen.items l.self.work.items;
  followed : AreFollowed l.graph l.self.from l.self.seen.items l.self.work.items l.unit l.call-index;
  left : count_unmarked l.self.seen.items + length l.self.work.items ≤ count_unmarked l.initial.self.seen.items + length l.initial.self.work.items;
}
