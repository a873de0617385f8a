use Rattle.std.proofs.Common.{◌≡◌, ◌+◌, get_or, length, true}
use Rattle.flow_graph.specs.Graphs.{ways_after}
use Rattle.flow_graph.specs.inner.Reaching.{IsClosedButFor, IsSound, count_unseen, state_of}
use Rattle.flow_graph.proofs.search.search.Given as goal

-- a node is taken, and each that comes to wait gets a mark
abbrev pub decreases-loop-number : goal.decreases-loop-number
decreases-loop-number l = count_unseen l.seen + length l.work.items

abbrev pub invariant-loop-number : goal.invariant-loop-number
invariant-loop-number l = record {
  sound : IsSound (ways_after l.exits) (state_of l.seen l.work.items);
  closed : IsClosedButFor (ways_after l.exits) (state_of l.seen l.work.items);
  first : get_or l.seen 0 true ≡ true;
}
