use Rattle.std.proofs.Common.{◌≡◌, fold, take}
use Rattle.flow_graph.specs.inner.Reaching.{state_of, meet}
use Rattle.flow_graph.proofs.search.meet_all.Given as goal

abbrev pub invariant-loop-number : goal.invariant-loop-number
invariant-loop-number l = state_of l.seen l.work.items ≡ fold meet (state_of l.fn.seen l.fn.work.items) (take l.number-index l.numbers)
