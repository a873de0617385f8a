use Rattle.std.proofs.Common.{◌≡◌, ◌++◌, drop}
use Rattle.flow_graph.specs.inner.Making.{bounds_from}
use Rattle.flow_graph.proofs.nodes.bounds.Given as goal

abbrev pub invariant-loop-at : goal.invariant-loop-at
invariant-loop-at l = l.bounds.items ++ bounds_from l.at (drop l.at l.begins) ≡ bounds_from 0 l.begins
