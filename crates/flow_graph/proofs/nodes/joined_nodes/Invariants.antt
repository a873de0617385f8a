use Rattle.std.proofs.Common.{◌≡◌, length}
use Rattle.flow_graph.specs.inner.Making.{joined_from}
use Rattle.flow_graph.proofs.nodes.joined_nodes.Given as goal

abbrev pub invariant-loop-exit : goal.invariant-loop-exit
invariant-loop-exit l = (l.at ≡ length l.yielded) × (l.nodes ≡ joined_from 0 l.bounds l.yielded)
