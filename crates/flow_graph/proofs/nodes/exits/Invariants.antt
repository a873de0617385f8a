use Rattle.std.proofs.Common.{◌≡◌, ◌++◌, length}
use Rattle.flow_graph.specs.inner.Making.{exits_from}
use Rattle.flow_graph.proofs.nodes.exits.Given as goal

-- each turn leaves one position less
abbrev pub decreases-loop-rest : goal.decreases-loop-rest
decreases-loop-rest l = length l.rest

abbrev pub invariant-loop-rest : goal.invariant-loop-rest
invariant-loop-rest l = l.exits.items ++ exits_from l.numbers l.body l.rest ≡ exits_from l.numbers l.body l.bounds
