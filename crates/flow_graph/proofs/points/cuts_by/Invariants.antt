use Rattle.std.proofs.Common.{◌≡◌, ◌++◌, drop}
use Rattle.flow_graph.specs.inner.Spans.{cuts_from}
use Rattle.flow_graph.proofs.points.cuts_by.Given as goal

abbrev pub invariant-loop-at : goal.invariant-loop-at
invariant-loop-at l = l.cuts ++ cuts_from l.until l.at (drop l.at l.spans) ≡ cuts_from 0 0 l.spans
