use Rattle.std.proofs.Common.{◌≡◌, drop, length, replicate}
use Rattle.flow_graph.specs.inner.Spans.{spans_from}
use Rattle.flow_graph.proofs.points.spans.Given as goal

abbrev pub invariant-loop-from : goal.invariant-loop-from
invariant-loop-from l = record {
  rest : spans_from l.reached l.from (drop l.from l.exits) l.spans.items ≡ spans_from l.reached 0 l.exits (replicate (length l.exits) 0);
  size : length l.spans.items ≡ length l.exits;
}
