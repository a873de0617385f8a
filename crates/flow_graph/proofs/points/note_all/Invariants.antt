use Rattle.std.proofs.Common.{◌≡◌, fold, take}
use Rattle.flow_graph.specs.inner.Spans.{note}
use Rattle.flow_graph.proofs.points.note_all.Given as goal

abbrev pub invariant-loop-to : goal.invariant-loop-to
invariant-loop-to l = l.spans ≡ fold (note l.from) l.fn.spans (take l.to-index l.numbers)
