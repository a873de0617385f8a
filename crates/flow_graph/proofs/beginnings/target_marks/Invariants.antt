use Rattle.std.proofs.Common.{◌≡◌, false, fold, length, replicate, take}
use Rattle.flow_graph.specs.inner.Beginnings.{mark_of}
use Rattle.flow_graph.proofs.beginnings.target_marks.Given as goal

abbrev pub invariant-loop-instr : goal.invariant-loop-instr
invariant-loop-instr l = l.marks.items ≡ fold mark_of (replicate (length l.body) false) (take l.instr-index l.body)
