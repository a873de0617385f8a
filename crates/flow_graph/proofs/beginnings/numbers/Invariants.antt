use Rattle.std.proofs.Common.{◌≡◌, ◌++◌, ◌≤◌, drop}
use Rattle.flow_graph.specs.inner.Beginnings.{numbers_from}
use Rattle.flow_graph.proofs.beginnings.numbers.Given as goal

abbrev pub invariant-loop-begins : goal.invariant-loop-begins
invariant-loop-begins l = record {
  rest : l.numbers.items ++ numbers_from l.number (drop l.begins-index l.begins) ≡ numbers_from 0 l.begins;
  bound : l.number ≤ l.begins-index;
}
