use Rattle.std.proofs.Common.{◌≡◌, ◌++◌, drop, true}
use Rattle.flow_graph.specs.inner.Beginnings.{begins_from}
use Rattle.flow_graph.proofs.beginnings.begins_from.Given as goal

abbrev pub invariant-loop-at : goal.invariant-loop-at
invariant-loop-at l = l.begins.items ++ begins_from l.aimed l.after l.left l.at (drop l.at l.body) ≡ begins_from l.aimed true 0 0 l.body
