use Rattle.std.proofs.Common.{◌≡◌, map, take}
use Rattle.std.specs.List.{flat_map}
use Rattle.stl_tree.specs.Accepted.{targets_of}
use Rattle.flow_graph.specs.inner.Making.{number_at}
use Rattle.flow_graph.proofs.exits.table.Given as goal

abbrev pub invariant-loop-instr : goal.invariant-loop-instr
invariant-loop-instr l = l.entries ≡ map (number_at l.numbers) (flat_map (λ i. targets_of i.op) (take l.instr-index l.listed))
