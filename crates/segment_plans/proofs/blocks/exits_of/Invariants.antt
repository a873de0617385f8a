use Rattle.std.proofs.Common.{◌≡◌, map, take}
use Rattle.segment_plans.specs.inner.Finding.{way_of}
use Rattle.segment_plans.proofs.blocks.exits_of.Given as goal

abbrev pub invariant-loop-node : goal.invariant-loop-node
invariant-loop-node l = l.exits.items ≡ map (λ node. way_of node.exit) (take l.node-index l.nodes)
