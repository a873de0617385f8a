use Rattle.std.proofs.Common.{◌≡◌, length}
use Rattle.stl_tree.specs.Blocks.{way_of}
use Rattle.flow_graph.proofs.exits.exit_of.Given as goal

abbrev pub invariant-loop-rest : goal.invariant-loop-rest
invariant-loop-rest l = way_of l.rest ≡ way_of l.block

abbrev pub decreases-loop-rest : goal.decreases-loop-rest
decreases-loop-rest l = length l.rest
