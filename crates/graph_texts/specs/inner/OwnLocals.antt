-- The local that a unit does not have yet.
use Rattle.std.specs.Prelude.{length}
use Rattle.st_tree.specs.declared.graph.GraphPou.{GraphPou}
use Rattle.text_shapes.specs.NodeCounts.{KeepsOff}

-- the nodes of a unit leave the local behind its last one alone
abbrev pub LeavesNext : GraphPou → Type 0
LeavesNext unit = KeepsOff (length unit.head.locals) unit.graph.nodes
