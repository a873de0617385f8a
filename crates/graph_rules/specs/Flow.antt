-- The blocks of a unit of a graph program, as bodies have them: its nodes, how it goes on after each, and whether one
-- stands for the end word alone.
-- Held against: this project's own segments.
use Rattle.std.specs.Prelude.{ℕ, List, map}
use Rattle.std.specs.List.{list_any}
use Rattle.st_tree.specs.declared.graph.StExit.{StExit}
use Rattle.st_tree.specs.declared.graph.StExit.TheVariants as exit
use Rattle.st_tree.specs.declared.graph.StNode.{StNode}
use Rattle.stl_tree.specs.Blocks.{Way, always, if_made, on, one_of, stops, unless_ended}
use Rattle.stl_tree.specs.Flows.{Flow}

-- the way after a node with an exit
abbrev pub way_by : StExit → Way
way_by exit.Fall = on
way_by (exit.Jump j) = always j
way_by (exit.Branch e j) = if_made j
way_by (exit.EndIf e) = unless_ended
way_by (exit.Table e targets last) = one_of targets last
way_by exit.End = stops

-- the blocks of some nodes
abbrev pub flow_of : List StNode → Flow
flow_of nodes =
    record {
      ways = map (λ (n : StNode). way_by n.exit) nodes;
      ends_alone = list_any (λ (n : StNode). n.only_end) nodes;
    }
