-- The graph of a body. It has a node for each block of the body, with the exit by which the block goes on, and the cuts
-- of these blocks.
-- Held against: the manual's chapters 'Logic Control' and 'Program Control', and this project's own blocks.
use Rattle.std.specs.Prelude.{◌≡◌, ℕ, ◌+◌, ◌==◌, List, [], ◌∷◌, map, slice_get, Some}
use Rattle.std.specs.List.{list_any}
use Rattle.stl_tree.specs.Blocks.{AreBlocksOf, Extent, Way, always, if_made, instructions_of, on, one_of, stops, unless_ended, way_of}
use Rattle.stl_tree.specs.Segments.{AreCuts, Ways}
use Rattle.stl_tree.specs.Flows.{Flow, ways_by}
use Rattle.stl_tree.specs.declared.program.Instr.{Instr}
use Rattle.flow_graph.specs.declared.graph.Exit.{Exit}
use Rattle.flow_graph.specs.declared.graph.Exit.TheVariants as exit
use Rattle.flow_graph.specs.declared.graph.Graph.{Graph}
use Rattle.flow_graph.specs.declared.graph.Node.{Node}

-- the block of a node
abbrev pub extent_of : Node → Extent
extent_of node = record { first = node.first; past = node.past }

-- the node of a number begins at a position
abbrev pub BeginsAt : List Node → ℕ → ℕ → Type 0
BeginsAt nodes j at = (node : Node) × (slice_get nodes j ≡ Some node) × (node.first ≡ at)

-- the nodes of some numbers begin at these positions
abbrev pub BeginAt : List Node → List ℕ → List ℕ → Type 0
BeginAt nodes [] [] = Unit {0}
BeginAt nodes [] (at ∷ more) = ⊥
BeginAt nodes (j ∷ rest) [] = ⊥
BeginAt nodes (j ∷ rest) (at ∷ more) = BeginsAt nodes j at × BeginAt nodes rest more

-- an exit leads to the nodes that begin where a block goes on
abbrev pub IsExitTo : List Node → Way → Exit → Type 0
IsExitTo nodes on exit.Fall = Unit {0}
IsExitTo nodes (always to) (exit.Jump j) = BeginsAt nodes j to
IsExitTo nodes (if_made to) (exit.Branch j) = BeginsAt nodes j to
IsExitTo nodes unless_ended exit.EndIf = Unit {0}
IsExitTo nodes (one_of targets label) (exit.Table js j) = BeginAt nodes js targets × BeginsAt nodes j label
IsExitTo nodes stops exit.End = Unit {0}
IsExitTo nodes way other = ⊥

-- the way after a node, by the numbers of nodes
abbrev pub way_by : Exit → Way
way_by exit.Fall = on
way_by (exit.Jump j) = always j
way_by (exit.Branch j) = if_made j
way_by exit.EndIf = unless_ended
way_by (exit.Table js j) = one_of js j
way_by exit.End = stops

-- the ways after a node, as blocks have them
abbrev pub ways_of : Exit → Ways
ways_of exit = ways_by (way_by exit)

-- the ways after nodes with these exits
abbrev pub ways_after : List Exit → List Ways
ways_after exits = map ways_of exits

-- the blocks of a body of so many instructions
abbrev pub flow_of : ℕ → List Node → Flow
flow_of size nodes =
    record {
      ways = map (λ (node : Node). way_by node.exit) nodes;
      ends_alone = list_any (λ (node : Node). node.first + 1 == size) nodes;
    }

-- each of some nodes has the exit of its block
abbrev pub HaveExits : List Instr → List Node → Type 0
HaveExits body nodes = (i : ℕ) (node : Node) → slice_get nodes i ≡ Some node
    → IsExitTo nodes (way_of (instructions_of body (extent_of node))) node.exit

-- a graph is that of a body
pub record IsGraphOf (body : List Instr) (graph : Graph) : Type 0 where
  pub nodes : AreBlocksOf body (map extent_of graph.nodes)
  pub exits : HaveExits body graph.nodes
  pub cuts : AreCuts (map (λ (node : Node). ways_of node.exit) graph.nodes) graph.cuts
