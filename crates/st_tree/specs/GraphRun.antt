-- What a graph program does when one of its units is called from outside, within a bound on what is counted: the
-- nodes that are begun, or the passes through units.
use Rattle.std.specs.Prelude.{ℕ, zero, suc, ◌*◌, nat_lt, Bool, true, false, not, if◌then◌else◌, ℤ, pos, negsuc, List, length, map, find, slice_get, Option, Some, None, Result, Ok, Err}
use Rattle.memory_areas.specs.Access.{and_then}
use Rattle.memory_areas.specs.Areas.{Areas}
use Rattle.memory_areas.specs.End.{End, Going}
use Rattle.s7_base.specs.declared.outcome.Fault.{Fault}
use Rattle.memory_areas.specs.declared.call.Call.{Call}
use Rattle.st_tree.specs.Calls.{after_unit, enter_with, state_on_entry, located_actuals}
use Rattle.s7_base.specs.Numbers.{greatest}
use Rattle.st_tree.specs.Meaning.{Normal, Faults, NoUnits, Sem, Calls, body_meaning, then_do}
use Rattle.st_tree.specs.StRun.{FitsSt, end_seen, is_meant, state_at_start}
use Rattle.st_tree.specs.State.{State}
use Rattle.st_tree.specs.Value.{value}
use Rattle.st_tree.specs.Values.{is_set}
use Rattle.st_tree.specs.declared.graph.GraphPou.{GraphPou}
use Rattle.st_tree.specs.declared.graph.GraphProgram.{GraphProgram}
use Rattle.st_tree.specs.declared.graph.StExit.{StExit}
use Rattle.st_tree.specs.declared.graph.StExit.TheVariants as exit
use Rattle.st_tree.specs.declared.graph.StNode.{StNode}
use Rattle.st_tree.specs.declared.program.Located.{Located}
use Rattle.st_tree.specs.declared.program.StProgram.{StProgram}
use Rattle.st_tree.specs.declared.state.Reference.{Reference}

-- What is counted

-- whether the way from one node of a unit to another is counted
abbrev pub Counting : Type 0
Counting = ℕ → ℕ → Bool

-- each node that is begun is counted
abbrev pub each_node : Counting
each_node from to = true

-- each pass is counted: a way to the same node or an earlier one
abbrev pub each_pass : Counting
each_pass from to = not (nat_lt from to)

-- what is counted takes a unit of work first; where none is left it is not begun
abbrev pub for_one_unit : Sem → Sem
for_one_unit begun zero s = NoUnits s
for_one_unit begun (suc units) s = begun units s

-- what is counted takes a unit of work only where it is counted
abbrev pub counted_if : Bool → Sem → Sem
counted_if true begun units s = for_one_unit begun units s
counted_if false begun units s = begun units s

-- Exits

-- where an exit leads: to a node, or out of the unit
pub data Way : Type 0 where
  to : ℕ → Way
  out : Way

-- the node of an entry of a table, or else the last one
abbrev pub entry_or : Option ℕ → ℕ → ℕ
entry_or None last = last
entry_or (Some j) last = j

-- the node of a number in a table
abbrev pub chosen_node : ℤ → List ℕ → ℕ → ℕ
chosen_node (pos k) targets last = entry_or (slice_get targets k) last
chosen_node (negsuc k) targets last = last

-- where the exit of the node at a position leads
abbrev pub way_of : List Located → ℕ → StExit → State → Result Way Fault
way_of globals i exit.Fall s = Ok (to (suc i))
way_of globals i (exit.Jump j) s = Ok (to j)
way_of globals i (exit.Branch e j) s =
    and_then (value globals e s) (λ v. Ok (if is_set v then to j else to (suc i)))
way_of globals i (exit.EndIf e) s = and_then (value globals e s) (λ v. Ok (if is_set v then out else to (suc i)))
way_of globals i (exit.Table e targets last) s =
    and_then (value globals e s) (λ v. Ok (to (chosen_node v.n targets last)))
way_of globals i exit.End s = Ok out

-- what is done after the node at a position on its way, by what the nodes do
abbrev pub follow : Counting → (ℕ → Sem) → ℕ → Result Way Fault → Sem
follow counts nodes i (Ok (to j)) units s = counted_if (counts i j) (nodes j) units s
follow counts nodes i (Ok out) units s = Normal units s
follow counts nodes i (Err f) units s = Faults f s

-- what the exit of the node at a position does
abbrev pub exit_meaning : List Located → Counting → (ℕ → Sem) → ℕ → StExit → Sem
exit_meaning globals counts nodes i exit units s = follow counts nodes i (way_of globals i exit s) units s

-- Nodes

-- what a node does, and what follows it; where no node is at the position, as in no plain graph, the run never ends
abbrev pub node_meaning : List Located → Counting → Calls → (ℕ → Sem) → ℕ → Option StNode → Sem
node_meaning globals counts calls nodes i None units s = NoUnits s
node_meaning globals counts calls nodes i (Some node) units s =
    then_do (body_meaning globals calls node.steps units s) (exit_meaning globals counts nodes i node.exit)

-- Calls

-- what a unit does whose formals have these references, by what its nodes do; its first node is counted
abbrev pub unit_begun : (List StNode → Sem) → Option GraphPou → List Reference → Sem
unit_begun begin None formals units s = NoUnits s
unit_begun begin (Some unit) formals units s =
    after_unit (for_one_unit (begin unit.graph.nodes) units (state_on_entry unit.head formals s))

-- a call locates its actuals, then begins the unit
abbrev pub graph_calls : (List StNode → Sem) → GraphProgram → Calls
graph_calls begin graph n actuals units s =
    enter_with (unit_begun begin (slice_get graph.pous n)) (located_actuals graph.globals actuals s) units s

-- Runs

-- what nodes do from the one at a position on, where at most this many follow one another, those of called units
-- among them
abbrev pub nodes_do : Counting → GraphProgram → ℕ → List StNode → ℕ → Sem
nodes_do counts graph zero nodes i units s = NoUnits s
nodes_do counts graph (suc most) nodes i units s =
    node_meaning graph.globals counts (graph_calls (λ begun. nodes_do counts graph most begun 0) graph)
    (nodes_do counts graph most nodes) i (slice_get nodes i) units s

-- how many nodes the longest unit has
abbrev pub longest : GraphProgram → ℕ
longest graph = greatest (map (λ (u : GraphPou). length u.graph.nodes) graph.pous)

-- how many nodes can follow one another within some units of work: where no way is counted, they only lead forward
abbrev pub most_nodes : GraphProgram → ℕ → ℕ
most_nodes graph units = suc units * suc (longest graph)

-- the run of a unit; one that does not exist never ends
abbrev pub run_of_graph : Counting → GraphProgram → Option GraphPou → Call → Areas → ℕ → End
run_of_graph counts graph None call memory units = Going
run_of_graph counts graph (Some unit) call memory units =
    end_seen (for_one_unit (nodes_do counts graph (most_nodes graph units) unit.graph.nodes 0) units
    (state_at_start unit.head call memory))

-- the run of a call within a bound on what is counted
abbrev pub counted_run : Counting → GraphProgram → Call → Areas → ℕ → End
counted_run counts graph call memory units =
    run_of_graph counts graph (find (λ (u : GraphPou). is_meant call.block u.head) graph.pous) call memory units

-- the run of a call that begins at most this many nodes
abbrev pub graph_run : GraphProgram → Call → Areas → ℕ → End
graph_run graph call memory nodes = counted_run each_node graph call memory nodes

-- the run of a call in at most this many passes: one at the start, one for each unit that is called and one for each
-- way to the same node or an earlier one
abbrev pub pass_run : GraphProgram → Call → Areas → ℕ → End
pass_run graph call memory passes = counted_run each_pass graph call memory passes

-- Calls from outside

-- the heads of a graph program, as a text
abbrev pub heads_of : GraphProgram → StProgram
heads_of graph =
    record { dbs = graph.dbs; globals = graph.globals; pous = map (λ (u : GraphPou). u.head) graph.pous }

-- a call fits a graph program where it fits its heads
abbrev pub FitsGraph : GraphProgram → Call → Type 0
FitsGraph graph call = FitsSt (heads_of graph) call
