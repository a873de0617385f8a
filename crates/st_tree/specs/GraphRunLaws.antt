-- Laws of graph runs.
use Rattle.std.specs.Prelude.{◌≡◌, ℕ, ◌≤◌, ◌<◌, false, slice_get, Option, Some}
use Rattle.memory_areas.specs.Areas.{Areas}
use Rattle.memory_areas.specs.End.{Ended}
use Rattle.s7_base.specs.declared.outcome.Fault.{Fault}
use Rattle.memory_areas.specs.declared.call.Call.{Call}
use Rattle.st_tree.specs.GraphRun.{Counting, counted_run, most_nodes, nodes_do}
use Rattle.st_tree.specs.State.{State}
use Rattle.st_tree.specs.declared.graph.GraphPou.{GraphPou}
use Rattle.st_tree.specs.declared.graph.GraphProgram.{GraphProgram}

-- a way that is not counted leads forward; this is so with nodes and with passes
abbrev pub FreeIsForward : Counting → Type 0
FreeIsForward counts = (i j : ℕ) → counts i j ≡ false → i < j

-- nodes that may follow one another in a larger number than the definition of a run lets them do the same
abbrev pub LengthIsFree : Type 0
LengthIsFree =
    (counts : Counting) → FreeIsForward counts
    → (graph : GraphProgram) (n : ℕ) (unit : GraphPou) → slice_get graph.pous n ≡ Some unit
    → (units most : ℕ) (s : State) → most_nodes graph units ≤ most
    → nodes_do counts graph most unit.graph.nodes 0 units s
    ≡ nodes_do counts graph (most_nodes graph units) unit.graph.nodes 0 units s

-- a larger bound never changes a run that has ended
abbrev pub GraphEndStays : Type 0
GraphEndStays =
    (counts : Counting) → FreeIsForward counts
    → (graph : GraphProgram) (call : Call) (memory : Areas) (units more : ℕ) (after : Areas) (f : Option Fault)
    → units ≤ more → counted_run counts graph call memory units ≡ Ended after f
    → counted_run counts graph call memory more ≡ Ended after f
