-- When a text means the same as a graph program: they have the same data blocks, the same calls fit them, and their
-- runs end alike.
-- Held against: this project's own claim.
use Rattle.std.specs.Prelude.{◌≡◌, ℕ, ◌+◌, ◌*◌, Option}
use Rattle.memory_areas.specs.Areas.{Areas}
use Rattle.memory_areas.specs.End.{Ended}
use Rattle.memory_areas.specs.declared.call.Call.{Call}
use Rattle.s7_base.specs.declared.outcome.Fault.{Fault}
use Rattle.st_tree.specs.GraphRun.{FitsGraph, graph_run, pass_run}
use Rattle.st_tree.specs.StRun.{FitsSt, st_run}
use Rattle.st_tree.specs.declared.graph.GraphProgram.{GraphProgram}
use Rattle.st_tree.specs.declared.program.StProgram.{StProgram}

-- where a run of the graph ends within some nodes, that of the text ends with the same memory and the same fault within
-- twice as many units; where a run of the text ends within some units, that of the graph ends so within one pass more;
-- so where one goes on for ever, the other does
pub record SameAsGraph (graph : GraphProgram) (tree : StProgram) : Type 0 where
  pub blocks : tree.dbs ≡ graph.dbs
  pub fits : (call : Call) → FitsGraph graph call → FitsSt tree call
  pub fits_back : (call : Call) → FitsSt tree call → FitsGraph graph call
  pub forth : (call : Call) (memory : Areas) (nodes : ℕ) (after : Areas) (fault : Option Fault)
      → graph_run graph call memory nodes ≡ Ended after fault → st_run tree call memory (2 * nodes) ≡ Ended after fault
  pub back : (call : Call) (memory : Areas) (units : ℕ) (after : Areas) (fault : Option Fault)
      → st_run tree call memory units ≡ Ended after fault
      → pass_run graph call memory (units + 1) ≡ Ended after fault
