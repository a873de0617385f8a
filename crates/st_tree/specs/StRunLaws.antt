-- Laws of runs.
use Rattle.std.specs.Prelude.{◌≡◌, ℕ, ◌≤◌, List, Option}
use Rattle.memory_areas.specs.Areas.{Areas}
use Rattle.memory_areas.specs.End.{Ended}
use Rattle.s7_base.specs.declared.outcome.Fault.{Fault}
use Rattle.memory_areas.specs.declared.call.Call.{Call}
use Rattle.st_tree.specs.Calls.{calls_to}
use Rattle.st_tree.specs.Meaning.{body_meaning}
use Rattle.st_tree.specs.StRun.{st_run}
use Rattle.st_tree.specs.State.{State}
use Rattle.st_tree.specs.declared.program.StProgram.{StProgram}
use Rattle.st_tree.specs.declared.program.Stmt.{Stmt}

-- more units never change a run that has ended
abbrev pub EndStays : Type 0
EndStays =
    (tree : StProgram) (call : Call) (memory : Areas) (units more : ℕ) (after : Areas) (f : Option Fault) → units ≤ more
    → st_run tree call memory units ≡ Ended after f → st_run tree call memory more ≡ Ended after f

-- a greater limit on the nesting of calls than the number of units does not change what calls do
abbrev pub DepthIsFree : Type 0
DepthIsFree =
    (tree : StProgram) (body : List Stmt) (units deep : ℕ) (s : State) → units ≤ deep
    → body_meaning tree.globals (calls_to deep tree) body units s
    ≡ body_meaning tree.globals (calls_to units tree) body units s
