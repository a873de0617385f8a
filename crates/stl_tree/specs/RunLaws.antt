-- Laws of runs.
use Rattle.std.specs.Prelude.{◌≡◌, ℕ, ◌+◌, ◌≤◌, Option}
use Rattle.memory_areas.specs.Areas.{Areas}
use Rattle.memory_areas.specs.End.{Ended}
use Rattle.s7_base.specs.declared.outcome.Fault.{Fault}
use Rattle.stl_tree.specs.StlRun.{at_run_start, end_of, steps_on, stl_run}
use Rattle.memory_areas.specs.declared.call.Call.{Call}
use Rattle.stl_tree.specs.declared.program.Program.{Program}

-- more steps never change a run that has ended
abbrev pub EndStays : Type 0
EndStays =
    (program : Program) (call : Call) (memory : Areas) (n more : ℕ) (after : Areas) (f : Option Fault) → n ≤ more
    → stl_run program call memory n ≡ Ended after f → stl_run program call memory more ≡ Ended after f

-- a run of n + j steps is a run of n steps, continued by j steps
abbrev pub StepsAdd : Type 0
StepsAdd =
    (program : Program) (call : Call) (memory : Areas) (n j : ℕ)
    → stl_run program call memory (n + j) ≡ end_of (steps_on j (steps_on n (at_run_start program call memory)))
