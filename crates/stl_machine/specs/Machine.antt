-- The machine as where its run stands.
use Rattle.std.specs.Prelude.{◌≡◌, Result, Ok, Err}
use Rattle.memory_areas.specs.Areas.{Areas, Contents}
use Rattle.s7_base.specs.declared.outcome.Outcome.{Outcome}
use Rattle.s7_base.specs.declared.outcome.Outcome.TheVariants.{Ended, Going}
use Rattle.stl_machine.specs.declared.machine.MachineRefusal.{MachineRefusal}
use Rattle.stl_machine.specs.declared.machine.MachineRefusal.TheVariants.{BadCall, NoMemory}
use Rattle.stl_tree.specs.StlRun.{Fits, Standing, running, over, at_run_start}
use Rattle.memory_areas.specs.declared.call.Call.{Call}
use Rattle.stl_tree.specs.declared.program.Program.{Program}

-- the outcome that a run shows between two steps
abbrev pub outcome_of : Standing → Outcome
outcome_of (running program now) = Going
outcome_of (over memory f) = Ended f

-- the memory of a run between two steps
abbrev pub memory_of : Standing → Contents
memory_of (running program now) = now.memory
memory_of (over memory f) = memory

-- a new machine is at the beginning of the run of its call; there is none exactly where the call does not fit, or
-- where memory ran out
abbrev pub IsNew : Program → Call → Areas → Result Standing MachineRefusal → Type 0
IsNew program call areas (Ok machine) = Fits program call × (machine ≡ at_run_start program call areas)
IsNew program call areas (Err BadCall) = Fits program call → ⊥
IsNew program call areas (Err NoMemory) = Unit {0}
