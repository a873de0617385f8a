-- What is true of a machine between two steps.
use Rattle.block_calls.specs.Fitting.{AreActivationsOf}
use Rattle.memory_areas.specs.Memory.{HasBlocks}
use Rattle.stl_machine.specs.declared.machine.Progress.{Progress}
use Rattle.stl_machine.specs.declared.machine.Progress.TheVariants as progress
use Rattle.stl_machine.specs.declared.state.State.{State}
use Rattle.stl_tree.specs.declared.program.Program.{Program}

-- a state is one that a run of a program can have: its activations are of the program, and its memory has the data
-- blocks
pub record IsStateOf (program : Program) (s : State) : Type 0 where
  pub fitting : AreActivationsOf program s.frames
  pub memory : HasBlocks program.dbs s.memory

-- the same of a run that goes on; of one that is over nothing is asked
abbrev pub IsSound : Program → Progress → State → Type 0
IsSound program progress.Running s = IsStateOf program s
IsSound program (progress.Over f) s = Unit {0}
