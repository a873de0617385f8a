-- What the machine is made of, as its definitions see it.
use Rattle.block_calls.specs.Scenes.{Scene, now_at}
use Rattle.stl_machine.specs.declared.machine.Progress.{Progress}
use Rattle.stl_machine.specs.declared.machine.Progress.TheVariants as progress
use Rattle.stl_machine.specs.declared.state.State.{State}
use Rattle.stl_registers.specs.Values.{values}
use Rattle.stl_tree.specs.Now.{Now}
use Rattle.stl_tree.specs.StlRun.{Standing, running, over}
use Rattle.stl_tree.specs.declared.program.Program.{Program}

-- what calls work on
abbrev pub scene_of : State → Scene
scene_of s = record { registers = values s.registers; memory = s.memory; activations = s.frames }

-- the state of the code, as the definitions have it
abbrev pub now_of : State → Now
now_of s = now_at s.brackets s.at (scene_of s)

-- a run between two steps, from its parts
abbrev pub standing : Program → Progress → State → Standing
standing program progress.Running s = running program (now_of s)
standing program (progress.Over f) s = over s.memory f
