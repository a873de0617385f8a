-- What an instruction did to a state, and what a run stands before.
use Rattle.std.specs.Prelude.{◌≡◌, Option, None, Result, Ok, Err}
use Rattle.s7_base.specs.declared.outcome.Fault.{Fault}
use Rattle.stl_machine.specs.declared.effect.Effect.{Effect as Found}
use Rattle.stl_machine.specs.declared.effect.Effect.TheVariants.{Go, Leave, Next}
use Rattle.stl_machine.specs.declared.state.State.{State}
use Rattle.stl_machine.specs.inner.Views.{now_of}
use Rattle.stl_tree.specs.Now.{Effect, next, go, leave, fault}
use Rattle.stl_tree.specs.StlRun.{Standing, running, over, instruction}
use Rattle.stl_tree.specs.declared.program.Instr.{Instr}

-- an instruction had its defined effect, with the state after it; a fault leaves the memory as it was
abbrev pub HasEffect : Effect → Result Found Fault → State → State → Type 0
HasEffect defined (Ok Next) before after = defined ≡ next (now_of after)
HasEffect defined (Ok (Go to)) before after = defined ≡ go to (now_of after)
HasEffect defined (Ok Leave) before after = defined ≡ leave (now_of after)
HasEffect defined (Err f) before after = (defined ≡ fault f) × (after.memory ≡ before.memory)

-- an instruction had its defined effect, and the activations and the position in the body are as they were
pub record Does (defined : Effect) (result : Result Found Fault) (before after : State) : Type 0 where
  pub effect : HasEffect defined result before after
  pub frames : after.frames ≡ before.frames
  pub at : after.at ≡ before.at

-- the next instruction of a run; none where it is over, or where no instruction follows
abbrev pub next_of : Standing → Option Instr
next_of (running program now) = instruction program now.activations
next_of (over memory f) = None
