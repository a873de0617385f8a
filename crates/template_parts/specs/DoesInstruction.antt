-- What the statements of an instruction do that opens and closes no bracket.
use Rattle.std.specs.Prelude.{◌≡◌, ℕ, ◌-◌, ◌<◌, List, length, slice_get}
use Rattle.memory_areas.specs.Areas.{Contents}
use Rattle.s7_base.specs.declared.outcome.Fault.{Fault}
use Rattle.stl_tree.specs.Now.{Effect, Now, enter, fault, go, leave, next}
use Rattle.st_tree.specs.Meaning.{Out, Faults, Normal}
use Rattle.st_tree.specs.State.{State, own_of}
use Rattle.template_parts.specs.Related.{Frames, Related}

-- statements ended that began in the state s with these units: in a state that is related to the one after the
-- instruction, with no unit taken and as many locals; the locals below `used` are as they were, so that they keep
-- what they kept of open brackets
pub record Leads (ended : Out) (units used : ℕ) (frames : Frames) (s : State) (after : Now) : Type 0 where
  pub to : State
  pub goes : ended ≡ Normal units to
  pub related : Related frames after to
  pub as_many : length (own_of to.activations) ≡ length (own_of s.activations)
  pub below : (i : ℕ) → i < used → slice_get (own_of to.activations) i ≡ slice_get (own_of s.activations) i

-- statements ended by a fault, with the areas of the memory as they were
pub record Stops (ended : Out) (before : Contents) (f : Fault) : Type 0 where
  pub at : State
  pub stops : ended ≡ Faults f at
  pub areas : at.memory.areas ≡ before.areas

-- statements did what the instruction does
abbrev pub DoesInstruction : Out → ℕ → ℕ → Frames → State → Contents → Effect → Type 0
DoesInstruction ended units used frames s memory (next after) = Leads ended units used frames s after
DoesInstruction ended units used frames s memory (fault f) = Stops ended memory f
DoesInstruction ended units used frames s memory (go to after) = ⊥
DoesInstruction ended units used frames s memory (enter call after) = ⊥
DoesInstruction ended units used frames s memory (leave after) = ⊥
