-- The state that instructions work on. It has registers, open brackets, memory and activations. What an instruction
-- does to it is an effect: the next instruction follows, a block is called, a block ends, or a fault ends the run.
-- Held against: the manual's chapters 'Bit Logic' and 'Program Control'.
use Rattle.std.specs.Prelude.{ℕ, List, [], ◌∷◌, length, Option, Result, Ok, Err}
use Rattle.memory_areas.specs.Areas.{Contents}
use Rattle.memory_areas.specs.declared.place.Place.{Place}
use Rattle.status_word.specs.StatusBits.{StatusBits}
use Rattle.s7_base.specs.declared.check.Entry.{Entry}
use Rattle.s7_base.specs.declared.outcome.Fault.{Fault}
use Rattle.stl_tree.specs.Registers.{RegisterValues}
use Rattle.stl_tree.specs.declared.program.BlockCall.{BlockCall}

-- an activation of a block that runs or waits for one that it called: its position in the program; that of the next
-- instruction in its body; the number of the data block that is its instance, 0 where it has none; the numbers that
-- the DB and the DI register take again when it ends; and the place of each of its formals, none where the call left
-- it out
pub record Activation : Type 0 where
  pub block : ℕ
  pub at : ℕ
  pub instance : ℕ
  pub db : ℕ
  pub di : ℕ
  pub formals : List (Option Place)

-- the state on which an instruction works: the registers; the open brackets, the last one first, at most seven; the
-- memory, with the local data and the constant actuals of each activation; and the activations, the running one first
pub record Now : Type 0 where
  pub registers : RegisterValues
  pub brackets : List Entry
  pub memory : Contents
  pub activations : List Activation

-- the number of the running activation, from 0: how many wait
abbrev pub depth : List Activation → ℕ
depth [] = 0
depth (running ∷ waiting) = length waiting

-- the state with other status bits
abbrev pub with_status : (StatusBits → StatusBits) → Now → Now
with_status row now = record now { registers = record now.registers { status = row now.registers.status } }

-- the state with other registers
abbrev pub with_registers : (RegisterValues → RegisterValues) → Now → Now
with_registers row now = record now { registers = row now.registers }

-- what an instruction does: the next one follows, or the one at a position of its body; it calls a block;
-- or its block ends, each with the state as it then is; or it ends the run by a fault and changes nothing
pub data Effect : Type 0 where
  next : Now → Effect
  go : ℕ → Now → Effect
  enter : BlockCall → Now → Effect
  leave : Now → Effect
  fault : Fault → Effect

-- the effect by a value, or by the fault instead of it
abbrev pub with_value : {A : Type 0} → Result A Fault → (A → Effect) → Effect
with_value (Ok x) effect = effect x
with_value (Err f) effect = fault f

-- the effect on the state with a memory, or by the fault instead of it
abbrev pub with_memory : Result Contents Fault → Now → (Now → Effect) → Effect
with_memory written now effect = with_value written (λ m. effect (record now { memory = m }))
