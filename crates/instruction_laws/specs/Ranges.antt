-- The ranges of registers and of memory, and what an instruction leaves in them.
use Rattle.std.specs.Prelude.{◌^◌, ◌<◌}
use Rattle.memory_areas.specs.Access.{HoldsBytes}
use Rattle.stl_tree.specs.Now.{Now, Effect, next, go, enter, leave, fault}
use Rattle.stl_tree.specs.Registers.{RegisterValues}

-- the accumulators and the address registers have 32 bits, and the numbers of data blocks 16
pub record AreInRange (r : RegisterValues) : Type 0 where
  pub accu1 : r.accu1 < 2 ^ 32
  pub accu2 : r.accu2 < 2 ^ 32
  pub ar1 : r.ar1 < 2 ^ 32
  pub ar2 : r.ar2 < 2 ^ 32
  pub db : r.db < 2 ^ 16
  pub di : r.di < 2 ^ 16

-- a state is in its ranges: its registers are, and its memory has only bytes
pub record IsInRange (now : Now) : Type 0 where
  pub registers : AreInRange now.registers
  pub memory : HoldsBytes now.memory

-- an instruction leaves a state in its ranges, or has a fault
abbrev pub LeavesInRange : Effect → Type 0
LeavesInRange (next now) = IsInRange now
LeavesInRange (go to now) = IsInRange now
LeavesInRange (enter call now) = IsInRange now
LeavesInRange (leave now) = IsInRange now
LeavesInRange (fault f) = Unit {0}
