-- The block that a call from outside runs.
use Rattle.std.specs.Prelude.{◌≡◌, ℕ, ◌<◌, Option, Some, None, length}
use Rattle.stl_tree.specs.StlRun.{Fits, block_named}
use Rattle.memory_areas.specs.declared.call.Call.{Call}
use Rattle.stl_tree.specs.declared.program.Program.{Program}

-- a call fits, and runs the block at a position; or it does not fit
abbrev pub IsCalled : Program → Call → Option ℕ → Type 0
IsCalled program call (Some block) =
    Fits program call × (block_named call.block program.blocks ≡ Some block) × (block < length program.blocks)
IsCalled program call None = Fits program call → ⊥
