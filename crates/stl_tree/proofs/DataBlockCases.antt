-- Worked rows of data blocks: what opens them, the order of faults, and operands with their number.
use Rattle.std.proofs.Common.{◌≡◌, refl, ℕ, List, [], ◌∷◌, Some, None}
use Rattle.memory_areas.specs.Areas.{Areas}
use Rattle.memory_areas.specs.End.{End, Ended}
use Rattle.memory_areas.specs.declared.place.AreaName.TheVariants as area
use Rattle.s7_base.specs.declared.check.Check.TheVariants as check
use Rattle.s7_base.specs.declared.outcome.Fault.TheVariants.{AreaLength, DbMissing, DbNotOpen}
use Rattle.s7_base.specs.declared.word.Width.TheVariants as width
use Rattle.stl_tree.specs.StlRun.{stl_run}
use Rattle.stl_tree.specs.declared.program.BitArg.TheVariants as bit
use Rattle.stl_tree.specs.declared.program.LoadArg.TheVariants as load
use Rattle.stl_tree.specs.declared.program.Op.{Op}
use Rattle.stl_tree.specs.declared.program.Op.TheVariants as op
use Rattle.stl_tree.specs.declared.program.OpenArg.TheVariants.{Number}
use Rattle.stl_tree.specs.declared.program.Operand.{Operand}
use Rattle.stl_tree.specs.declared.program.Operand.TheVariants.{Direct, Opened}
use Rattle.stl_tree.proofs.RunCases.{call_of, program_of}

-- one byte of outputs, and the data blocks 5 and 6 of two bytes each
abbrev memory_with : ℕ → ℕ → ℕ → ℕ → ℕ → Areas
memory_with output a b c d =
    record {
      inputs = [];
      outputs = output ∷ [];
      markers = [];
      blocks = record { number = 5; bytes = a ∷ b ∷ [] } ∷ record { number = 6; bytes = c ∷ d ∷ [] } ∷ [];
    }

-- a run from the blocks 1 2 and 3 4
abbrev run_of : List Op → End
run_of ops = stl_run (program_of ops) (call_of 1) (memory_with 0 1 2 3 4) 20

abbrev stored_at : Operand → Op
stored_at o = op.Transfer o width.Byte

abbrev output : Op
output = stored_at (Direct area.Q 0 0)

no_block_is_open : run_of (op.Load (load.At (Direct area.Db 0 0) width.Word) ∷ []) ≡ Ended (memory_with 0 1 2 3 4) (Some DbNotOpen)
no_block_is_open = refl

-- opening tests nothing
opened_is_missing : run_of (op.OpenDb (Number 7) ∷ []) ≡ Ended (memory_with 0 1 2 3 4) None
opened_is_missing = refl

is_missing : run_of (op.OpenDb (Number 7) ∷ op.Load (load.At (Direct area.Db 100 0) width.Word) ∷ []) ≡ Ended (memory_with 0 1 2 3 4) (Some DbMissing)
is_missing = refl

past_the_end : run_of (op.OpenDb (Number 5) ∷ op.Load (load.At (Direct area.Db 1 0) width.Word) ∷ []) ≡ Ended (memory_with 0 1 2 3 4) (Some AreaLength)
past_the_end = refl

last_byte : run_of (op.OpenDb (Number 5) ∷ op.Load (load.At (Direct area.Db 1 0) width.Byte) ∷ output ∷ []) ≡ Ended (memory_with 2 1 2 3 4) None
last_byte = refl

-- DB and DI are apart, and CDB turns them
instance_is_apart : run_of (op.OpenDi (Number 5) ∷ op.OpenDb (Number 6) ∷ op.Load (load.At (Direct area.Di 0 0) width.Byte) ∷ output ∷ [])
    ≡ Ended (memory_with 1 1 2 3 4) None
instance_is_apart = refl

exchanged : run_of (op.OpenDi (Number 5) ∷ op.OpenDb (Number 6) ∷ op.ExchangeDb ∷ op.Load (load.At (Direct area.Di 0 0) width.Byte) ∷ output ∷ [])
    ≡ Ended (memory_with 3 1 2 3 4) None
exchanged = refl

-- an operand with a number opens its block, for what follows too
number_opens : run_of (op.Check check.A (bit.At (Opened 6 0 1)) ∷ op.LoadDbNo ∷ output ∷ op.Assign (Direct area.Db 1 7) ∷ [])
    ≡ Ended (memory_with 6 1 2 3 132) None
number_opens = refl

-- it stays open where the access faults, which ends the run all the same
number_then_fault : run_of (op.Transfer (Opened 5 2 0) width.Byte ∷ []) ≡ Ended (memory_with 0 1 2 3 4) (Some AreaLength)
number_then_fault = refl

-- local data are the bytes of the block that runs
local_data : run_of
    (op.Load (load.Constant 9) ∷ stored_at (Direct area.L 255 0) ∷ op.Load (load.Constant 0) ∷ op.Load (load.At (Direct area.L 255 0) width.Byte) ∷ output ∷ [])
    ≡ Ended (memory_with 9 1 2 3 4) None
local_data = refl
