-- When text and program mean the same. They have the same data blocks, the same calls fit them, and their runs from a
-- memory end alike.
-- Held against: this project's own claim.
use Rattle.std.specs.Prelude.{◌≡◌, ℕ, ◌+◌, ◌*◌, List, Option}
use Rattle.memory_areas.specs.Areas.{Areas, IsMemoryOf}
use Rattle.memory_areas.specs.End.{End, Ended}
use Rattle.memory_areas.specs.declared.data_block.DataBlock.{DataBlock}
use Rattle.s7_base.specs.declared.outcome.Fault.{Fault}
use Rattle.stl_tree.specs.StlRun.{Fits, HasNoInstance, size_of, stl_run}
use Rattle.memory_areas.specs.declared.call.Call.{Call}
use Rattle.stl_tree.specs.declared.program.Program.{Program}
use Rattle.st_tree.specs.StRun.{FitsSt, st_run}
use Rattle.st_tree.specs.declared.program.StProgram.{StProgram}

-- two runs from a memory of these data blocks, within a bound: where one ends, the other ends with the
-- same memory and the same fault, within a bound that the first one's bound gives; so where one goes on
-- for ever, the other does
pub record SameRuns (blocks : List DataBlock) (stl st : Areas → ℕ → End) (size : ℕ) : Type 0 where
  pub forth : (memory : Areas) → IsMemoryOf blocks memory → (steps : ℕ) (after : Areas) (fault : Option Fault)
      → stl memory steps ≡ Ended after fault → st memory (2 * steps) ≡ Ended after fault
  pub back : (memory : Areas) → IsMemoryOf blocks memory → (units : ℕ) (after : Areas) (fault : Option Fault)
      → st memory units ≡ Ended after fault → stl memory ((units + 1) * size) ≡ Ended after fault

-- a text has the data blocks of the program, each with its number and its bytes; each call that fits the
-- program fits the text, and its two runs are the same; a call without an instance that fits the text fits
-- the program
pub record Same (program : Program) (tree : StProgram) : Type 0 where
  pub blocks : tree.dbs ≡ program.dbs
  pub fits : (call : Call) → Fits program call → FitsSt tree call
  pub fits_back : (call : Call) → HasNoInstance call.block → FitsSt tree call → Fits program call
  pub runs : (call : Call) → Fits program call
      → SameRuns program.dbs (stl_run program call) (st_run tree call) (size_of program)
