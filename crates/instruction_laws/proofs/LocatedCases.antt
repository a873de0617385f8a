-- Worked rows: the faults of an access to an operand, in their order, as a run meets them.
use Rattle.std.proofs.Common.{◌≡◌, refl, ℕ, ◌+◌, ◌*◌, ◌^◌, [], ◌∷◌, Result, Ok, Err}
use Rattle.memory_areas.specs.Areas.{Contents}
use Rattle.memory_areas.specs.declared.place.Area.TheVariants as area
use Rattle.memory_areas.specs.declared.place.AreaName.TheVariants as name
use Rattle.memory_areas.specs.declared.place.Place.{Place}
use Rattle.s7_base.specs.declared.outcome.Fault.{Fault}
use Rattle.s7_base.specs.declared.outcome.Fault.TheVariants.{DbNotOpen, DbMissing, AreaCode, Alignment, AreaLength}
use Rattle.s7_base.specs.declared.word.Width.TheVariants as width
use Rattle.stl_tree.specs.Instructions.{effect_of}
use Rattle.stl_tree.specs.Now.{Now, fault}
use Rattle.stl_tree.specs.Operands.{OperandPlace}
use Rattle.stl_tree.specs.Registers.{start}
use Rattle.stl_tree.specs.declared.program.Ar.TheVariants as ar
use Rattle.stl_tree.specs.declared.program.LoadArg.TheVariants as load
use Rattle.stl_tree.specs.declared.program.Op.TheVariants as op
use Rattle.stl_tree.specs.declared.program.Operand.{Operand}
use Rattle.stl_tree.specs.declared.program.Operand.TheVariants as operand
use Rattle.instruction_laws.specs.Located.{found_and_reached}

-- four bytes of bit memory, which are a pointer to bit 9.1, and the data block 3, which has two bytes
abbrev memory : Contents
memory =
    record {
      areas = record { inputs = []; outputs = []; markers = 0 ∷ 0 ∷ 0 ∷ 73 ∷ []; blocks = record { number = 3; bytes = 18 ∷ 52 ∷ [] } ∷ [] };
      locals = [];
      cells = [];
    }

-- a state with these numbers in the DB register and in AR1
abbrev holding : ℕ → ℕ → Now
holding db p = record { registers = record start { db = db; ar1 = p }; brackets = []; memory = memory; activations = [] }

-- a pointer with no area code
abbrev pointer : ℕ → ℕ → ℕ
pointer byte x = byte * 8 + x

-- an access to a word through an operand
abbrev word_through : Operand → ℕ → ℕ → Result OperandPlace Fault
word_through o db p = found_and_reached o width.Word (holding db p)

-- word 0 of the data block 3
abbrev word_0 : Place
word_0 = record { area = area.Db 3; byte = 0; bit = 0 }

-- DBW [AR1,P#0.0], by bytes 9 and 10 from bit 1 on: no data block is open; it is not there; a word has no bit 1; then,
-- with bit 0, the block is too short
abbrev by_register : Operand
by_register = operand.ByRegister name.Db ar.One 0

faults_in_order :
    (word_through by_register 0 (pointer 9 1) ∷ word_through by_register 4 (pointer 9 1) ∷ word_through by_register 3 (pointer 9 1)
    ∷ word_through by_register 3 (pointer 9 0) ∷ word_through by_register 3 (pointer 0 0) ∷ [])
    ≡ Err DbNotOpen ∷ Err DbMissing ∷ Err Alignment ∷ Err AreaLength
    ∷ Ok (record { place = word_0; after = holding 3 (pointer 0 0) }) ∷ []
faults_in_order = refl

-- W [AR1,P#0.0]: the code 16#80 names no area, so no data block is looked for; 16#84 is that of DB
abbrev crossing : Operand
crossing = operand.Crossing ar.One 0

code_before_alignment :
    (word_through crossing 0 (128 * 2 ^ 24 + pointer 9 1) ∷ word_through crossing 0 (132 * 2 ^ 24 + pointer 9 1) ∷ [])
    ≡ Err AreaCode ∷ Err DbNotOpen ∷ []
code_before_alignment = refl

-- DBW [MD 2] and DBW [MD 0] with no data block open: the pointer is read first, and MD 2 lies too far
pointer_first :
    (word_through (operand.ByMemory name.Db name.M 2) 0 0 ∷ word_through (operand.ByMemory name.Db name.M 0) 0 0 ∷ [])
    ≡ Err AreaLength ∷ Err DbNotOpen ∷ []
pointer_first = refl

-- DB0.DBW 0 and DB4.DBW 9 with the data block 3 open, and DB3.DBW 0 with none: each by its own number, which stays in
-- the DB register
by_its_number :
    (word_through (operand.Opened 0 0 0) 3 0 ∷ word_through (operand.Opened 4 9 0) 3 0 ∷ word_through (operand.Opened 3 0 0) 0 0 ∷ [])
    ≡ Err DbNotOpen ∷ Err DbMissing ∷ Ok (record { place = word_0; after = holding 3 0 }) ∷ []
by_its_number = refl

-- and so ends L DBW [AR1,P#0.0]
load_faults : effect_of (op.Load (load.At by_register width.Word)) (holding 4 (pointer 9 1)) ≡ fault DbMissing
load_faults = refl
