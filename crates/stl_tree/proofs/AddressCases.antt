-- Worked rows of address registers and indirect operands.
use Rattle.std.proofs.Common.{◌≡◌, refl, ℕ, List, [], ◌∷◌, ◌++◌, Some, None}
use Rattle.std.specs.Prelude.{replicate}
use Rattle.memory_areas.specs.Access.{code_of, name_of_code}
use Rattle.memory_areas.specs.Areas.{Areas}
use Rattle.memory_areas.specs.End.{End, Ended}
use Rattle.memory_areas.specs.declared.place.AreaName.{AreaName}
use Rattle.memory_areas.specs.declared.place.AreaName.TheVariants as area
use Rattle.s7_base.specs.declared.check.Check.TheVariants as check
use Rattle.s7_base.specs.declared.outcome.Fault.TheVariants.{Alignment, AreaCode, AreaLength, DbMissing, DbNotOpen}
use Rattle.s7_base.specs.declared.word.Width.TheVariants as width
use Rattle.stl_tree.specs.StlRun.{stl_run}
use Rattle.stl_tree.specs.declared.program.Ar.TheVariants.{One, Two}
use Rattle.stl_tree.specs.declared.program.ArLoad.TheVariants as ar_load
use Rattle.stl_tree.specs.declared.program.ArStore.TheVariants as ar_store
use Rattle.stl_tree.specs.declared.program.BitArg.TheVariants as bit
use Rattle.stl_tree.specs.declared.program.LoadArg.TheVariants as load
use Rattle.stl_tree.specs.declared.program.Op.{Op}
use Rattle.stl_tree.specs.declared.program.Op.TheVariants as op
use Rattle.stl_tree.specs.declared.program.OpenArg.TheVariants as open_arg
use Rattle.stl_tree.specs.declared.program.Operand.{Operand}
use Rattle.stl_tree.specs.declared.program.Operand.TheVariants.{ByMemory, ByRegister, Crossing, Direct}
use Rattle.stl_tree.proofs.RunCases.{call_of, program_of}

-- bytes of the bit memory, and the data block 5 with two bytes of inputs before it
abbrev memory_with : List ℕ → List ℕ → Areas
memory_with markers block =
    record { inputs = 7 ∷ 8 ∷ []; outputs = []; markers = markers; blocks = record { number = 5; bytes = block } ∷ [] }

abbrev run_of : List Op → List ℕ → List ℕ → End
run_of ops markers block = stl_run (program_of ops) (call_of 1) (memory_with markers block) 20

abbrev constant : ℕ → Op
constant c = op.Load (load.Constant c)

-- `T MD 0`, and `T MB 0`
abbrev stored : Op
stored = op.Transfer (Direct area.M 0 0) width.Dword

abbrev byte_stored : Op
byte_stored = op.Transfer (Direct area.M 0 0) width.Byte

abbrev word_at : Operand → Op
word_at o = op.Load (load.At o width.Word)

abbrev byte_at : Operand → Op
byte_at o = op.Load (load.At o width.Byte)

-- so many bytes of zero
abbrev zeros : ℕ → List ℕ
zeros n = replicate n 0

-- L P#10.0; T MD 0; L MW [MD 0]; T MW 4;
by_memory :
    run_of (constant 80 ∷ stored ∷ word_at (ByMemory area.M area.M 0) ∷ op.Transfer (Direct area.M 4 0) width.Word ∷ []) (zeros 10 ++ 18 ∷ 52 ∷ []) []
    ≡ Ended (memory_with (0 ∷ 0 ∷ 0 ∷ 80 ∷ 18 ∷ 52 ∷ 0 ∷ 0 ∷ 0 ∷ 0 ∷ 18 ∷ 52 ∷ []) []) None
by_memory = refl

-- L P#10.1; T MD 0; L MW [MD 0];
unaligned : run_of (constant 81 ∷ stored ∷ word_at (ByMemory area.M area.M 0) ∷ []) (zeros 12) []
    ≡ Ended (memory_with (0 ∷ 0 ∷ 0 ∷ 81 ∷ zeros 8) []) (Some Alignment)
unaligned = refl

-- LAR1 P#M 10.3; +AR1 P#0.6; TAR1; T MD 0;
moved : run_of (op.LoadAr One (ar_load.Constant 0x83000053) ∷ op.AddAr One (Some 6) ∷ op.StoreAr One ar_store.Accu1 ∷ stored ∷ []) (zeros 4) []
    ≡ Ended (memory_with (131 ∷ 0 ∷ 0 ∷ 89 ∷ []) []) None
moved = refl

-- LAR1 P#M 10.3; L W [AR1,P#0.0];
crossing_unaligned : run_of (op.LoadAr One (ar_load.Constant 0x83000053) ∷ word_at (Crossing One 0) ∷ []) (zeros 12) []
    ≡ Ended (memory_with (zeros 12) []) (Some Alignment)
crossing_unaligned = refl

-- L L#0; LAR1; A [AR1,P#0.0];
no_area : run_of (constant 0 ∷ op.LoadAr One ar_load.Accu1 ∷ op.Check check.A (bit.At (Crossing One 0)) ∷ []) (zeros 4) []
    ≡ Ended (memory_with (zeros 4) []) (Some AreaCode)
no_area = refl

-- V is no area of an access
no_caller : run_of (op.LoadAr Two (ar_load.Constant 0x87000000) ∷ op.Set (Crossing Two 0) ∷ []) (zeros 4) [] ≡ Ended (memory_with (zeros 4) []) (Some AreaCode)
no_caller = refl

-- the area of the register says nothing where the operand names one, and counts where it names none
area_of_the_operand : run_of (op.LoadAr One (ar_load.Constant 0x81000000) ∷ byte_at (ByRegister area.M One 8) ∷ byte_stored ∷ []) (1 ∷ 2 ∷ []) []
    ≡ Ended (memory_with (2 ∷ 2 ∷ []) []) None
area_of_the_operand = refl

area_of_the_register : run_of (op.LoadAr One (ar_load.Constant 0x81000000) ∷ byte_at (Crossing One 8) ∷ byte_stored ∷ []) (1 ∷ 2 ∷ []) []
    ≡ Ended (memory_with (8 ∷ 2 ∷ []) []) None
area_of_the_register = refl

-- bits carry into bytes, and past 65535.7 comes 0.0
carried : run_of (op.LoadAr Two (ar_load.Constant 0x83000003) ∷ op.Check check.O (bit.At (ByRegister area.M Two 6)) ∷ op.Assign (Direct area.M 0 0) ∷ [])
    (0 ∷ 2 ∷ []) [] ≡ Ended (memory_with (1 ∷ 2 ∷ []) []) None
carried = refl

wrapped : run_of (op.LoadAr One (ar_load.Constant 0x8307FFFF) ∷ byte_at (Crossing One 9) ∷ byte_stored ∷ []) (1 ∷ 2 ∷ []) []
    ≡ Ended (memory_with (2 ∷ 2 ∷ []) []) None
wrapped = refl

-- the pointer's own access comes first: no data block, one that is not there, past its end
pointer_in_no_block : run_of (word_at (ByMemory area.M area.Db 0) ∷ []) (zeros 4) [] ≡ Ended (memory_with (zeros 4) []) (Some DbNotOpen)
pointer_in_no_block = refl

pointer_past_the_end : run_of (op.OpenDi (open_arg.Number 5) ∷ word_at (ByMemory area.M area.Di 0) ∷ []) (zeros 4) (0 ∷ 0 ∷ [])
    ≡ Ended (memory_with (zeros 4) (0 ∷ 0 ∷ [])) (Some AreaLength)
pointer_past_the_end = refl

-- through a pointer into a data block, by its register
through_di : run_of (op.OpenDi (open_arg.Number 5) ∷ op.LoadAr One (ar_load.Constant 0x85000008) ∷ byte_at (Crossing One 0) ∷ byte_stored ∷ [])
    (0 ∷ []) (3 ∷ 4 ∷ []) ≡ Ended (memory_with (4 ∷ []) (3 ∷ 4 ∷ [])) None
through_di = refl

through_db : run_of (op.LoadAr One (ar_load.Constant 0x84000001) ∷ byte_at (Crossing One 0) ∷ []) (0 ∷ []) (3 ∷ 4 ∷ [])
    ≡ Ended (memory_with (0 ∷ []) (3 ∷ 4 ∷ [])) (Some DbNotOpen)
through_db = refl

-- +AR1 adds the low word of ACCU1 with its sign; the area stays
back : run_of (op.LoadAr One (ar_load.Constant 0x83000010) ∷ constant 0x7FFFFFF8 ∷ op.AddAr One None ∷ op.StoreAr One (ar_store.At (Direct area.M 0 0)) ∷ [])
    (zeros 4) [] ≡ Ended (memory_with (131 ∷ 0 ∷ 0 ∷ 8 ∷ []) []) None
back = refl

-- TAR1 loads: what was in ACCU1 goes to ACCU2
kept : run_of (constant 9 ∷ op.StoreAr One ar_store.Accu1 ∷ op.Tak ∷ byte_stored ∷ []) (0 ∷ []) [] ≡ Ended (memory_with (9 ∷ []) []) None
kept = refl

-- CAR exchanges, LAR1 AR2 and TAR1 AR2 copy
exchanged : run_of (op.LoadAr One (ar_load.Constant 5) ∷ op.ExchangeAr ∷ op.StoreAr One ar_store.Accu1 ∷ byte_stored
    ∷ op.StoreAr Two ar_store.Accu1 ∷ op.Transfer (Direct area.M 1 0) width.Byte ∷ []) (1 ∷ 1 ∷ []) [] ≡ Ended (memory_with (0 ∷ 5 ∷ []) []) None
exchanged = refl

copied : run_of (op.LoadAr One (ar_load.Constant 5) ∷ op.StoreAr One ar_store.OtherAr ∷ op.LoadAr One (ar_load.Constant 6)
    ∷ op.LoadAr One ar_load.OtherAr ∷ op.StoreAr One ar_store.Accu1 ∷ byte_stored ∷ []) (0 ∷ []) [] ≡ Ended (memory_with (5 ∷ []) []) None
copied = refl

-- a data block whose number stands in a word
by_number : run_of (op.OpenDb (open_arg.At (Direct area.M 0 0)) ∷ byte_at (Direct area.Db 1 0) ∷ byte_stored ∷ []) (0 ∷ 5 ∷ []) (3 ∷ 4 ∷ [])
    ≡ Ended (memory_with (4 ∷ 5 ∷ []) (3 ∷ 4 ∷ [])) None
by_number = refl

by_no_number : run_of (op.OpenDb (open_arg.At (Direct area.M 0 0)) ∷ byte_at (Direct area.Db 1 0) ∷ []) (0 ∷ 6 ∷ []) (3 ∷ 4 ∷ [])
    ≡ Ended (memory_with (0 ∷ 6 ∷ []) (3 ∷ 4 ∷ [])) (Some DbMissing)
by_no_number = refl

-- an area has the code that memory_areas reads as it
pub coded : (a : AreaName) → name_of_code (code_of a) ≡ Some a
coded area.I = refl
coded area.Q = refl
coded area.M = refl
coded area.L = refl
coded area.Db = refl
coded area.Di = refl
