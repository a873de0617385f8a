-- Worked runs of calls: how actuals are found, what a called block reads and writes, and what is put back at its end.
use Rattle.std.proofs.Common.{◌≡◌, refl, ℕ, suc, List, [], ◌∷◌, ◌++◌, map, Some, None}
use Rattle.memory_areas.specs.Areas.{Areas}
use Rattle.memory_areas.specs.End.{End, Ended, Going}
use Rattle.memory_areas.specs.declared.call.BlockName.{BlockName}
use Rattle.memory_areas.specs.declared.call.BlockName.TheVariants as name
use Rattle.memory_areas.specs.declared.call.Call.{Call}
use Rattle.memory_areas.specs.declared.place.Area.TheVariants as place_area
use Rattle.memory_areas.specs.declared.place.AreaName.TheVariants as area
use Rattle.s7_base.specs.declared.check.Check.TheVariants as check
use Rattle.s7_base.specs.declared.outcome.Fault.TheVariants.{AreaLength, DbNotOpen}
use Rattle.s7_base.specs.declared.word.Width.{Width}
use Rattle.s7_base.specs.declared.word.Width.TheVariants as width
use Rattle.stl_tree.specs.StlRun.{stl_run}
use Rattle.stl_tree.specs.declared.program.Actual.{Actual}
use Rattle.stl_tree.specs.declared.program.Actual.TheVariants as actual
use Rattle.stl_tree.specs.declared.program.BitArg.TheVariants as bit
use Rattle.stl_tree.specs.declared.program.Block.{Block}
use Rattle.stl_tree.specs.declared.program.Formal.{Formal}
use Rattle.stl_tree.specs.declared.program.LoadArg.TheVariants as load
use Rattle.stl_tree.specs.declared.program.Mode.{Mode}
use Rattle.stl_tree.specs.declared.program.Mode.TheVariants as mode
use Rattle.stl_tree.specs.declared.program.Op.{Op}
use Rattle.stl_tree.specs.declared.program.Op.TheVariants as op
use Rattle.stl_tree.specs.declared.program.OpenArg.TheVariants as open_arg
use Rattle.stl_tree.specs.declared.program.Operand.{Operand}
use Rattle.stl_tree.specs.declared.program.Operand.TheVariants as operand
use Rattle.stl_tree.specs.declared.program.Program.{Program}

-- Programs

-- a block with these formals and instructions, and its end word
abbrev block_of : BlockName → List Formal → List Op → Block
block_of called formals ops =
    record {
      name = called;
      line = record { 0 = 1 };
      formals = formals;
      body = map (λ (o : Op). record { line = record { 0 = 3 }; op = o }) (ops ++ op.BlockEnd ∷ []);
    }

-- OB 1 at position 0, and further blocks from position 1 on; DB 5 is an instance of FB 1
abbrev program_of : List Op → List Block → Program
program_of ops called =
    record {
      dbs = [];
      instances = record { db = 5; fb = 1 } ∷ [];
      blocks = block_of (name.Ob 1) [] ops ∷ called;
      symbols = [];
    }

-- four bytes of bit memory, and the data blocks 5 and 6 of four and two bytes
abbrev memory_of : List ℕ → List ℕ → List ℕ → Areas
memory_of markers five six =
    record {
      inputs = [];
      outputs = [];
      markers = markers;
      blocks = record { number = 5; bytes = five } ∷ record { number = 6; bytes = six } ∷ [];
    }

abbrev memory : Areas
memory = memory_of (1 ∷ 2 ∷ 3 ∷ 4 ∷ []) (5 ∷ 6 ∷ 7 ∷ 8 ∷ []) (9 ∷ 10 ∷ [])

abbrev run_of : List Op → List Block → End
run_of ops called = stl_run (program_of ops called) (record { block = name.Ob 1; instance = 0; actuals = [] }) memory 40

-- how a run of these blocks ends from that memory, without a fault
abbrev ended_with : List ℕ → List ℕ → List ℕ → End
ended_with markers five six = Ended (memory_of markers five six) None

-- Operands, formals and calls

abbrev byte_at : ℕ → Operand
byte_at n = operand.Direct area.M n 0

abbrev bit_at : ℕ → Operand
bit_at x = operand.Direct area.M 0 x

abbrev load_byte : Operand → Op
load_byte o = op.Load (load.At o width.Byte)

abbrev load_constant : ℕ → Op
load_constant n = op.Load (load.Constant n)

abbrev store_byte : Operand → Op
store_byte o = op.Transfer o width.Byte

abbrev formal_of : Mode → Width → ℕ → Formal
formal_of m w byte = record { name = []; mode = m; width = w; byte = byte; bit = 0 }

-- CALL of the block at a position, with an instance or none
abbrev call : ℕ → ℕ → List Actual → Op
call block instance actuals = op.Call (record { block = block; instance = instance; actuals = actuals })

-- CC of the block at a position
abbrev call_if : ℕ → Op
call_if block = op.CallIf (record { block = block; instance = 0; actuals = [] })

abbrev at : Operand → Actual
at o = actual.At o

-- A function's formals are its actuals

-- FC 10 with an input and an output of a byte: L #0; T #1;
abbrev mover : Block
mover = block_of (name.Fc 10) (formal_of mode.Input width.Byte 0 ∷ formal_of mode.Output width.Byte 0 ∷ [])
    (load_byte (operand.Formal 0) ∷ store_byte (operand.Formal 1) ∷ [])

a_place_is_read : run_of (call 1 0 (at (byte_at 0) ∷ at (byte_at 3) ∷ []) ∷ []) (mover ∷ [])
    ≡ ended_with (1 ∷ 2 ∷ 3 ∷ 1 ∷ []) (5 ∷ 6 ∷ 7 ∷ 8 ∷ []) (9 ∷ 10 ∷ [])
a_place_is_read = refl

a_constant_is_read : run_of (call 1 0 (actual.Constant 77 ∷ at (byte_at 3) ∷ []) ∷ []) (mover ∷ [])
    ≡ ended_with (1 ∷ 2 ∷ 3 ∷ 77 ∷ []) (5 ∷ 6 ∷ 7 ∷ 8 ∷ []) (9 ∷ 10 ∷ [])
a_constant_is_read = refl

-- AN #0; = #1; A #0; = M 0.4; with one bit for both formals: what is written to the output is read at the input
inputs_are_references : run_of (call 1 0 (at (bit_at 1) ∷ at (bit_at 1) ∷ []) ∷ [])
    (block_of (name.Fc 10) (formal_of mode.Input width.Bit 0 ∷ formal_of mode.Output width.Bit 0 ∷ [])
    (op.Check check.An (bit.At (operand.Formal 0)) ∷ op.Assign (operand.Formal 1)
    ∷ op.Check check.A (bit.At (operand.Formal 0)) ∷ op.Assign (bit_at 4) ∷ []) ∷ [])
    ≡ ended_with (19 ∷ 2 ∷ 3 ∷ 4 ∷ []) (5 ∷ 6 ∷ 7 ∷ 8 ∷ []) (9 ∷ 10 ∷ [])
inputs_are_references = refl

-- FC 11 gives its formals on to FC 10, turned
abbrev turner : Block
turner = block_of (name.Fc 11) (formal_of mode.Output width.Byte 0 ∷ formal_of mode.Input width.Byte 0 ∷ [])
    (call 1 0 (at (operand.Formal 1) ∷ at (operand.Formal 0) ∷ []) ∷ [])

a_formal_is_given_on : run_of (call 2 0 (at (byte_at 3) ∷ at (byte_at 0) ∷ []) ∷ []) (mover ∷ turner ∷ [])
    ≡ ended_with (1 ∷ 2 ∷ 3 ∷ 1 ∷ []) (5 ∷ 6 ∷ 7 ∷ 8 ∷ []) (9 ∷ 10 ∷ [])
a_formal_is_given_on = refl

-- a constant that is given on is a cell of the first call still
a_constant_is_given_on : run_of (call 2 0 (at (byte_at 3) ∷ actual.Constant 77 ∷ []) ∷ []) (mover ∷ turner ∷ [])
    ≡ ended_with (1 ∷ 2 ∷ 3 ∷ 77 ∷ []) (5 ∷ 6 ∷ 7 ∷ 8 ∷ []) (9 ∷ 10 ∷ [])
a_constant_is_given_on = refl

-- L #0; T #1; L 99; T #0; : a constant that the block writes is there again at the next call
constants_last_one_call : run_of (call 1 0 (actual.Constant 77 ∷ at (byte_at 2) ∷ []) ∷ call 1 0 (actual.Constant 78 ∷ at (byte_at 3) ∷ []) ∷ [])
    (block_of (name.Fc 10) (formal_of mode.Input width.Byte 0 ∷ formal_of mode.Output width.Byte 0 ∷ [])
    (load_byte (operand.Formal 0) ∷ store_byte (operand.Formal 1) ∷ load_constant 99 ∷ store_byte (operand.Formal 0) ∷ []) ∷ [])
    ≡ ended_with (1 ∷ 2 ∷ 77 ∷ 78 ∷ []) (5 ∷ 6 ∷ 7 ∷ 8 ∷ []) (9 ∷ 10 ∷ [])
constants_last_one_call = refl

-- Local data

-- L LB 0 of the caller is given to a block that has local data of its own: L LB 0; T MB 1; L #0; T MB 2; L 9; T #0;
-- and then the caller stores LB 0 in MB 3
local_data_are_given : run_of
    (load_constant 7 ∷ store_byte (operand.Direct area.L 0 0) ∷ call 1 0 (at (operand.Direct area.L 0 0) ∷ [])
    ∷ load_byte (operand.Direct area.L 0 0) ∷ store_byte (byte_at 3) ∷ [])
    (block_of (name.Fc 10) (formal_of mode.InOut width.Byte 0 ∷ [])
    (load_byte (operand.Direct area.L 0 0) ∷ store_byte (byte_at 1) ∷ load_byte (operand.Formal 0) ∷ store_byte (byte_at 2)
    ∷ load_constant 9 ∷ store_byte (operand.Formal 0) ∷ []) ∷ [])
    ≡ ended_with (1 ∷ 0 ∷ 7 ∷ 9 ∷ []) (5 ∷ 6 ∷ 7 ∷ 8 ∷ []) (9 ∷ 10 ∷ [])
local_data_are_given = refl

-- Instances

-- an input, an output and an in-out, each a byte, of FB 1 in the bytes 0, 1 and 2 of its instance
abbrev three : List Formal
three = formal_of mode.Input width.Byte 0 ∷ formal_of mode.Output width.Byte 1 ∷ formal_of mode.InOut width.Byte 2 ∷ []

abbrev in_instance : ℕ → Operand
in_instance n = operand.Direct area.Di n 0

-- L DIB 0; T DIB 1; L DIB 2; T DIB 3; L 99; T DIB 2; T DIB 0;
abbrev keeper : Block
keeper = block_of (name.Fb 1) three
    (load_byte (in_instance 0) ∷ store_byte (in_instance 1) ∷ load_byte (in_instance 2) ∷ store_byte (in_instance 3)
    ∷ load_constant 99 ∷ store_byte (in_instance 2) ∷ store_byte (in_instance 0) ∷ [])

instance_takes_and_gives_back : run_of (call 1 5 (at (byte_at 0) ∷ at (byte_at 1) ∷ at (byte_at 2) ∷ []) ∷ []) (keeper ∷ [])
    ≡ ended_with (1 ∷ 1 ∷ 99 ∷ 4 ∷ []) (99 ∷ 1 ∷ 99 ∷ 3 ∷ []) (9 ∷ 10 ∷ [])
instance_takes_and_gives_back = refl

-- a missing actual is neither taken nor given back
missing_actuals_stay : run_of (call 1 5 (actual.Missing ∷ actual.Missing ∷ actual.Missing ∷ []) ∷ []) (keeper ∷ [])
    ≡ ended_with (1 ∷ 2 ∷ 3 ∷ 4 ∷ []) (99 ∷ 5 ∷ 99 ∷ 7 ∷ []) (9 ∷ 10 ∷ [])
missing_actuals_stay = refl

-- a constant is copied as an actual is; a formal of the caller is too
instance_takes_a_constant : run_of (call 1 5 (actual.Constant 77 ∷ at (byte_at 1) ∷ actual.Missing ∷ []) ∷ []) (keeper ∷ [])
    ≡ ended_with (1 ∷ 77 ∷ 3 ∷ 4 ∷ []) (99 ∷ 77 ∷ 99 ∷ 7 ∷ []) (9 ∷ 10 ∷ [])
instance_takes_a_constant = refl

instance_takes_a_formal : run_of (call 2 0 (at (byte_at 0) ∷ at (byte_at 3) ∷ []) ∷ [])
    (keeper ∷ block_of (name.Fc 10) (formal_of mode.Input width.Byte 0 ∷ formal_of mode.Output width.Byte 0 ∷ [])
    (call 1 5 (at (operand.Formal 0) ∷ at (operand.Formal 1) ∷ actual.Missing ∷ []) ∷ []) ∷ [])
    ≡ ended_with (1 ∷ 2 ∷ 3 ∷ 1 ∷ []) (99 ∷ 1 ∷ 99 ∷ 7 ∷ []) (9 ∷ 10 ∷ [])
instance_takes_a_formal = refl

-- copies follow one another: the in-out, which lies in the instance, is read after the input was copied over it
copies_follow_one_another : run_of (call 1 5 (at (byte_at 0) ∷ actual.Missing ∷ at (operand.Opened 5 0 0) ∷ []) ∷ []) (keeper ∷ [])
    ≡ ended_with (1 ∷ 2 ∷ 3 ∷ 4 ∷ []) (99 ∷ 1 ∷ 99 ∷ 1 ∷ []) (9 ∷ 10 ∷ [])
copies_follow_one_another = refl

-- OPN DI 6; before the end: what is given back comes from the instance of the call all the same
instance_is_that_of_the_call : run_of (call 1 5 (actual.Missing ∷ at (byte_at 1) ∷ at (byte_at 2) ∷ []) ∷ [])
    (block_of (name.Fb 1) three (op.OpenDi (open_arg.Number 6) ∷ []) ∷ [])
    ≡ ended_with (1 ∷ 6 ∷ 3 ∷ 4 ∷ []) (5 ∷ 6 ∷ 3 ∷ 8 ∷ []) (9 ∷ 10 ∷ [])
instance_is_that_of_the_call = refl

-- Faults

-- the second actual faults, so the first one, an input of an instance, is not copied
nothing_is_copied_before_a_fault : run_of (call 1 5 (at (byte_at 0) ∷ at (operand.Direct area.Db 0 0) ∷ at (byte_at 4) ∷ []) ∷ []) (keeper ∷ [])
    ≡ Ended memory (Some DbNotOpen)
nothing_is_copied_before_a_fault = refl

-- the first fault is that of the first actual in the order of the formals
first_fault_is_of_the_first_formal : run_of (call 1 5 (at (byte_at 4) ∷ at (operand.Direct area.Db 0 0) ∷ actual.Missing ∷ []) ∷ []) (keeper ∷ [])
    ≡ Ended memory (Some AreaLength)
first_fault_is_of_the_first_formal = refl

-- Registers

-- CALL FC 10 (DB5.DBB 0, MB 3); L DBNO; T MB 0; : the actual leaves the DB register as it is
actuals_open_nothing : run_of (call 1 0 (at (operand.Opened 5 0 0) ∷ at (byte_at 3) ∷ []) ∷ op.LoadDbNo ∷ store_byte (byte_at 0) ∷ []) (mover ∷ [])
    ≡ ended_with (0 ∷ 2 ∷ 3 ∷ 5 ∷ []) (5 ∷ 6 ∷ 7 ∷ 8 ∷ []) (9 ∷ 10 ∷ [])
actuals_open_nothing = refl

-- L DBNO; T MB 0; L DINO; T MB 1;
abbrev numbers_stored : ℕ → List Op
numbers_stored n = op.LoadDbNo ∷ store_byte (byte_at n) ∷ op.LoadDiNo ∷ store_byte (byte_at (suc n)) ∷ []

-- the block finds the DB and the DI register of its caller, and what it opens is closed again at its end
open_blocks_are_put_back : run_of (op.OpenDb (open_arg.Number 7) ∷ op.OpenDi (open_arg.Number 8) ∷ call 1 0 [] ∷ numbers_stored 2)
    (block_of (name.Fc 10) [] (numbers_stored 0 ++ op.OpenDb (open_arg.Number 5) ∷ op.OpenDi (open_arg.Number 6) ∷ []) ∷ [])
    ≡ ended_with (7 ∷ 8 ∷ 7 ∷ 8 ∷ []) (5 ∷ 6 ∷ 7 ∷ 8 ∷ []) (9 ∷ 10 ∷ [])
open_blocks_are_put_back = refl

-- DI is the instance inside a function block, and what it was behind the call
instance_is_open : run_of (op.OpenDb (open_arg.Number 7) ∷ op.OpenDi (open_arg.Number 8) ∷ call 1 5 (actual.Missing ∷ []) ∷ numbers_stored 2)
    (block_of (name.Fb 1) (formal_of mode.Input width.Byte 0 ∷ []) (numbers_stored 0) ∷ [])
    ≡ ended_with (7 ∷ 5 ∷ 7 ∷ 8 ∷ []) (5 ∷ 6 ∷ 7 ∷ 8 ∷ []) (9 ∷ 10 ∷ [])
instance_is_open = refl

-- SAVE of the accumulators: ACCU1 passes into the block and out of it
accumulators_pass : run_of (load_constant 5 ∷ call 1 0 [] ∷ store_byte (byte_at 3) ∷ [])
    (block_of (name.Fc 10) [] (store_byte (byte_at 0) ∷ op.Inc 2 ∷ []) ∷ [])
    ≡ ended_with (5 ∷ 2 ∷ 3 ∷ 7 ∷ []) (5 ∷ 6 ∷ 7 ∷ 8 ∷ []) (9 ∷ 10 ∷ [])
accumulators_pass = refl

-- Where CC calls

-- = M 0.7; L 9; T MB 1;
abbrev marks : Block
marks = block_of (name.Fc 10) [] (op.Assign (bit_at 7) ∷ load_constant 9 ∷ store_byte (byte_at 1) ∷ [])

-- the RLO is 1 before the first instruction of the block
cc_calls_at_1 : run_of (op.SetRlo ∷ call_if 1 ∷ []) (marks ∷ []) ≡ ended_with (129 ∷ 9 ∷ 3 ∷ 4 ∷ []) (5 ∷ 6 ∷ 7 ∷ 8 ∷ []) (9 ∷ 10 ∷ [])
cc_calls_at_1 = refl

-- called or not, the RLO is 1 behind it
cc_does_not_call_at_0 : run_of (op.ClearRlo ∷ call_if 1 ∷ op.Assign (bit_at 6) ∷ []) (marks ∷ [])
    ≡ ended_with (65 ∷ 2 ∷ 3 ∷ 4 ∷ []) (5 ∷ 6 ∷ 7 ∷ 8 ∷ []) (9 ∷ 10 ∷ [])
cc_does_not_call_at_0 = refl

-- UC calls where the RLO is 0 too, and leaves it
uc_always_calls : run_of (op.ClearRlo ∷ call 1 0 [] ∷ []) (marks ∷ []) ≡ ended_with (1 ∷ 9 ∷ 3 ∷ 4 ∷ []) (5 ∷ 6 ∷ 7 ∷ 8 ∷ []) (9 ∷ 10 ∷ [])
uc_always_calls = refl

-- a check behind a call is a first check: AN M 0.0; CALL; A M 0.0; = M 0.7;
first_check_behind_a_call : run_of
    (op.Check check.An (bit.At (bit_at 0)) ∷ call 1 0 [] ∷ op.Check check.A (bit.At (bit_at 0)) ∷ op.Assign (bit_at 7) ∷ [])
    (block_of (name.Fc 10) [] [] ∷ [])
    ≡ ended_with (129 ∷ 2 ∷ 3 ∷ 4 ∷ []) (5 ∷ 6 ∷ 7 ∷ 8 ∷ []) (9 ∷ 10 ∷ [])
first_check_behind_a_call = refl

-- Steps, and calls from outside

abbrev steps : ℕ → End
steps n =
    stl_run (program_of (call 1 0 [] ∷ []) (block_of (name.Fc 10) [] (op.Nop ∷ []) ∷ []))
    (record { block = name.Ob 1; instance = 0; actuals = [] }) memory n

-- a call is a step, and so is each instruction of its block, with the end word
steps_of_a_call : (steps 3 ∷ steps 4 ∷ []) ≡ Going ∷ Ended memory None ∷ []
steps_of_a_call = refl

-- FC10(MB1,MB2)
outside_gives_places : stl_run (program_of [] (mover ∷ []))
    (record {
      block = name.Fc 10;
      instance = 0;
      actuals = (record { area = place_area.M; byte = 1; bit = 0 }, width.Byte) ∷ (record { area = place_area.M; byte = 2; bit = 0 }, width.Byte) ∷ [];
    })
    memory 3
    ≡ ended_with (1 ∷ 2 ∷ 2 ∷ 4 ∷ []) (5 ∷ 6 ∷ 7 ∷ 8 ∷ []) (9 ∷ 10 ∷ [])
outside_gives_places = refl

-- FB1/DB5: nothing is copied, and DI is the instance
outside_gives_an_instance : stl_run (program_of [] (keeper ∷ [])) (record { block = name.Fb 1; instance = 5; actuals = [] }) memory 8
    ≡ ended_with (1 ∷ 2 ∷ 3 ∷ 4 ∷ []) (99 ∷ 5 ∷ 99 ∷ 7 ∷ []) (9 ∷ 10 ∷ [])
outside_gives_an_instance = refl
