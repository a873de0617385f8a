-- Operands and constants, held against worked rows by computing the verdict.
use denote.Hole.Carrier
use Rattle.std.proofs.Common.{◌≡◌, refl, List, [], ◌∷◌, ◌++◌, ℕ, Some, None, Ok, Result, pos, negsuc}
use Rattle.std.specs.Prelude.{codes, map}
use Rattle.memory_areas.specs.declared.call.BlockName.TheVariants.{Ob}
use Rattle.memory_areas.specs.declared.place.AreaName.TheVariants as area
use Rattle.s7_base.specs.Tokens.{tokens_of}
use Rattle.s7_base.specs.declared.check.Check.TheVariants as check
use Rattle.s7_base.specs.declared.reason.Kind.TheVariants as kind
use Rattle.s7_base.specs.declared.reason.Reason.TheVariants.{BadAddress, BadOperand, BadStatement, Unsupported}
use Rattle.s7_base.specs.declared.reason.Rejection.{Rejection}
use Rattle.s7_base.specs.declared.word.Width.TheVariants as width
use Rattle.status_word.specs.declared.test.Test.TheVariants as test
use Rattle.stl_grammar.specs.Items.{item_at}
use Rattle.stl_statement_grammar.specs.Mnemonics.{mnemonic_at, mnemonic_named}
use Rattle.stl_rules.specs.Labels.{label_of}
use Rattle.stl_rules.specs.Programs.{op_of}
use Rattle.stl_rules.specs.Raw.{resolved_operand}
use Rattle.stl_rules.specs.DeclarationRules.{scope_breaks}
use Rattle.stl_rules.specs.TooLarge.{first_large}
use Rattle.stl_statement_grammar.specs.Statements.{instruction_of}
use Rattle.stl_grammar.specs.RawPrograms.{raw_program, raw_text}
use Rattle.stl_rules.specs.Verdict.{checked_program, verdict}
use Rattle.stl_tree.specs.declared.accumulator.Arith.TheVariants as arith
use Rattle.stl_tree.specs.declared.accumulator.LogicRow.TheVariants as logic
use Rattle.stl_tree.specs.declared.accumulator.ShiftRow.TheVariants as shift
use Rattle.stl_tree.specs.declared.accumulator.UnaryRow.TheVariants as unary
use Rattle.stl_tree.specs.declared.program.Ar.TheVariants.{One, Two}
use Rattle.stl_tree.specs.declared.program.ArLoad.TheVariants as ar_load
use Rattle.stl_tree.specs.declared.program.ArStore.TheVariants as ar_store
use Rattle.stl_tree.specs.declared.program.BitArg.TheVariants as bit
use Rattle.stl_tree.specs.declared.program.LoadArg.TheVariants as load
use Rattle.stl_tree.specs.declared.program.Op.{Op}
use Rattle.stl_tree.specs.declared.program.Op.TheVariants as op
use Rattle.stl_tree.specs.declared.program.OpenArg.TheVariants as open_arg
use Rattle.stl_tree.specs.declared.program.Operand.TheVariants.{ByMemory, ByRegister, Crossing, Direct, Opened}
use Rattle.stl_tree.specs.declared.program.Program.{Program}
use Rattle.stl_tree.specs.declared.raw.RawOperand.{out-RawOperand}
use Rattle.stl_rules.proofs.VerdictCases.{on_line_3, refused, with_body}

-- a body on line 3 is accepted as these instructions
abbrev accepted : List Op → Result Program Rejection
accepted ops =
    Ok (record {
      dbs = [];
      instances = [];
      blocks =
          record {
            name = Ob 1;
            line = record { 0 = 1 };
            formals = [];
            body = map on_line_3 ops ++ (record { line = record { 0 = 4 }; op = op.BlockEnd } ∷ []);
          } ∷ [];
      symbols = [];
    })

abbrev constant : ℕ → Op
constant value = op.Load (load.Constant value)

numbers :
    verdict (with_body (codes "L 5; L 0032767; L -32768; L -1; L -0; L L#-1; L L#2147483647; L L#-2147483648;"))
    ≡ accepted
    (constant 5 ∷ constant 32767 ∷ constant 32768 ∷ constant 65535 ∷ constant 0 ∷ constant 4294967295 ∷ constant 2147483647
    ∷ constant 2147483648 ∷ [])
unfolding verdict checked_program raw_text raw_program item_at instruction_of tokens_of
    mnemonic_at mnemonic_named op_of resolved_operand label_of out-RawOperand Carrier.out scope_breaks first_large
numbers = refl

patterns :
    verdict (with_body (codes "L B#16#0Ff; L W#16#8001; L DW#16#80000001; L 2#1__0; L B#(1,2); L B#( 255 , 0,3 ,4 ); L 'A'; L 'AB'; L 'A;C'; L 'ABCD';"))
    ≡ accepted
    (constant 255 ∷ constant 32769 ∷ constant 2147483649 ∷ constant 2 ∷ constant 258 ∷ constant 4278190852 ∷ constant 65 ∷ constant 16706
    ∷ constant 4275011 ∷ constant 1094861636 ∷ [])
unfolding verdict checked_program raw_text raw_program item_at instruction_of tokens_of
    mnemonic_at mnemonic_named op_of resolved_operand label_of out-RawOperand Carrier.out scope_breaks first_large
patterns = refl

places :
    verdict (with_body (codes "L MB5; L mw 8190; L ID 2044; T QB 2047; T MD 1; L STW; T stw;"))
    ≡ accepted
    (op.Load (load.At (Direct area.M 5 0) width.Byte) ∷ op.Load (load.At (Direct area.M 8190 0) width.Word)
    ∷ op.Load (load.At (Direct area.I 2044 0) width.Dword) ∷ op.Transfer (Direct area.Q 2047 0) width.Byte
    ∷ op.Transfer (Direct area.M 1 0) width.Dword ∷ op.LoadStw ∷ op.TransferStw ∷ [])
unfolding verdict checked_program raw_text raw_program item_at instruction_of tokens_of
    mnemonic_at mnemonic_named op_of resolved_operand label_of out-RawOperand Carrier.out scope_breaks first_large
places = refl

with_numbers :
    verdict (with_body (codes "+ 5; + -5; + L#-5; INC 255; DEC 0; SLW 15; SLD 32; RRD; NOP 255;"))
    ≡ accepted
    (op.AddWord (pos 5) ∷ op.AddWord (negsuc 4) ∷ op.AddDword (negsuc 4) ∷ op.Inc 255 ∷ op.Dec 0 ∷ op.Shift shift.Slw (Some 15)
    ∷ op.Shift shift.Sld (Some 32) ∷ op.Shift shift.Rrd None ∷ op.Nop ∷ [])
unfolding verdict checked_program raw_text raw_program item_at instruction_of tokens_of
    mnemonic_at mnemonic_named op_of resolved_operand label_of out-RawOperand Carrier.out scope_breaks first_large
with_numbers = refl

word_logic :
    verdict (with_body (codes "AW W#16#F; OW -1; XOW 2#1; AD DW#16#F; OD -1; XOD 2#1; AW; AD L#-1;"))
    ≡ accepted
    (op.Logic logic.Aw (Some 15) ∷ op.Logic logic.Ow (Some 65535) ∷ op.Logic logic.Xow (Some 1) ∷ op.Logic logic.Ad (Some 15)
    ∷ op.Logic logic.Od (Some 4294967295) ∷ op.Logic logic.Xod (Some 1) ∷ op.Logic logic.Aw None ∷ op.Logic logic.Ad (Some 4294967295) ∷ [])
unfolding verdict checked_program raw_text raw_program item_at instruction_of tokens_of
    mnemonic_at mnemonic_named op_of resolved_operand label_of out-RawOperand Carrier.out scope_breaks first_large
word_logic = refl

alone :
    verdict (with_body (codes "+I; /D; MOD; ==I; <=D; BTI; NEGD; RLDA; RRDA; TAK; PUSH; POP;"))
    ≡ accepted
    (op.Arith arith.AddI ∷ op.Arith arith.DivD ∷ op.Arith arith.Mod ∷ op.Compare test.Eq width.Word ∷ op.Compare test.Le width.Dword
    ∷ op.Unary unary.Bti ∷ op.Unary unary.Negd ∷ op.Rlda ∷ op.Rrda ∷ op.Tak ∷ op.Push ∷ op.Pop ∷ [])
unfolding verdict checked_program raw_text raw_program item_at instruction_of tokens_of
    mnemonic_at mnemonic_named op_of resolved_operand label_of out-RawOperand Carrier.out scope_breaks first_large
alone = refl

-- what is left out, by its kind, and what is refused

timer_of_fr : verdict (with_body (codes "FR T 1;")) ≡ refused 3 (Unsupported kind.Timer)
unfolding verdict checked_program raw_text raw_program item_at instruction_of tokens_of mnemonic_at
timer_of_fr = refl

counter_of_lc : verdict (with_body (codes "LC C1;")) ≡ refused 3 (Unsupported kind.Counter)
unfolding verdict checked_program raw_text raw_program item_at instruction_of tokens_of mnemonic_at
counter_of_lc = refl

timer_loaded : verdict (with_body (codes "L T 1;")) ≡ refused 3 (Unsupported kind.Timer)
unfolding verdict checked_program raw_text raw_program item_at instruction_of tokens_of mnemonic_at
timer_loaded = refl

peripheral_stored : verdict (with_body (codes "T PQW [MW 0];")) ≡ refused 3 (Unsupported kind.Peripheral)
unfolding verdict checked_program raw_text raw_program item_at instruction_of tokens_of mnemonic_at
peripheral_stored = refl

counter_constant : verdict (with_body (codes "SLW C#5;")) ≡ refused 3 (Unsupported kind.Counter)
unfolding verdict checked_program raw_text raw_program item_at instruction_of tokens_of mnemonic_at
counter_constant = refl

name_pointer : verdict (with_body (codes "AD P##x;")) ≡ refused 3 (Unsupported kind.NamePointer)
unfolding verdict checked_program raw_text raw_program item_at instruction_of tokens_of mnemonic_at
name_pointer = refl

time : verdict (with_body (codes "+ S5T#1s;")) ≡ refused 3 (Unsupported kind.DateTime)
unfolding verdict checked_program raw_text raw_program item_at instruction_of tokens_of mnemonic_at
time = refl

real : verdict (with_body (codes "L -1.5E+3 foo;")) ≡ refused 3 (Unsupported kind.Real)
unfolding verdict checked_program raw_text raw_program item_at instruction_of tokens_of mnemonic_at
real = refl

no_real : verdict (with_body (codes "L 1e5;")) ≡ refused 3 BadStatement
unfolding verdict checked_program raw_text raw_program item_at instruction_of tokens_of mnemonic_at
no_real = refl

length : verdict (with_body (codes "L DBLG;")) ≡ refused 3 (Unsupported kind.DbLength)
unfolding verdict checked_program raw_text raw_program item_at instruction_of tokens_of mnemonic_at
length = refl

length_stored : verdict (with_body (codes "T DBLG;")) ≡ refused 3 BadStatement
unfolding verdict checked_program raw_text raw_program item_at instruction_of tokens_of mnemonic_at
length_stored = refl

accumulators : verdict (with_body (codes "ENT;")) ≡ refused 3 (Unsupported kind.Accumulators)
unfolding verdict checked_program raw_text raw_program item_at instruction_of tokens_of mnemonic_at
accumulators = refl

past_a_word : verdict (with_body (codes "L 32768;")) ≡ refused 3 BadStatement
unfolding verdict checked_program raw_text raw_program item_at instruction_of tokens_of mnemonic_at
past_a_word = refl

blank_behind_the_minus : verdict (with_body (codes "L - 5;")) ≡ refused 3 BadStatement
unfolding verdict checked_program raw_text raw_program item_at instruction_of tokens_of mnemonic_at
blank_behind_the_minus = refl

plus_sign : verdict (with_body (codes "L +5;")) ≡ refused 3 BadStatement
unfolding verdict checked_program raw_text raw_program item_at instruction_of tokens_of mnemonic_at
plus_sign = refl

bar_in_hexadecimal : verdict (with_body (codes "L W#16#1_0;")) ≡ refused 3 BadStatement
unfolding verdict checked_program raw_text raw_program item_at instruction_of tokens_of mnemonic_at
bar_in_hexadecimal = refl

no_character : verdict (with_body (codes "L '';")) ≡ refused 3 BadStatement
unfolding verdict checked_program raw_text raw_program item_at instruction_of tokens_of mnemonic_at
no_character = refl

sixteen_steps : verdict (with_body (codes "SLW 16;")) ≡ refused 3 BadStatement
unfolding verdict checked_program raw_text raw_program item_at instruction_of tokens_of mnemonic_at
sixteen_steps = refl

hexadecimal_added : verdict (with_body (codes "+ W#16#5;")) ≡ refused 3 BadStatement
unfolding verdict checked_program raw_text raw_program item_at instruction_of tokens_of mnemonic_at
hexadecimal_added = refl

byte_in_a_word : verdict (with_body (codes "AW B#16#5;")) ≡ refused 3 BadOperand
unfolding verdict checked_program raw_text raw_program item_at instruction_of tokens_of
    mnemonic_at mnemonic_named op_of resolved_operand label_of out-RawOperand Carrier.out scope_breaks first_large
byte_in_a_word = refl

word_past_the_area : verdict (with_body (codes "L MW 8191;")) ≡ refused 3 BadAddress
unfolding verdict checked_program raw_text raw_program item_at instruction_of tokens_of
    mnemonic_at mnemonic_named op_of resolved_operand label_of out-RawOperand Carrier.out scope_breaks first_large
word_past_the_area = refl

bit_loaded : verdict (with_body (codes "L M 0.0;")) ≡ refused 3 BadOperand
unfolding verdict checked_program raw_text raw_program item_at instruction_of tokens_of
    mnemonic_at mnemonic_named op_of resolved_operand label_of out-RawOperand Carrier.out scope_breaks first_large
bit_loaded = refl

constant_stored : verdict (with_body (codes "T 5;")) ≡ refused 3 BadStatement
unfolding verdict checked_program raw_text raw_program item_at instruction_of tokens_of mnemonic_at
constant_stored = refl

timer_added : verdict (with_body (codes "+ T 1;")) ≡ refused 3 BadStatement
unfolding verdict checked_program raw_text raw_program item_at instruction_of tokens_of mnemonic_at
timer_added = refl

-- pointers, address registers and what they name

pointers :
    verdict (with_body (codes "L P#M 10.3; AD P#0.7; LAR1 P#DBX 2.0; LAR2; LAR1 AR2; TAR1; TAR1 AR2; TAR2 LD 4; LAR1 DB5.DBD 0; CAR; +AR1 P#0.6; +AR2;"))
    ≡ accepted
    (constant 0x83000053 ∷ op.Logic logic.Ad (Some 7) ∷ op.LoadAr One (ar_load.Constant 0x84000010) ∷ op.LoadAr Two ar_load.Accu1
    ∷ op.LoadAr One ar_load.OtherAr ∷ op.StoreAr One ar_store.Accu1 ∷ op.StoreAr One ar_store.OtherAr
    ∷ op.StoreAr Two (ar_store.At (Direct area.L 4 0)) ∷ op.LoadAr One (ar_load.At (Opened 5 0 0)) ∷ op.ExchangeAr
    ∷ op.AddAr One (Some 6) ∷ op.AddAr Two None ∷ [])
unfolding verdict checked_program raw_text raw_program item_at instruction_of tokens_of
    mnemonic_at mnemonic_named op_of resolved_operand label_of out-RawOperand Carrier.out scope_breaks first_large
pointers = refl

indirect :
    verdict
    (with_body (codes "L MW [MD 0]; A DBX [DID 2]; T W [AR1,P#2.0]; S [AR2,P#0.7]; FP L [AR1,P#65535.7]; LAR1 MD [MD 0]; OPN DB [MW 2]; OPN DI [DBW 65535];"))
    ≡ accepted
    (op.Load (load.At (ByMemory area.M area.M 0) width.Word) ∷ op.Check check.A (bit.At (ByMemory area.Db area.Di 2))
    ∷ op.Transfer (Crossing One 16) width.Word ∷ op.Set (Crossing Two 7) ∷ op.EdgeUp (ByRegister area.L One 524287)
    ∷ op.LoadAr One (ar_load.At (ByMemory area.M area.M 0)) ∷ op.OpenDb (open_arg.At (Direct area.M 2 0))
    ∷ op.OpenDi (open_arg.At (Direct area.Db 65535 0)) ∷ [])
unfolding verdict checked_program raw_text raw_program item_at instruction_of tokens_of
    mnemonic_at mnemonic_named op_of resolved_operand label_of out-RawOperand Carrier.out scope_breaks first_large
indirect = refl

-- the verdicts of bodies of one line
abbrev all : List (List ℕ) → List (Result Program Rejection)
all bodies = map (λ body. verdict (with_body body)) bodies

bad_operands :
    all
    (codes "AW P#0.0;" ∷ codes "LAR1 ID 0;" ∷ codes "TAR1 MW 0;" ∷ codes "LAR1 ID 9000;" ∷ codes "LAR1 QD [MD 0];"
    ∷ codes "A MW [AR1,P#0.9];" ∷ codes "AW P#0.9;" ∷ codes "A MW [MD 0];" ∷ codes "L [AR1,P#0.0];" ∷ [])
    ≡ refused 3 BadOperand ∷ refused 3 BadOperand ∷ refused 3 BadOperand ∷ refused 3 BadOperand ∷ refused 3 BadOperand
    ∷ refused 3 BadOperand ∷ refused 3 BadOperand ∷ refused 3 BadOperand ∷ refused 3 BadOperand ∷ []
unfolding verdict checked_program raw_text raw_program item_at instruction_of tokens_of
    mnemonic_at mnemonic_named op_of resolved_operand label_of out-RawOperand Carrier.out scope_breaks first_large
bad_operands = refl

bad_addresses :
    all
    (codes "L P#70000.0;" ∷ codes "L P#0.8;" ∷ codes "+AR1 P#0.9;" ∷ codes "L MW [AR1,P#70000.0];"
    ∷ codes "L MW [MD 8189];" ∷ codes "OPN DB [MW 8191];" ∷ codes "LAR1 MD 8189;" ∷ [])
    ≡ refused 3 BadAddress ∷ refused 3 BadAddress ∷ refused 3 BadAddress ∷ refused 3 BadAddress ∷ refused 3 BadAddress
    ∷ refused 3 BadAddress ∷ refused 3 BadAddress ∷ []
unfolding verdict checked_program raw_text raw_program item_at instruction_of tokens_of
    mnemonic_at mnemonic_named op_of resolved_operand label_of out-RawOperand Carrier.out scope_breaks first_large
bad_addresses = refl
