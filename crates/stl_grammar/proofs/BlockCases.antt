-- Functions, function blocks and their instances, held against worked rows by computing them.
use Rattle.std.proofs.Common.{◌≡◌, refl, List, [], ◌∷◌, ◌++◌, ℕ, Ok, Result}
use Rattle.std.specs.Prelude.{codes, Option, Some, None, pos}
use Rattle.memory_areas.specs.declared.place.AreaName.TheVariants as area
use Rattle.s7_base.specs.Tokens.{tokens_of}
use Rattle.s7_base.specs.declared.reason.Kind.TheVariants.{ComplexParameter, DateTime, MultiInstance, PointerType, Real, SystemCall, UserType}
use Rattle.s7_base.specs.declared.reason.Reason.TheVariants.{BadStatement, Unsupported}
use Rattle.s7_base.specs.declared.reason.Rejection.{Rejection}
use Rattle.s7_base.specs.declared.word.Width.TheVariants as width
use Rattle.stl_grammar.proofs.ItemCases.{given, initially, raw_with, refused}
use Rattle.stl_grammar.specs.Initials.{once}
use Rattle.stl_grammar.specs.Items.{item_at}
use Rattle.stl_grammar.specs.RawPrograms.{block_from_heading, raw_program, raw_text, with_end}
use Rattle.stl_statement_grammar.specs.CallOperands.{instance_call}
use Rattle.stl_statement_grammar.specs.Constants.{plain}
use Rattle.stl_statement_grammar.specs.Mnemonics.{mnemonic_at}
use Rattle.stl_statement_grammar.specs.Statements.{instr_with, instruction_of}
use Rattle.stl_tree.specs.declared.raw.BlockKind.{BlockKind}
use Rattle.stl_tree.specs.declared.raw.BlockKind.TheVariants as block
use Rattle.stl_tree.specs.declared.raw.Declaration.{Declaration}
use Rattle.stl_tree.specs.declared.raw.DeclType.TheVariants as of
use Rattle.stl_tree.specs.declared.raw.ElemType.{ElemType}
use Rattle.stl_tree.specs.declared.raw.ElemType.TheVariants as elem
use Rattle.stl_tree.specs.declared.raw.PathStep.TheVariants as step
use Rattle.stl_tree.specs.declared.raw.RawActual.{roll-RawActual}
use Rattle.stl_tree.specs.declared.raw.RawBlock.{RawBlock}
use Rattle.stl_tree.specs.declared.raw.RawDataKind.TheVariants.{Instance}
use Rattle.stl_tree.specs.declared.raw.RawInitial.{RawInitial}
use Rattle.stl_tree.specs.declared.raw.RawName.{RawName}
use Rattle.stl_tree.specs.declared.raw.RawName.TheVariants.{Name, Number}
use Rattle.stl_tree.specs.declared.raw.RawOperand.TheVariants.{At, Constant}
use Rattle.stl_tree.specs.declared.raw.RawProgram.{RawProgram}

-- a block without declarations and instructions, from a line to a line
abbrev empty : BlockKind → RawName → Option ElemType → ℕ → ℕ → RawBlock
empty kind name result first last = with_end (record { 0 = last }) (block_from_heading (record { 0 = first }) kind name result)

abbrev only : RawBlock → Result RawProgram Rejection
only its = Ok (raw_with [] (its ∷ []))

-- Headings

function : raw_text (codes "FUNCTION FC 10 : VOID\nBEGIN\nEND_FUNCTION\n") ≡ only (empty block.Fc (Number 10) None 1 3)
unfolding raw_text raw_program item_at instruction_of tokens_of mnemonic_at
function = refl

function_with_a_result : raw_text (codes "function \"f\"\n:\ndint BEGIN END_FUNCTION") ≡ only (empty block.Fc (Name (codes "f")) (Some elem.Dint) 1 3)
unfolding raw_text raw_program item_at instruction_of tokens_of mnemonic_at
function_with_a_result = refl

function_block : raw_text (codes "FUNCTION_BLOCK FB1\nAUTHOR : x\nBEGIN\nEND_FUNCTION_BLOCK") ≡ only (empty block.Fb (Number 1) None 1 4)
unfolding raw_text raw_program item_at instruction_of tokens_of mnemonic_at
function_block = refl

no_type : raw_text (codes "FUNCTION FC 1\nBEGIN") ≡ refused 1 BadStatement
unfolding raw_text raw_program item_at instruction_of tokens_of mnemonic_at
no_type = refl

type_is_cut_off : raw_text (codes "\nFUNCTION FC 1 :\n") ≡ refused 2 BadStatement
unfolding raw_text raw_program item_at instruction_of tokens_of mnemonic_at
type_is_cut_off = refl

array_as_a_result : raw_text (codes "FUNCTION FC 1 : ARRAY [1..2] OF REAL") ≡ refused 1 BadStatement
unfolding raw_text raw_program item_at instruction_of tokens_of mnemonic_at
array_as_a_result = refl

block_as_a_result : raw_text (codes "FUNCTION FC 1 : FB 1") ≡ refused 1 BadStatement
unfolding raw_text raw_program item_at instruction_of tokens_of mnemonic_at
block_as_a_result = refl

real_result : raw_text (codes "FUNCTION FC 1 : REAL") ≡ refused 1 (Unsupported Real)
unfolding raw_text raw_program item_at instruction_of tokens_of mnemonic_at
real_result = refl

date_as_a_result : raw_text (codes "FUNCTION FC 1 : DATE_AND_TIME") ≡ refused 1 (Unsupported DateTime)
unfolding raw_text raw_program item_at instruction_of tokens_of mnemonic_at
date_as_a_result = refl

user_type_as_a_result : raw_text (codes "FUNCTION FC 1 : UDT 4") ≡ refused 1 (Unsupported UserType)
unfolding raw_text raw_program item_at instruction_of tokens_of mnemonic_at
user_type_as_a_result = refl

system_function : raw_text (codes "FUNCTION SFC 4 : VOID") ≡ refused 1 BadStatement
unfolding raw_text raw_program item_at instruction_of tokens_of mnemonic_at
system_function = refl

skipped_line_behind_the_type : raw_text (codes "FUNCTION FC 1 :\nVOID AUTHOR : x\nBEGIN\nEND_FUNCTION") ≡ refused 2 BadStatement
unfolding raw_text raw_program item_at instruction_of tokens_of mnemonic_at
skipped_line_behind_the_type = refl

-- Sections

abbrev variable : List ℕ → ℕ → ElemType → Declaration
variable name line type = given name line (of.Elementary type) []

all_sections :
    raw_text
    (codes "FUNCTION_BLOCK FB 1\nVAR_INPUT a : INT := 1; END_VAR\nVAR_OUTPUT b : BOOL; END_VAR\nVAR_IN_OUT c : WORD := 5; END_VAR\n"
    ++ codes "VAR d : ARRAY [1..2] OF INT := 3; END_VAR\nVAR_TEMP t : DATE_AND_TIME; END_VAR\nBEGIN\nEND_FUNCTION_BLOCK")
    ≡ only
    (record (empty block.Fb (Number 1) None 1 8) {
      inputs = given (codes "a") 2 (of.Elementary elem.Int) (once (plain 1) ∷ []) ∷ [];
      outputs = variable (codes "b") 3 elem.Bool ∷ [];
      in_outs = given (codes "c") 4 (of.Elementary elem.Word) (once (plain 5) ∷ []) ∷ [];
      statics = given (codes "d") 5 (of.Array ((pos 1, pos 2) ∷ []) (of.Elementary elem.Int)) (once (plain 3) ∷ []) ∷ [];
      temps = given (codes "t") 6 of.DateAndTime [] ∷ [];
    })
unfolding raw_text raw_program item_at instruction_of tokens_of mnemonic_at
all_sections = refl

sections_out_of_order :
    raw_text (codes "FUNCTION FC 1 : VOID\nVAR_OUTPUT\nEND_VAR\nVAR_INPUT\nEND_VAR\nBEGIN\nEND_FUNCTION") ≡ refused 4 BadStatement
unfolding raw_text raw_program item_at instruction_of tokens_of mnemonic_at
sections_out_of_order = refl

section_twice : raw_text (codes "FUNCTION FC 1 : VOID\nVAR_TEMP\nEND_VAR\nVAR_TEMP\nEND_VAR\nBEGIN\nEND_FUNCTION") ≡ refused 4 BadStatement
unfolding raw_text raw_program item_at instruction_of tokens_of mnemonic_at
section_twice = refl

statics_of_a_function : raw_text (codes "FUNCTION FC 1 : VOID\nVAR\nEND_VAR") ≡ refused 2 BadStatement
unfolding raw_text raw_program item_at instruction_of tokens_of mnemonic_at
statics_of_a_function = refl

inputs_of_an_organization_block : raw_text (codes "ORGANIZATION_BLOCK OB 1\nVAR_INPUT\nEND_VAR") ≡ refused 2 BadStatement
unfolding raw_text raw_program item_at instruction_of tokens_of mnemonic_at
inputs_of_an_organization_block = refl

struct_of_a_function : raw_text (codes "FUNCTION FC 1 : VOID\nSTRUCT\nEND_STRUCT;") ≡ refused 2 BadStatement
unfolding raw_text raw_program item_at instruction_of tokens_of mnemonic_at
struct_of_a_function = refl

-- Formals and variables

-- a function, and a function block with these declarations as variables, which begin on line 3
abbrev in_function : List ℕ → List ℕ
in_function decls = codes "FUNCTION FC 1 : VOID\nVAR_INPUT\n" ++ decls ++ codes "\nEND_VAR\nBEGIN\nEND_FUNCTION"

abbrev in_function_block : List ℕ → List ℕ
in_function_block decls = codes "FUNCTION_BLOCK FB 1\nVAR\n" ++ decls ++ codes "\nEND_VAR\nBEGIN\nEND_FUNCTION_BLOCK"

value_of_a_functions_input : raw_text (in_function (codes "a : INT := 5;")) ≡ refused 3 BadStatement
unfolding raw_text raw_program item_at instruction_of tokens_of mnemonic_at
value_of_a_functions_input = refl

array_as_a_formal : raw_text (in_function (codes "a : ARRAY [1..2] OF REAL;")) ≡ refused 3 (Unsupported ComplexParameter)
unfolding raw_text raw_program item_at instruction_of tokens_of mnemonic_at
array_as_a_formal = refl

struct_as_a_formal : raw_text (in_function (codes "a : INT;\nb : STRUCT\nc : INT;\nEND_STRUCT;")) ≡ refused 4 (Unsupported ComplexParameter)
unfolding raw_text raw_program item_at instruction_of tokens_of mnemonic_at
struct_as_a_formal = refl

cut_array : raw_text (codes "FUNCTION FC 1 : VOID\nVAR_INPUT\na : ARRAY [1..2] OF INT\n") ≡ refused 3 BadStatement
unfolding raw_text raw_program item_at instruction_of tokens_of mnemonic_at
cut_array = refl

date_as_a_formal : raw_text (in_function (codes "a : DATE_AND_TIME;")) ≡ refused 3 (Unsupported DateTime)
unfolding raw_text raw_program item_at instruction_of tokens_of mnemonic_at
date_as_a_formal = refl

pointer_as_a_formal : raw_text (in_function (codes "a : ANY;")) ≡ refused 3 (Unsupported PointerType)
unfolding raw_text raw_program item_at instruction_of tokens_of mnemonic_at
pointer_as_a_formal = refl

multi_instance : raw_text (in_function_block (codes "a : ARRAY [1..2] OF INT;\nb : FB 2 ;")) ≡ refused 4 (Unsupported MultiInstance)
unfolding raw_text raw_program item_at instruction_of tokens_of mnemonic_at
multi_instance = refl

multi_instances : raw_text (in_function_block (codes "b : ARRAY [1..2] OF FB2;")) ≡ refused 3 (Unsupported MultiInstance)
unfolding raw_text raw_program item_at instruction_of tokens_of mnemonic_at
multi_instances = refl

system_instance : raw_text (in_function_block (codes "b : SFB 4;")) ≡ refused 3 (Unsupported SystemCall)
unfolding raw_text raw_program item_at instruction_of tokens_of mnemonic_at
system_instance = refl

block_without_its_number : raw_text (in_function_block (codes "b : FB;")) ≡ refused 3 BadStatement
unfolding raw_text raw_program item_at instruction_of tokens_of mnemonic_at
block_without_its_number = refl

-- Instances

abbrev instance_of : RawName → List RawInitial → Result RawProgram Rejection
instance_of name values =
    Ok (record {
      symbols = [];
      dbs = record { name = Number 5; line = record { 0 = 1 }; kind = Instance name; initial = values } ∷ [];
      blocks = [];
    })

instance : raw_text (codes "DATA_BLOCK DB 5\nVERSION : 0.0\n FB 4\nBEGIN\na := 3;\nEND_DATA_BLOCK")
    ≡ instance_of (Number 4) (initially (step.Name (codes "a") ∷ []) 5 (plain 3) ∷ [])
unfolding raw_text raw_program item_at instruction_of tokens_of mnemonic_at
instance = refl

instance_in_a_word : raw_text (codes "DATA_BLOCK DB 5\nFB4\nBEGIN\nEND_DATA_BLOCK") ≡ instance_of (Number 4) []
unfolding raw_text raw_program item_at instruction_of tokens_of mnemonic_at
instance_in_a_word = refl

named_instance : raw_text (codes "DATA_BLOCK DB 5\n\"f\" BEGIN END_DATA_BLOCK") ≡ instance_of (Name (codes "f")) []
unfolding raw_text raw_program item_at instruction_of tokens_of mnemonic_at
named_instance = refl

instance_with_a_semicolon : raw_text (codes "DATA_BLOCK DB 5\nFB 4\n;\nBEGIN") ≡ refused 3 BadStatement
unfolding raw_text raw_program item_at instruction_of tokens_of mnemonic_at
instance_with_a_semicolon = refl

instance_with_declarations : raw_text (codes "DATA_BLOCK DB 5\nFB 4\nSTRUCT") ≡ refused 3 BadStatement
unfolding raw_text raw_program item_at instruction_of tokens_of mnemonic_at
instance_with_declarations = refl

instance_without_its_body : raw_text (codes "DATA_BLOCK DB 5\nFB 4\n") ≡ refused 3 BadStatement
unfolding raw_text raw_program item_at instruction_of tokens_of mnemonic_at
instance_without_its_body = refl

-- a call over several lines, as the usual tool writes it
call :
    raw_text
    (codes "ORGANIZATION_BLOCK OB 1\nBEGIN\n      CALL FB     1 , DB     6 (\n           Enable                   := I      0.0,\n"
    ++ codes "           Step := 4);\nEND_ORGANIZATION_BLOCK")
    ≡ only
    (record (empty block.Ob (Number 1) None 1 6) {
      body = instr_with None (record { 0 = 3 }) (codes "CALL")
          (instance_call (Number 1) (Number 6)
          (roll-RawActual (record {
            formal = codes "Enable";
            line = record { 0 = 4 };
            value = At (record { block = None; area = area.I; width = width.Bit; byte = 0; bit = 0 });
          })
          ∷ roll-RawActual (record { formal = codes "Step"; line = record { 0 = 5 }; value = Constant (plain 4) }) ∷ [])) ∷ [];
    })
unfolding raw_text raw_program item_at instruction_of tokens_of mnemonic_at
call = refl
