-- The items of texts, held against worked rows by computing them.
use Rattle.std.proofs.Common.{◌≡◌, refl, List, [], ◌∷◌, ◌++◌, ℕ, Ok, Err, Result}
use Rattle.std.specs.Prelude.{codes, map, replicate, None, pos, neg_ℤ}
use Rattle.memory_areas.specs.declared.place.AreaName.{AreaName}
use Rattle.memory_areas.specs.declared.place.AreaName.TheVariants as area
use Rattle.s7_base.specs.Tokens.{tokens_of}
use Rattle.s7_base.specs.declared.reason.Kind.TheVariants.{DateTime, PointerType, Real, StringType, SystemCall, UserType}
use Rattle.s7_base.specs.declared.reason.Reason.{Reason}
use Rattle.s7_base.specs.declared.reason.Reason.TheVariants.{BadStatement, Unsupported}
use Rattle.s7_base.specs.declared.reason.Rejection.{Rejection}
use Rattle.s7_base.specs.declared.reason.Rejection.TheVariants.{Refused}
use Rattle.s7_base.specs.declared.word.Width.{Width}
use Rattle.s7_base.specs.declared.word.Width.TheVariants as width
use Rattle.stl_grammar.specs.Initials.{once, times}
use Rattle.stl_grammar.specs.Items.{item_at}
use Rattle.stl_grammar.specs.RawPrograms.{block_from_heading, raw_program, raw_text, with_end}
use Rattle.stl_grammar.specs.Symbols.{address_of}
use Rattle.stl_statement_grammar.specs.Constants.{constant, plain}
use Rattle.stl_statement_grammar.specs.Mnemonics.{mnemonic_at}
use Rattle.stl_statement_grammar.specs.Statements.{instruction_of}
use Rattle.stl_tree.specs.declared.raw.BlockKind.TheVariants as block
use Rattle.stl_tree.specs.declared.raw.Constant.{Constant}
use Rattle.stl_tree.specs.declared.raw.Declaration.{Declaration}
use Rattle.stl_tree.specs.declared.raw.DeclType.{DeclType}
use Rattle.stl_tree.specs.declared.raw.DeclType.TheVariants as of
use Rattle.stl_tree.specs.declared.raw.ElemType.TheVariants as elem
use Rattle.stl_tree.specs.declared.raw.InitialItem.{InitialItem}
use Rattle.stl_tree.specs.declared.raw.PathStep.{PathStep}
use Rattle.stl_tree.specs.declared.raw.PathStep.TheVariants as step
use Rattle.stl_tree.specs.declared.raw.RawBlock.{RawBlock}
use Rattle.stl_tree.specs.declared.raw.RawDataKind.TheVariants.{Own}
use Rattle.stl_tree.specs.declared.raw.RawInitial.{RawInitial}
use Rattle.stl_tree.specs.declared.raw.RawName.{RawName}
use Rattle.stl_tree.specs.declared.raw.RawName.TheVariants.{Number, Name}
use Rattle.stl_tree.specs.declared.raw.RawProgram.{RawProgram}
use Rattle.stl_tree.specs.declared.raw.SymbolAddress.{SymbolAddress}
use Rattle.stl_tree.specs.declared.raw.SymbolAddress.TheVariants as address
use Rattle.stl_tree.specs.declared.raw.SymbolLine.{SymbolLine}

abbrev pub refused : ℕ → Reason → Result RawProgram Rejection
refused line reason = Err (Refused (record { 0 = line }) reason)

-- the program of symbol lines and blocks without data blocks
abbrev pub raw_with : List SymbolLine → List RawBlock → RawProgram
raw_with symbols blocks = record { symbols = symbols; dbs = []; blocks = blocks }

-- an organization block without instructions, from a line to a line
abbrev pub empty_block : RawName → ℕ → ℕ → RawBlock
empty_block name first last = with_end (record { 0 = last }) (block_from_heading (record { 0 = first }) block.Ob name None)

pub two_blocks :
    raw_text (codes "ORGANIZATION_BLOCK OB 1\nBEGIN\nEND_ORGANIZATION_BLOCK\nORGANIZATION_BLOCK OB2 BEGIN\nEND_ORGANIZATION_BLOCK")
    ≡ Ok (raw_with [] (empty_block (Number 1) 1 3 ∷ empty_block (Number 2) 4 5 ∷ []))
unfolding raw_text raw_program item_at instruction_of tokens_of mnemonic_at
two_blocks = refl

great_number :
    raw_text (codes "ORGANIZATION_BLOCK OB 4294967296\nBEGIN\nEND_ORGANIZATION_BLOCK\n")
    ≡ Ok (raw_with [] (empty_block (Number 4294967295) 1 3 ∷ []))
unfolding raw_text raw_program item_at instruction_of tokens_of mnemonic_at
great_number = refl

skipped_lines :
    raw_text (codes "ORGANIZATION_BLOCK OB 0\nAUTHOR : Me\nVERSION : 1 BEGIN\nKNOW_HOW_PROTECT FOO\nBEGIN\nNETWORK ; NETWORK\nEND_ORGANIZATION_BLOCK\n")
    ≡ Ok (raw_with [] (empty_block (Number 0) 1 7 ∷ []))
unfolding raw_text raw_program item_at instruction_of tokens_of mnemonic_at
skipped_lines = refl

skipped_line_behind_a_heading :
    raw_text (codes "ORGANIZATION_BLOCK OB 1 NON_RETAIN\nBEGIN\nEND_ORGANIZATION_BLOCK\n") ≡ refused 1 BadStatement
unfolding raw_text raw_program item_at instruction_of tokens_of mnemonic_at
skipped_line_behind_a_heading = refl

colon_on_another_line :
    raw_text (codes "ORGANIZATION_BLOCK OB 1\nAUTHOR\n: Me\nBEGIN\nEND_ORGANIZATION_BLOCK\n") ≡ refused 2 BadStatement
unfolding raw_text raw_program item_at instruction_of tokens_of mnemonic_at
colon_on_another_line = refl

ends_behind_a_skipped_line : raw_text (codes "ORGANIZATION_BLOCK OB 1\nAUTHOR : Me\n") ≡ refused 3 BadStatement
unfolding raw_text raw_program item_at instruction_of tokens_of mnemonic_at
ends_behind_a_skipped_line = refl

second_block_is_cut_off :
    raw_text (codes "ORGANIZATION_BLOCK OB 1\nBEGIN\nEND_ORGANIZATION_BLOCK\nORGANIZATION_BLOCK\nOB\n") ≡ refused 4 BadStatement
unfolding raw_text raw_program item_at instruction_of tokens_of mnemonic_at
second_block_is_cut_off = refl

no_heading_between_blocks :
    raw_text (codes "ORGANIZATION_BLOCK OB 1\nBEGIN\nEND_ORGANIZATION_BLOCK\nFOO\n") ≡ refused 4 BadStatement
unfolding raw_text raw_program item_at instruction_of tokens_of mnemonic_at
no_heading_between_blocks = refl

-- The symbol table

abbrev pub symbol : List ℕ → ℕ → SymbolAddress → SymbolLine
symbol name line its = record { name = name; line = record { 0 = line }; address = its }

abbrev pub place : AreaName → Width → ℕ → ℕ → SymbolAddress
place name w byte bit = address.At (record { block = None; area = name; width = w; byte = byte; bit = bit })

symbols :
    raw_text (codes
    "SYMBOL_TABLE\n\" a \",\"I 0.9\",\"BOOL\",\"\"\n\"b\" , \" mw007\" ,\"\",\"x\"\n\" \",\"DB 7\",\"\",\"\"\n\"d\",\"T 5\",\"\",\"\"\nEND_SYMBOL_TABLE\n")
    ≡ Ok (raw_with
    (symbol (codes "a") 2 (place area.I width.Bit 0 9) ∷ symbol (codes "b") 3 (place area.M width.Word 7 0)
    ∷ symbol [] 4 (address.Block block.Db 7) ∷ symbol (codes "d") 5 address.Other ∷ []) [])
unfolding raw_text raw_program item_at instruction_of tokens_of mnemonic_at
symbols = refl

named_block :
    raw_text (codes "SYMBOL_TABLE\nEND_SYMBOL_TABLE\nORGANIZATION_BLOCK \"Main \"\nBEGIN\nEND_ORGANIZATION_BLOCK")
    ≡ Ok (raw_with [] (empty_block (Name (codes "Main ")) 3 5 ∷ []))
unfolding raw_text raw_program item_at instruction_of tokens_of mnemonic_at
named_block = refl

other_addresses : map address_of (codes "I 0 .0" ∷ codes "IB0.0" ∷ codes "I 0" ∷ codes "OB" ∷ codes "DB 1.0" ∷ codes "PIW 4" ∷ codes "" ∷ [])
    ≡ replicate 7 address.Other
other_addresses = refl

symbol_behind_the_word : raw_text (codes "SYMBOL_TABLE \"a\",\"I 0.0\",\"\",\"\"\nEND_SYMBOL_TABLE\n") ≡ refused 1 BadStatement
unfolding raw_text raw_program item_at instruction_of tokens_of mnemonic_at
symbol_behind_the_word = refl

symbol_over_two_lines : raw_text (codes "SYMBOL_TABLE\n\"a\",\"I 0.0\",\n\"\",\"\"\nEND_SYMBOL_TABLE\n") ≡ refused 2 BadStatement
unfolding raw_text raw_program item_at instruction_of tokens_of mnemonic_at
symbol_over_two_lines = refl

two_symbols_on_a_line :
    raw_text (codes "SYMBOL_TABLE\n\"a\",\"I 0.0\",\"\",\"\" \"b\",\"I 0.1\",\"\",\"\"\nEND_SYMBOL_TABLE\n") ≡ refused 2 BadStatement
unfolding raw_text raw_program item_at instruction_of tokens_of mnemonic_at
two_symbols_on_a_line = refl

ends_in_the_table : raw_text (codes "SYMBOL_TABLE\n\"a\",\"I 0.0\",\"\",\"\"\n") ≡ refused 3 BadStatement
unfolding raw_text raw_program item_at instruction_of tokens_of mnemonic_at
ends_in_the_table = refl

symbol_is_cut_off : raw_text (codes "SYMBOL_TABLE\n\"a\",\n") ≡ refused 2 BadStatement
unfolding raw_text raw_program item_at instruction_of tokens_of mnemonic_at
symbol_is_cut_off = refl

-- Temporary variables

-- a block with these declarations, which begin on line 3
abbrev pub with_temps : List ℕ → List ℕ
with_temps temps = codes "ORGANIZATION_BLOCK OB 1\nVAR_TEMP\n" ++ temps ++ codes "\nEND_VAR\nBEGIN\nEND_ORGANIZATION_BLOCK"

-- the program of such a block, whose end word stands on a line
abbrev pub temps_of : ℕ → List Declaration → RawProgram
temps_of last temps = raw_with [] (record (empty_block (Number 1) 1 last) { temps = temps } ∷ [])

abbrev pub temp : List ℕ → ℕ → DeclType → Declaration
temp name line type = record { name = name; line = record { 0 = line }; ty = type; initial = [] }

elementary_types : raw_text (with_temps (codes "a : BOOL;\n1b: dint ; INT : Int;\nd : DATE_AND_TIME ;"))
    ≡ Ok (temps_of 8 (temp (codes "a") 3 (of.Elementary elem.Bool) ∷ temp (codes "1b") 4 (of.Elementary elem.Dint)
    ∷ temp (codes "INT") 4 (of.Elementary elem.Int) ∷ temp (codes "d") 5 of.DateAndTime ∷ []))
unfolding raw_text raw_program item_at instruction_of tokens_of mnemonic_at
elementary_types = refl

arrays : raw_text (with_temps (codes "a : ARRAY [1..5 , -3 .. 99999999999] OF ARRAY[2..1]OF WORD;"))
    ≡ Ok (temps_of 6 (temp (codes "a") 3
    (of.Array ((pos 1, pos 5) ∷ (neg_ℤ (pos 3), pos 4294967295) ∷ []) (of.Array ((pos 2, pos 1) ∷ []) (of.Elementary elem.Word))) ∷ []))
unfolding raw_text raw_program item_at instruction_of tokens_of mnemonic_at
arrays = refl

structs : raw_text (with_temps (codes "a : ARRAY [1..2] OF STRUCT\nb : STRUCT END_STRUCT;\nEND_VAR : CHAR;\nEND_STRUCT ;\nc : BYTE;"))
    ≡ Ok (temps_of 10
    (temp (codes "a") 3
    (of.Array ((pos 1, pos 2) ∷ []) (of.Struct (temp (codes "b") 4 (of.Struct []) ∷ temp (codes "END_VAR") 5 (of.Elementary elem.Char) ∷ [])))
    ∷ temp (codes "c") 7 (of.Elementary elem.Byte) ∷ []))
unfolding raw_text raw_program item_at instruction_of tokens_of mnemonic_at
structs = refl

no_temps : raw_text (with_temps []) ≡ Ok (temps_of 6 [])
unfolding raw_text raw_program item_at instruction_of tokens_of mnemonic_at
no_temps = refl

statement_in_a_section : raw_text (with_temps (codes "A I 0.0;")) ≡ refused 3 BadStatement
unfolding raw_text raw_program item_at instruction_of tokens_of mnemonic_at
statement_in_a_section = refl

unknown_type : raw_text (with_temps (codes "a : STRUCT\nb : FOO;\nEND_STRUCT;")) ≡ refused 4 BadStatement
unfolding raw_text raw_program item_at instruction_of tokens_of mnemonic_at
unknown_type = refl

short_date : raw_text (with_temps (codes "a : DT;")) ≡ refused 3 BadStatement
unfolding raw_text raw_program item_at instruction_of tokens_of mnemonic_at
short_date = refl

real : raw_text (with_temps (codes "a : INT;\nb : ARRAY [1..2] OF REAL foo;")) ≡ refused 4 (Unsupported Real)
unfolding raw_text raw_program item_at instruction_of tokens_of mnemonic_at
real = refl

pointer : raw_text (with_temps (codes "a : any;")) ≡ refused 3 (Unsupported PointerType)
unfolding raw_text raw_program item_at instruction_of tokens_of mnemonic_at
pointer = refl

string : raw_text (with_temps (codes "a : STRING [20] ;")) ≡ refused 3 (Unsupported StringType)
unfolding raw_text raw_program item_at instruction_of tokens_of mnemonic_at
string = refl

time_of_day : raw_text (with_temps (codes "a : TIME_OF_DAY ;")) ≡ refused 3 (Unsupported DateTime)
unfolding raw_text raw_program item_at instruction_of tokens_of mnemonic_at
time_of_day = refl

user_type : raw_text (with_temps (codes "a : UDT5;")) ≡ refused 3 (Unsupported UserType)
unfolding raw_text raw_program item_at instruction_of tokens_of mnemonic_at
user_type = refl

named_user_type : raw_text (with_temps (codes "a : \"MyType\";")) ≡ refused 3 BadStatement
unfolding raw_text raw_program item_at instruction_of tokens_of mnemonic_at
named_user_type = refl

initial_value_of_a_temporary : raw_text (with_temps (codes "a : INT := 5;")) ≡ refused 3 BadStatement
unfolding raw_text raw_program item_at instruction_of tokens_of mnemonic_at
initial_value_of_a_temporary = refl

blank_behind_a_minus : raw_text (with_temps (codes "a : ARRAY [- 1 .. 5] OF INT;")) ≡ refused 3 BadStatement
unfolding raw_text raw_program item_at instruction_of tokens_of mnemonic_at
blank_behind_a_minus = refl

open_array : raw_text (with_temps (codes "a : ARRAY [1 .. ] OF INT;")) ≡ refused 3 BadStatement
unfolding raw_text raw_program item_at instruction_of tokens_of mnemonic_at
open_array = refl

struct_is_not_closed : raw_text (with_temps (codes "a : STRUCT\nb : INT;\nEND_STRUCT c : INT;")) ≡ refused 3 BadStatement
unfolding raw_text raw_program item_at instruction_of tokens_of mnemonic_at
struct_is_not_closed = refl

eighth_level : raw_text (with_temps
    (codes "a : ARRAY [1..2] OF ARRAY [1..2] OF ARRAY [1..2] OF STRUCT\nb : ARRAY [1..2] OF STRUCT\nc : STRUCT\nd : ARRAY [1..2] OF REAL; END_STRUCT; END_STRUCT; END_STRUCT;"))
    ≡ refused 6 (Unsupported Real)
unfolding raw_text raw_program item_at instruction_of tokens_of mnemonic_at
eighth_level = refl

ninth_level : raw_text (with_temps
    (codes "a : ARRAY [1..2] OF ARRAY [1..2] OF ARRAY [1..2] OF STRUCT\nb : ARRAY [1..2] OF STRUCT\nc : STRUCT\nd : ARRAY [1..2] OF ARRAY [1..2] OF INT; END_STRUCT; END_STRUCT; END_STRUCT;"))
    ≡ refused 6 BadStatement
unfolding raw_text raw_program item_at instruction_of tokens_of mnemonic_at
ninth_level = refl

ninth_struct : raw_text (with_temps
    (codes "a : ARRAY [1..2] OF ARRAY [1..2] OF ARRAY [1..2] OF STRUCT\nb : ARRAY [1..2] OF STRUCT\nc : STRUCT\nd : ARRAY [1..2] OF STRUCT END_STRUCT; END_STRUCT; END_STRUCT; END_STRUCT;"))
    ≡ refused 6 BadStatement
unfolding raw_text raw_program item_at instruction_of tokens_of mnemonic_at
ninth_struct = refl

ends_in_a_section : raw_text (codes "ORGANIZATION_BLOCK OB 1\nVAR_TEMP\na : INT;\n") ≡ refused 4 BadStatement
unfolding raw_text raw_program item_at instruction_of tokens_of mnemonic_at
ends_in_a_section = refl

ends_in_a_struct : raw_text (codes "ORGANIZATION_BLOCK OB 1\nVAR_TEMP\na : STRUCT\nb : STRUCT\nc : INT;\n") ≡ refused 4 BadStatement
unfolding raw_text raw_program item_at instruction_of tokens_of mnemonic_at
ends_in_a_struct = refl

ends_behind_a_nested_struct : raw_text (codes "ORGANIZATION_BLOCK OB 1\nVAR_TEMP\na : STRUCT\nb : STRUCT\nEND_STRUCT;\n\n") ≡ refused 3 BadStatement
unfolding raw_text raw_program item_at instruction_of tokens_of mnemonic_at
ends_behind_a_nested_struct = refl

ends_in_a_declaration : raw_text (codes "ORGANIZATION_BLOCK OB 1\nVAR_TEMP\na :\nREAL\n") ≡ refused 3 BadStatement
unfolding raw_text raw_program item_at instruction_of tokens_of mnemonic_at
ends_in_a_declaration = refl

ends_behind_a_section : raw_text (codes "ORGANIZATION_BLOCK OB 1\nVAR_TEMP\nEND_VAR\n") ≡ refused 4 BadStatement
unfolding raw_text raw_program item_at instruction_of tokens_of mnemonic_at
ends_behind_a_section = refl

type_of_the_users : raw_text (codes "TYPE") ≡ refused 1 (Unsupported UserType)
unfolding raw_text raw_program item_at instruction_of tokens_of mnemonic_at
type_of_the_users = refl

statement_behind_a_section : raw_text (codes "ORGANIZATION_BLOCK OB 1\nVAR_TEMP\nEND_VAR\nA I 0.0;\nEND_ORGANIZATION_BLOCK") ≡ refused 4 BadStatement
unfolding raw_text raw_program item_at instruction_of tokens_of mnemonic_at
statement_behind_a_section = refl

-- Data blocks

-- a data block with these declarations from line 3 on, and these initial values
abbrev pub with_data : List ℕ → List ℕ → List ℕ
with_data decls values =
    codes "DATA_BLOCK DB 5\nSTRUCT\n" ++ decls ++ codes "\nEND_STRUCT;\nBEGIN\n" ++ values ++ codes "\nEND_DATA_BLOCK"

-- the program of such a block
abbrev pub data_of : List Declaration → List RawInitial → RawProgram
data_of decls values =
    record {
      symbols = [];
      dbs = record { name = Number 5; line = record { 0 = 1 }; kind = Own decls; initial = values } ∷ [];
      blocks = [];
    }

-- a declaration with initial values
abbrev pub given : List ℕ → ℕ → DeclType → List InitialItem → Declaration
given name line type items = record { name = name; line = record { 0 = line }; ty = type; initial = items }

abbrev pub initially : List PathStep → ℕ → Constant → RawInitial
initially path line value = record { path = path; line = record { 0 = line }; value = value }

data_block : raw_text (with_data (codes "a : ARRAY [0 .. 3] OF INT := 1, 2 (7), 5;") (codes "a[1] := 3;")) ≡ Ok (data_of
    (given (codes "a") 3 (of.Array ((pos 0, pos 3) ∷ []) (of.Elementary elem.Int))
    (once (plain 1) ∷ times 2 (plain 7 ∷ []) ∷ once (plain 5) ∷ []) ∷ [])
    (initially (step.Name (codes "a") ∷ step.Index (pos 1 ∷ []) ∷ []) 6 (plain 3) ∷ []))
unfolding raw_text raw_program item_at instruction_of tokens_of mnemonic_at
data_block = refl

data_struct : raw_text (with_data (codes "a : STRUCT\nb : BOOL := TRUE;\nEND_STRUCT := 5;\nc : ARRAY [1..2] OF STRUCT END_STRUCT := 2(FALSE, B#16#1);")
    (codes "a.b := P#M 3.1; c := P#65535.7;")) ≡ Ok (data_of
    (given (codes "a") 3 (of.Struct (given (codes "b") 4 (of.Elementary elem.Bool) (once (constant width.Bit 1) ∷ []) ∷ [])) (once (plain 5) ∷ [])
    ∷ given (codes "c") 6 (of.Array ((pos 1, pos 2) ∷ []) (of.Struct []))
    (times 2 (constant width.Bit 0 ∷ constant width.Byte 1 ∷ []) ∷ []) ∷ [])
    (initially (step.Name (codes "a") ∷ step.Name (codes "b") ∷ []) 9 (constant width.Dword 0x83000019)
    ∷ initially (step.Name (codes "c") ∷ []) 9 (constant width.Dword 0x7FFFF) ∷ []))
unfolding raw_text raw_program item_at instruction_of tokens_of mnemonic_at
data_struct = refl

two_kinds :
    raw_text
    (codes "DATA_BLOCK \"d\"\nNON_RETAIN\nSTRUCT END_STRUCT;\nBEGIN END_DATA_BLOCK\nORGANIZATION_BLOCK OB 1\nBEGIN\nEND_ORGANIZATION_BLOCK DATA_BLOCK DB3 STRUCT END_STRUCT ; BEGIN END_DATA_BLOCK")
    ≡ Ok (record {
      symbols = [];
      dbs = record { name = Name (codes "d"); line = record { 0 = 1 }; kind = Own []; initial = [] }
          ∷ record { name = Number 3; line = record { 0 = 7 }; kind = Own []; initial = [] } ∷ [];
      blocks = empty_block (Number 1) 5 7 ∷ [];
    })
unfolding raw_text raw_program item_at instruction_of tokens_of mnemonic_at
two_kinds = refl

data_block_of_no_number : raw_text (codes "DATA_BLOCK FB 5") ≡ refused 1 BadStatement
unfolding raw_text raw_program item_at instruction_of tokens_of mnemonic_at
data_block_of_no_number = refl

data_block_is_cut_off : raw_text (codes "DATA_BLOCK\nDB") ≡ refused 1 BadStatement
unfolding raw_text raw_program item_at instruction_of tokens_of mnemonic_at
data_block_is_cut_off = refl

begin_without_a_struct : raw_text (codes "DATA_BLOCK DB 5\nBEGIN") ≡ refused 2 BadStatement
unfolding raw_text raw_program item_at instruction_of tokens_of mnemonic_at
begin_without_a_struct = refl

section_of_a_data_block : raw_text (codes "DATA_BLOCK DB 5\nVAR_TEMP") ≡ refused 2 BadStatement
unfolding raw_text raw_program item_at instruction_of tokens_of mnemonic_at
section_of_a_data_block = refl

instance_without_its_number : raw_text (codes "DATA_BLOCK DB 5\nFB") ≡ refused 2 BadStatement
unfolding raw_text raw_program item_at instruction_of tokens_of mnemonic_at
instance_without_its_number = refl

data_of_a_user_type : raw_text (codes "DATA_BLOCK DB 5\nUDT 4") ≡ refused 2 (Unsupported UserType)
unfolding raw_text raw_program item_at instruction_of tokens_of mnemonic_at
data_of_a_user_type = refl

data_of_a_system_block : raw_text (codes "DATA_BLOCK DB 5\nSFB4") ≡ refused 2 (Unsupported SystemCall)
unfolding raw_text raw_program item_at instruction_of tokens_of mnemonic_at
data_of_a_system_block = refl

data_without_a_semicolon : raw_text (codes "DATA_BLOCK DB 5\nSTRUCT\nEND_STRUCT\nBEGIN") ≡ refused 3 BadStatement
unfolding raw_text raw_program item_at instruction_of tokens_of mnemonic_at
data_without_a_semicolon = refl

data_without_a_body : raw_text (codes "DATA_BLOCK DB 5\nSTRUCT\nEND_STRUCT;\nNETWORK") ≡ refused 4 BadStatement
unfolding raw_text raw_program item_at instruction_of tokens_of mnemonic_at
data_without_a_body = refl

date_in_a_data_block : raw_text (with_data (codes "d : DATE_AND_TIME foo;") []) ≡ refused 3 (Unsupported DateTime)
unfolding raw_text raw_program item_at instruction_of tokens_of mnemonic_at
date_in_a_data_block = refl

list_without_an_array : raw_text (with_data (codes "a : INT := 2 (3);") []) ≡ refused 3 BadStatement
unfolding raw_text raw_program item_at instruction_of tokens_of mnemonic_at
list_without_an_array = refl

two_values_without_an_array : raw_text (with_data (codes "a : INT := 2, 3;") []) ≡ refused 3 BadStatement
unfolding raw_text raw_program item_at instruction_of tokens_of mnemonic_at
two_values_without_an_array = refl

list_of_a_struct : raw_text (with_data (codes "a : STRUCT\nb : INT;\nEND_STRUCT := 2, 3;") []) ≡ refused 3 BadStatement
unfolding raw_text raw_program item_at instruction_of tokens_of mnemonic_at
list_of_a_struct = refl

no_times : raw_text (with_data (codes "a : ARRAY [1..2] OF INT := 0 (1);") []) ≡ refused 3 BadStatement
unfolding raw_text raw_program item_at instruction_of tokens_of mnemonic_at
no_times = refl

too_many_times : raw_text (with_data (codes "a : ARRAY [1..2] OF INT := 65536 (1);") []) ≡ refused 3 BadStatement
unfolding raw_text raw_program item_at instruction_of tokens_of mnemonic_at
too_many_times = refl

empty_brackets : raw_text (with_data (codes "a : ARRAY [1..2] OF INT := 2 ();") []) ≡ refused 3 BadStatement
unfolding raw_text raw_program item_at instruction_of tokens_of mnemonic_at
empty_brackets = refl

real_value : raw_text (with_data (codes "a : ARRAY [1..2] OF INT := 1, 2 (3, 4.5 ;") []) ≡ refused 3 (Unsupported Real)
unfolding raw_text raw_program item_at instruction_of tokens_of mnemonic_at
real_value = refl

real_value_of_a_struct : raw_text (with_data (codes "a : STRUCT\nEND_STRUCT := 4.5;") []) ≡ refused 3 (Unsupported Real)
unfolding raw_text raw_program item_at instruction_of tokens_of mnemonic_at
real_value_of_a_struct = refl

statement_in_a_data_block : raw_text (with_data (codes "A I 0.0;") []) ≡ refused 3 BadStatement
unfolding raw_text raw_program item_at instruction_of tokens_of mnemonic_at
statement_in_a_data_block = refl

pointer_past_its_byte : raw_text (with_data [] (codes "a := P#65536.0;")) ≡ refused 6 BadStatement
unfolding raw_text raw_program item_at instruction_of tokens_of mnemonic_at
pointer_past_its_byte = refl

pointer_past_its_bit : raw_text (with_data [] (codes "a := P#I 0.8;")) ≡ refused 6 BadStatement
unfolding raw_text raw_program item_at instruction_of tokens_of mnemonic_at
pointer_past_its_bit = refl

pointer_in_a_block : raw_text (with_data [] (codes "a := P#DB5.DBX 0.0;")) ≡ refused 6 BadStatement
unfolding raw_text raw_program item_at instruction_of tokens_of mnemonic_at
pointer_in_a_block = refl

empty_value : raw_text (with_data [] (codes ";")) ≡ refused 6 BadStatement
unfolding raw_text raw_program item_at instruction_of tokens_of mnemonic_at
empty_value = refl

network_among_values : raw_text (with_data [] (codes "NETWORK")) ≡ refused 6 BadStatement
unfolding raw_text raw_program item_at instruction_of tokens_of mnemonic_at
network_among_values = refl

time_value : raw_text (with_data [] (codes "a.b[1] := T#5s foo;")) ≡ refused 6 (Unsupported DateTime)
unfolding raw_text raw_program item_at instruction_of tokens_of mnemonic_at
time_value = refl

value_is_cut_off : raw_text (codes "DATA_BLOCK DB 5\nSTRUCT\nEND_STRUCT;\nBEGIN\na := T#5s") ≡ refused 5 BadStatement
unfolding raw_text raw_program item_at instruction_of tokens_of mnemonic_at
value_is_cut_off = refl

ends_among_values : raw_text (codes "DATA_BLOCK DB 5\nSTRUCT\nEND_STRUCT;\nBEGIN\na := 5;\n") ≡ refused 6 BadStatement
unfolding raw_text raw_program item_at instruction_of tokens_of mnemonic_at
ends_among_values = refl

ends_in_a_nested_struct : raw_text (codes "DATA_BLOCK DB 5\nSTRUCT\na : STRUCT\nb : INT;\n") ≡ refused 3 BadStatement
unfolding raw_text raw_program item_at instruction_of tokens_of mnemonic_at
ends_in_a_nested_struct = refl

ends_in_declarations : raw_text (codes "DATA_BLOCK DB 5\nSTRUCT\na : INT;\n") ≡ refused 4 BadStatement
unfolding raw_text raw_program item_at instruction_of tokens_of mnemonic_at
ends_in_declarations = refl
