-- Names, blocks and layout, held against worked rows by computing what is judged of raw programs.
use denote.Hole.Carrier
use Rattle.std.proofs.Common.{◌≡◌, refl, List, [], ◌∷◌, ◌++◌, ℕ, Some, None, Ok, Result, Err}
use Rattle.std.specs.Prelude.{codes, map, pos, replicate}
use Rattle.memory_areas.specs.declared.call.BlockName.TheVariants.{Ob}
use Rattle.memory_areas.specs.declared.data_block.DataBlock.{DataBlock}
use Rattle.memory_areas.specs.declared.place.Area.TheVariants as area_of
use Rattle.memory_areas.specs.declared.place.AreaName.{AreaName}
use Rattle.memory_areas.specs.declared.place.AreaName.TheVariants as area
use Rattle.s7_base.specs.declared.reason.Line.{Line}
use Rattle.s7_base.specs.declared.reason.Reason.TheVariants.{BadAddress, BadOperand, DuplicateBlock, DuplicateName, TooLarge, UnknownName}
use Rattle.s7_base.specs.declared.reason.Rejection.{Rejection}
use Rattle.s7_base.specs.declared.word.Width.{Width}
use Rattle.s7_base.specs.declared.word.Width.TheVariants as width
use Rattle.stl_statement_grammar.specs.Constants.{constant, plain}
use Rattle.stl_statement_grammar.specs.Mnemonics.{mnemonic_named}
use Rattle.stl_rules.specs.Labels.{label_of}
use Rattle.stl_rules.specs.DeclarationRules.{scope_breaks}
use Rattle.stl_rules.specs.Programs.{op_of, op_or_rule, op_with}
use Rattle.stl_rules.specs.Raw.{OperandScope, resolved_operand}
use Rattle.stl_rules.specs.Stages.{instr_breaks}
use Rattle.stl_rules.specs.TooLarge.{first_large}
use Rattle.stl_rules.specs.Verdict.{checked_program}
use Rattle.stl_statement_grammar.specs.declared.mnemonic.Mnemonic.TheVariants as is
use Rattle.stl_tree.specs.declared.program.LoadArg.TheVariants as load
use Rattle.stl_tree.specs.declared.program.Op.{Op}
use Rattle.stl_tree.specs.declared.program.Op.TheVariants as op
use Rattle.stl_tree.specs.declared.program.OpenArg.TheVariants as open_arg
use Rattle.stl_tree.specs.declared.program.Operand.TheVariants.{Direct, Opened}
use Rattle.stl_tree.specs.declared.program.Program.{Program}
use Rattle.stl_tree.specs.declared.program.Symbol.{Symbol}
use Rattle.stl_tree.specs.declared.raw.BlockKind.TheVariants as block
use Rattle.stl_tree.specs.declared.raw.Constant.{Constant}
use Rattle.stl_tree.specs.declared.raw.Declaration.{Declaration}
use Rattle.stl_tree.specs.declared.raw.DeclType.TheVariants as type
use Rattle.stl_tree.specs.declared.raw.ElemType.TheVariants as elem
use Rattle.stl_tree.specs.declared.raw.PathStep.{PathStep}
use Rattle.stl_tree.specs.declared.raw.PathStep.TheVariants as step
use Rattle.stl_tree.specs.declared.raw.RawBlock.{RawBlock}
use Rattle.stl_tree.specs.declared.raw.RawData.{RawData}
use Rattle.stl_tree.specs.declared.raw.RawDataKind.TheVariants as data_kind
use Rattle.stl_tree.specs.declared.raw.RawInitial.{RawInitial}
use Rattle.stl_tree.specs.declared.raw.RawInstr.{RawInstr}
use Rattle.stl_tree.specs.declared.raw.RawName.{RawName}
use Rattle.stl_tree.specs.declared.raw.RawName.TheVariants.{Number, Name}
use Rattle.stl_tree.specs.declared.raw.RawOperand.{RawOperand, out-RawOperand}
use Rattle.stl_tree.specs.declared.raw.RawOperand.TheVariants as operand
use Rattle.stl_tree.specs.declared.raw.RawPlace.{RawPlace}
use Rattle.stl_tree.specs.declared.raw.RawProgram.{RawProgram}
use Rattle.stl_tree.specs.declared.raw.SymbolAddress.{SymbolAddress}
use Rattle.stl_tree.specs.declared.raw.SymbolAddress.TheVariants as address
use Rattle.stl_tree.specs.declared.raw.SymbolLine.{SymbolLine}
use Rattle.stl_rules.specs.declared.resolved_operand.ResolvedOperand.TheVariants as behind
use Rattle.stl_rules.proofs.Equations.{bits_equations, extent_equations, inside_equations, rule_equations}
use Rattle.stl_rules.proofs.LayoutCases.{declared, of}
use Rattle.stl_rules.proofs.VerdictCases.{on_line_3, refused}

-- Raw programs

abbrev pub on_line : ℕ → Line
on_line n = record { 0 = n }

abbrev pub place : AreaName → Width → ℕ → ℕ → RawPlace
place name w byte bit = record { block = None; area = name; width = w; byte = byte; bit = bit }

-- a place with the number of its data block
abbrev in_db : ℕ → Width → ℕ → ℕ → RawPlace
in_db n w byte bit = record { block = Some n; area = area.Db; width = w; byte = byte; bit = bit }

abbrev pub instr : List ℕ → RawOperand → RawInstr
instr mnemonic o =
    record { label = None; line = on_line 3; op = record { mnemonic = mnemonic; operand = o } }

abbrev pub ob : ℕ → RawName → List Declaration → List RawInstr → RawBlock
ob line name temps body =
    record {
      kind = block.Ob;
      name = name;
      line = on_line line;
      result = None;
      inputs = [];
      outputs = [];
      in_outs = [];
      statics = [];
      temps = temps;
      body = body;
      end_line = on_line 4;
    }

-- OB 1 on line 1 with a body on line 3, below symbols and data blocks
abbrev below : List SymbolLine → List RawData → List RawInstr → RawProgram
below symbols dbs body =
    record { symbols = symbols; dbs = dbs; blocks = ob 1 (Number 1) [] body ∷ [] }

abbrev alone : List RawInstr → RawProgram
alone body = below [] [] body

abbrev symbol : ℕ → List ℕ → SymbolAddress → SymbolLine
symbol line name its_address = record { name = name; line = on_line line; address = its_address }

-- OB 1 with these instructions, its symbols and data blocks
abbrev accepted : List Symbol → List DataBlock → List Op → Result Program Rejection
accepted symbols dbs ops =
    Ok (record {
      dbs = dbs;
      instances = [];
      blocks =
          record {
            name = Ob 1;
            line = on_line 1;
            formals = [];
            body = map on_line_3 ops ++ (record { line = on_line 4; op = op.BlockEnd } ∷ []);
          } ∷ [];
      symbols = symbols;
    })

-- Addresses

past_the_inputs : checked_program (alone (instr (codes "A") (operand.At (place area.I width.Bit 2048 0)) ∷ [])) ≡ refused 3 BadAddress
unfolding checked_program mnemonic_named op_of resolved_operand label_of out-RawOperand Carrier.out scope_breaks first_large
past_the_inputs = refl

word_asked : checked_program (alone (instr (codes "A") (operand.At (place area.M width.Word 0 0)) ∷ [])) ≡ refused 3 BadOperand
unfolding checked_program mnemonic_named op_of resolved_operand label_of out-RawOperand Carrier.out scope_breaks first_large
word_asked = refl

-- of both the lesser number is named
word_asked_outside : checked_program (alone (instr (codes "A") (operand.At (place area.M width.Word 9000 0)) ∷ [])) ≡ refused 3 BadOperand
unfolding checked_program mnemonic_named op_of resolved_operand label_of out-RawOperand Carrier.out scope_breaks first_large
word_asked_outside = refl

past_the_markers : checked_program (alone (instr (codes "A") (operand.At (place area.M width.Bit 9000 0)) ∷ [])) ≡ refused 3 BadAddress
unfolding checked_program mnemonic_named op_of resolved_operand label_of out-RawOperand Carrier.out scope_breaks first_large
past_the_markers = refl

bit_eight : checked_program (alone (instr (codes "A") (operand.At (place area.I width.Bit 0 8)) ∷ [])) ≡ refused 3 BadAddress
unfolding checked_program mnemonic_named op_of resolved_operand label_of out-RawOperand Carrier.out scope_breaks first_large
bit_eight = refl

block_zero : checked_program (alone (instr (codes "A") (operand.At (in_db 0 width.Bit 0 0)) ∷ [])) ≡ refused 3 BadAddress
unfolding checked_program mnemonic_named op_of resolved_operand label_of out-RawOperand Carrier.out scope_breaks first_large
block_zero = refl

-- the length of a data block is judged at run time
last_byte : checked_program (alone (instr (codes "L") (operand.At (place area.Db width.Dword 65535 0)) ∷ []))
    ≡ accepted [] [] (op.Load (load.At (Direct area.Db 65535 0) width.Dword) ∷ [])
unfolding checked_program mnemonic_named op_of resolved_operand label_of out-RawOperand Carrier.out scope_breaks first_large
last_byte = refl

past_the_bytes : checked_program (alone (instr (codes "L") (operand.At (place area.Db width.Byte 65536 0)) ∷ [])) ≡ refused 3 BadAddress
unfolding checked_program mnemonic_named op_of resolved_operand label_of out-RawOperand Carrier.out scope_breaks first_large
past_the_bytes = refl

with_its_block : checked_program (alone (instr (codes "L") (operand.At (in_db 5 width.Word 4 0)) ∷ []))
    ≡ accepted [] [] (op.Load (load.At (Opened 5 4 0) width.Word) ∷ [])
unfolding checked_program mnemonic_named op_of resolved_operand label_of out-RawOperand Carrier.out scope_breaks first_large
with_its_block = refl

-- Blocks

-- OPN, whatever its row in the table is
abbrev inside : List SymbolLine → List RawData → List Declaration → OperandScope
inside symbols dbs temps =
    record { text = below symbols dbs []; block = ob 1 (Number 1) temps [] }

abbrev nothing : OperandScope
nothing = inside [] [] []

opened_by_number : op_with is.Open (resolved_operand nothing (operand.OpenDb (Number 7))) ≡ Some (op.OpenDb (open_arg.Number 7))
unfolding resolved_operand label_of out-RawOperand Carrier.out
opened_by_number = refl

opened_zero : op_or_rule (Some is.Open) (resolved_operand nothing (operand.OpenDb (Number 0))) ≡ Err BadAddress
unfolding resolved_operand label_of out-RawOperand Carrier.out
opened_zero = refl

twice_block_1 : checked_program (record { symbols = []; dbs = []; blocks = ob 1 (Number 1) [] [] ∷ ob 6 (Number 2) [] [] ∷ ob 11 (Number 1) [] [] ∷ [] })
    ≡ refused 11 DuplicateBlock
unfolding checked_program mnemonic_named op_of resolved_operand label_of out-RawOperand Carrier.out scope_breaks first_large
twice_block_1 = refl

no_block_0 : checked_program (record { symbols = []; dbs = []; blocks = ob 1 (Number 0) [] [] ∷ [] }) ≡ refused 1 BadAddress
unfolding checked_program mnemonic_named op_of resolved_operand label_of out-RawOperand Carrier.out scope_breaks first_large
no_block_0 = refl

named_block : checked_program
    (record { symbols = symbol 20 (codes "Main") (address.Block block.Ob 1) ∷ []; dbs = []; blocks = ob 1 (Name (codes "main")) [] [] ∷ [] })
    ≡ accepted [] [] []
unfolding checked_program mnemonic_named op_of resolved_operand label_of out-RawOperand Carrier.out scope_breaks first_large
named_block = refl

-- Symbols

-- "Motor" at Q 4.0, "x" at M 0.0, and DB 5 as "d"
abbrev some_symbols : List SymbolLine
some_symbols =
    symbol 20 (codes "Motor") (address.At (place area.Q width.Bit 4 0))
    ∷ symbol 21 (codes "x") (address.At (place area.M width.Bit 0 0))
    ∷ symbol 22 (codes "d") (address.Block block.Db 5) ∷ []

abbrev places : List Symbol
places =
    record { name = codes "Motor"; place = record { area = area_of.Q; byte = 4; bit = 0 }; width = width.Bit }
    ∷ record { name = codes "x"; place = record { area = area_of.M; byte = 0; bit = 0 }; width = width.Bit } ∷ []

motor : checked_program (below some_symbols [] (instr (codes "=") (operand.Named (codes "MOTOR")) ∷ []))
    ≡ accepted places [] (op.Assign (Direct area.Q 4 0) ∷ [])
unfolding checked_program mnemonic_named op_of resolved_operand label_of out-RawOperand Carrier.out scope_breaks first_large
motor = refl

no_symbol : checked_program (below some_symbols [] (instr (codes "A") (operand.Named (codes "y")) ∷ [])) ≡ refused 3 UnknownName
unfolding checked_program mnemonic_named op_of resolved_operand label_of out-RawOperand Carrier.out scope_breaks first_large
no_symbol = refl

block_as_operand : checked_program (below some_symbols [] (instr (codes "A") (operand.Named (codes "d")) ∷ [])) ≡ refused 3 BadOperand
unfolding checked_program mnemonic_named op_of resolved_operand label_of out-RawOperand Carrier.out scope_breaks first_large
block_as_operand = refl

abbrev by_symbols : OperandScope
by_symbols = inside some_symbols [] []

marker_opened : op_or_rule (Some is.Open) (resolved_operand by_symbols (operand.OpenDb (Name (codes "x")))) ≡ Err BadOperand
unfolding resolved_operand label_of out-RawOperand Carrier.out
marker_opened = refl

unknown_opened : op_or_rule (Some is.Open) (resolved_operand by_symbols (operand.OpenDb (Name (codes "y")))) ≡ Err UnknownName
unfolding resolved_operand label_of out-RawOperand Carrier.out
unknown_opened = refl

opened_by_name : op_with is.Open (resolved_operand by_symbols (operand.OpenDi (Name (codes "d")))) ≡ Some (op.OpenDi (open_arg.Number 5))
unfolding resolved_operand label_of out-RawOperand Carrier.out
opened_by_name = refl

-- a name that stands twice means its first line
abbrev twice : List SymbolLine
twice = symbol 20 (codes "s") (address.At (place area.M width.Bit 1 0)) ∷ symbol 21 (codes "S") (address.At (place area.M width.Bit 2 0)) ∷ []

twice_a_symbol : checked_program (below twice [] []) ≡ refused 21 DuplicateName
unfolding checked_program mnemonic_named op_of resolved_operand label_of out-RawOperand Carrier.out scope_breaks first_large
twice_a_symbol = refl

first_is_meant : resolved_operand (inside twice [] []) (operand.Named (codes "S")) ≡ behind.At (Direct area.M 1 0) width.Bit
unfolding resolved_operand label_of out-RawOperand Carrier.out
first_is_meant = refl

symbol_outside : checked_program (below (symbol 20 (codes "s") (address.At (place area.M width.Dword 8189 0)) ∷ []) [] []) ≡ refused 20 BadAddress
unfolding checked_program mnemonic_named op_of resolved_operand label_of out-RawOperand Carrier.out scope_breaks first_large
symbol_outside = refl

-- Components

-- "d".a, and what stands behind it
abbrev in_d : List PathStep → RawOperand
in_d steps = operand.InBlock (codes "d") (step.Name (codes "a") ∷ steps)

no_such_block : checked_program (below some_symbols [] (instr (codes "A") (in_d []) ∷ [])) ≡ refused 3 UnknownName
unfolding checked_program mnemonic_named op_of resolved_operand label_of out-RawOperand Carrier.out scope_breaks first_large
no_such_block = refl

-- a : ARRAY [0 .. 3] OF INT on line 12, as DB 5
abbrev four : List Declaration
four = declared (codes "a") 12 (type.Array ((pos 0, pos 3) ∷ []) (of elem.Int)) ∷ []

abbrev db : ℕ → ℕ → List Declaration → List RawInitial → RawData
db line n decls initial =
    record { name = Number n; line = on_line line; kind = data_kind.Own decls; initial = initial }

whole_array : checked_program (below some_symbols (db 11 5 four [] ∷ []) (instr (codes "L") (in_d []) ∷ [])) ≡ refused 3 BadOperand
unfolding checked_program mnemonic_named op_of resolved_operand label_of out-RawOperand Carrier.out first_large
whole_array = simp (extent_equations, rule_equations, inside_equations)

element : checked_program (below some_symbols (db 11 5 four [] ∷ []) (instr (codes "L") (in_d (step.Index (pos 2 ∷ []) ∷ [])) ∷ []))
    ≡ accepted places (record { number = 5; bytes = replicate 8 0 } ∷ []) (op.Load (load.At (Opened 5 4 0) width.Word) ∷ [])
unfolding checked_program mnemonic_named op_of resolved_operand label_of out-RawOperand Carrier.out first_large
element = simp (extent_equations, rule_equations, inside_equations, bits_equations)

unknown_component : checked_program
    (below some_symbols (db 11 5 four [] ∷ []) (instr (codes "L") (operand.InBlock (codes "d") (step.Name (codes "b") ∷ [])) ∷ []))
    ≡ refused 3 UnknownName
unfolding checked_program mnemonic_named op_of resolved_operand label_of out-RawOperand Carrier.out first_large
unknown_component = simp (extent_equations, rule_equations, inside_equations)

-- Temporaries

-- x : INT on line 2, and x : BOOL on line 3
abbrev twice_x : List Declaration
twice_x = declared (codes "x") 2 (of elem.Int) ∷ declared (codes "X") 3 (of elem.Bool) ∷ []

abbrev with_temps : List Declaration → List RawInstr → RawProgram
with_temps temps body = record { symbols = []; dbs = []; blocks = ob 1 (Number 1) temps body ∷ [] }

twice_a_temporary : checked_program (with_temps twice_x []) ≡ refused 3 DuplicateName
unfolding checked_program mnemonic_named op_of resolved_operand label_of out-RawOperand Carrier.out first_large
twice_a_temporary = simp (extent_equations, rule_equations, inside_equations)

-- a path into declarations that are refused breaks nothing
unjudged : instr_breaks (inside [] [] twice_x) (instr (codes "A") (operand.Local (step.Name (codes "y") ∷ []))) ≡ []
unfolding mnemonic_named op_of resolved_operand label_of out-RawOperand Carrier.out first_large
unjudged = simp (extent_equations, rule_equations, inside_equations)

abbrev byte_and_bit : List Declaration
byte_and_bit = declared (codes "a") 2 (of elem.Byte) ∷ declared (codes "b") 3 (of elem.Bool) ∷ []

temporary : checked_program (with_temps byte_and_bit (instr (codes "=") (operand.Local (step.Name (codes "B") ∷ [])) ∷ []))
    ≡ accepted [] [] (op.Assign (Direct area.L 1 0) ∷ [])
unfolding checked_program mnemonic_named op_of resolved_operand label_of out-RawOperand Carrier.out first_large
temporary = simp (extent_equations, rule_equations, inside_equations)

unknown_temporary : checked_program (with_temps byte_and_bit (instr (codes "A") (operand.Local (step.Name (codes "c") ∷ [])) ∷ []))
    ≡ refused 3 UnknownName
unfolding checked_program mnemonic_named op_of resolved_operand label_of out-RawOperand Carrier.out first_large
unknown_temporary = simp (extent_equations, rule_equations, inside_equations)

-- 258 bytes
long_temporaries : checked_program (with_temps (declared (codes "a") 2 (type.Array ((pos 1, pos 129) ∷ []) (of elem.Int)) ∷ []) []) ≡ refused 2 TooLarge
unfolding checked_program mnemonic_named op_of resolved_operand label_of out-RawOperand Carrier.out first_large
long_temporaries = simp (extent_equations, rule_equations, inside_equations)

-- Data blocks

long_block : checked_program (below [] (db 11 5 (declared (codes "a") 12 (type.Array ((pos 1, pos 8193) ∷ []) (of elem.Int)) ∷ []) [] ∷ []) [])
    ≡ refused 12 TooLarge
unfolding checked_program mnemonic_named op_of resolved_operand label_of out-RawOperand Carrier.out first_large
long_block = simp (extent_equations, rule_equations, inside_equations)

-- an initial value on line 15, after BEGIN
abbrev initially : List PathStep → Constant → RawInitial
initially path c = record { path = path; line = on_line 15; value = c }

unknown_value : checked_program (below [] (db 11 5 four (initially (step.Name (codes "b") ∷ []) (plain 1) ∷ []) ∷ []) []) ≡ refused 15 UnknownName
unfolding checked_program mnemonic_named op_of resolved_operand label_of out-RawOperand Carrier.out first_large
unknown_value = simp (extent_equations, rule_equations, inside_equations)

abbrev a_1 : List PathStep
a_1 = step.Name (codes "a") ∷ step.Index (pos 1 ∷ []) ∷ []

wide_value : checked_program (below [] (db 11 5 four (initially a_1 (constant width.Dword 1) ∷ []) ∷ []) []) ≡ refused 15 BadOperand
unfolding checked_program mnemonic_named op_of resolved_operand label_of out-RawOperand Carrier.out first_large
wide_value = simp (extent_equations, rule_equations, inside_equations)

whole_value : checked_program (below [] (db 11 5 four (initially (step.Name (codes "a") ∷ []) (plain 1) ∷ []) ∷ []) []) ≡ refused 15 BadOperand
unfolding checked_program mnemonic_named op_of resolved_operand label_of out-RawOperand Carrier.out first_large
whole_value = simp (extent_equations, rule_equations, inside_equations)

-- blocks 7 and 3 come as 3 and 7; an empty one has two bytes
with_values : checked_program (below [] (db 11 7 four (initially a_1 (plain 258) ∷ []) ∷ db 17 3 [] [] ∷ []) [])
    ≡ accepted [] (record { number = 3; bytes = 0 ∷ 0 ∷ [] } ∷ record { number = 7; bytes = 0 ∷ 0 ∷ 1 ∷ 2 ∷ 0 ∷ 0 ∷ 0 ∷ 0 ∷ [] } ∷ []) []
unfolding checked_program mnemonic_named op_of resolved_operand label_of out-RawOperand Carrier.out first_large
with_values = simp (extent_equations, rule_equations, inside_equations, bits_equations)

twice_block_5 : checked_program (below [] (db 11 5 [] [] ∷ db 17 5 [] [] ∷ []) []) ≡ refused 17 DuplicateBlock
unfolding checked_program mnemonic_named op_of resolved_operand label_of out-RawOperand Carrier.out scope_breaks first_large
twice_block_5 = refl

-- a path means the first of two data blocks
first_block_is_meant :
    resolved_operand (inside some_symbols (db 11 5 four [] ∷ db 17 5 [] [] ∷ []) []) (in_d (step.Index (pos 1 ∷ []) ∷ []))
    ≡ behind.At (Opened 5 2 0) width.Word
unfolding resolved_operand label_of out-RawOperand Carrier.out first_large
first_block_is_meant = simp (extent_equations, rule_equations, inside_equations)

block_65536 : checked_program (below [] (db 11 65536 [] [] ∷ []) []) ≡ refused 11 BadAddress
unfolding checked_program mnemonic_named op_of resolved_operand label_of out-RawOperand Carrier.out scope_breaks first_large
block_65536 = refl
