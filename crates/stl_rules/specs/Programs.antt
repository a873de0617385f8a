-- The program of a raw program. Its instructions by their mnemonics and operands, or the rules that these break, and
-- the names of its blocks. Instructions and blocks have the places that they have in the raw program.
-- Held against: each chapter of the manual.
use Rattle.std.specs.Prelude.{ℕ, ◌^◌, Bool, false, ◌==◌, ◌&&◌, nat_le, nat_lt, if◌then◌else◌, List, [], ◌∷◌, ◌++◌, length, map, Option, Some, None, option_map, Result, Ok, Err}
use Rattle.std.specs.List.{filter_map}
use Rattle.memory_areas.specs.declared.call.BlockName.{BlockName}
use Rattle.memory_areas.specs.declared.call.BlockName.TheVariants.{Ob, Fc, Fb}
use Rattle.memory_areas.specs.declared.place.Area.{Area}
use Rattle.memory_areas.specs.declared.place.Area.TheVariants as area
use Rattle.memory_areas.specs.declared.place.AreaName.{AreaName}
use Rattle.memory_areas.specs.declared.place.AreaName.TheVariants as name
use Rattle.s7_base.specs.declared.check.Check.{Check}
use Rattle.s7_base.specs.declared.check.Check.TheVariants as check
use Rattle.s7_base.specs.declared.reason.Reason.{Reason}
use Rattle.s7_base.specs.declared.reason.Reason.TheVariants.{BadAddress, BadOperand, UnknownName}
use Rattle.s7_base.specs.declared.word.Width.{Width}
use Rattle.s7_base.specs.declared.word.Width.TheVariants as width
use Rattle.status_word.specs.declared.test.Test.{Test}
use Rattle.memory_areas.specs.Access.{and_then, bits_wide}
use Rattle.stl_tree.specs.Accumulators.{signed_part}
use Rattle.stl_tree.specs.Arithmetic.{is_comparison}
use Rattle.stl_statement_grammar.specs.Constants.{constant, fits, value_in}
use Rattle.stl_statement_grammar.specs.Mnemonics.{mnemonic_named}
use Rattle.stl_rules.specs.Calls.{call_of}
use Rattle.stl_rules.specs.DataBlocks.{data_of, in_order, instance_of}
use Rattle.stl_rules.specs.Interfaces.{formals_of}
use Rattle.stl_rules.specs.Labels.{list_count}
use Rattle.stl_rules.specs.Names.{block_number}
use Rattle.stl_rules.specs.Raw.{OperandScope, resolved_operand}
use Rattle.stl_tree.specs.Accepted.{is_of_pointers}
use Rattle.stl_tree.specs.Shifts.{most_steps}
use Rattle.stl_tree.specs.WordLogic.{width_of as logic_width}
use Rattle.stl_tree.specs.declared.accumulator.LogicRow.{LogicRow}
use Rattle.stl_tree.specs.declared.accumulator.ShiftRow.{ShiftRow}
use Rattle.stl_rules.specs.declared.resolved_operand.ResolvedOperand.{ResolvedOperand}
use Rattle.stl_rules.specs.declared.resolved_operand.ResolvedOperand.TheVariants as behind
use Rattle.stl_statement_grammar.specs.declared.mnemonic.Mnemonic.{Mnemonic}
use Rattle.stl_statement_grammar.specs.declared.mnemonic.Mnemonic.TheVariants as is
use Rattle.stl_tree.specs.declared.program.Ar.{Ar}
use Rattle.stl_tree.specs.declared.program.Ar.TheVariants as ar
use Rattle.stl_tree.specs.declared.program.ArLoad.TheVariants as ar_load
use Rattle.stl_tree.specs.declared.program.ArStore.TheVariants as ar_store
use Rattle.stl_tree.specs.declared.program.BitArg.TheVariants as arg
use Rattle.stl_tree.specs.declared.program.Block.{Block}
use Rattle.stl_tree.specs.declared.program.BlockCall.{BlockCall}
use Rattle.stl_tree.specs.declared.program.Instr.{Instr}
use Rattle.stl_tree.specs.declared.program.LoadArg.TheVariants as load
use Rattle.stl_tree.specs.declared.program.Op.{Op}
use Rattle.stl_tree.specs.declared.program.Op.TheVariants as op
use Rattle.stl_tree.specs.declared.program.OpenArg.TheVariants as open_arg
use Rattle.stl_tree.specs.declared.program.Operand.{Operand}
use Rattle.stl_tree.specs.declared.program.Operand.TheVariants.{Direct}
use Rattle.stl_tree.specs.declared.program.Program.{Program}
use Rattle.stl_tree.specs.declared.program.Symbol.{Symbol}
use Rattle.stl_tree.specs.declared.raw.BlockKind.{BlockKind}
use Rattle.stl_tree.specs.declared.raw.BlockKind.TheVariants as block
use Rattle.stl_tree.specs.declared.raw.Constant.{Constant}
use Rattle.stl_tree.specs.declared.raw.RawActual.{RawActual}
use Rattle.stl_tree.specs.declared.raw.RawBlock.{RawBlock}
use Rattle.stl_tree.specs.declared.raw.RawCall.{RawCall}
use Rattle.stl_tree.specs.declared.raw.RawOperand.{RawOperand, RawOperand-F, out-RawOperand}
use Rattle.stl_tree.specs.declared.raw.RawOperand.TheOpen as layer
use Rattle.stl_tree.specs.declared.raw.RawInstr.{RawInstr}
use Rattle.stl_tree.specs.declared.raw.RawOp.{RawOp}
use Rattle.stl_tree.specs.declared.raw.RawPlace.{RawPlace}
use Rattle.stl_tree.specs.declared.raw.RawProgram.{RawProgram}
use Rattle.stl_tree.specs.declared.raw.SymbolAddress.{SymbolAddress}
use Rattle.stl_tree.specs.declared.raw.SymbolAddress.TheVariants as address
use Rattle.stl_tree.specs.declared.raw.SymbolLine.{SymbolLine}

-- Instructions

-- an instruction that takes no operand
abbrev pub alone : Op → ResolvedOperand → Option Op
alone o behind.Nothing = Some o
alone o more = None

-- an instruction on a bit
abbrev pub on_bit : (Operand → Op) → ResolvedOperand → Option Op
on_bit o (behind.At operand width.Bit) = Some (o operand)
on_bit o more = None

-- a check without an operand: `O` alone
abbrev pub check_alone : Check → Option Op
check_alone check.O = Some op.OrAlone
check_alone another = None

-- a check of a bit, of the status word, or without an operand
abbrev pub check_op : Check → ResolvedOperand → Option Op
check_op c behind.Nothing = check_alone c
check_op c (behind.At operand width.Bit) = Some (op.Check c (arg.At operand))
check_op c (behind.Flag test) = Some (op.Check c (arg.Flag test))
check_op c more = None

-- an instruction on a byte, a word or a double word
abbrev pub on_number : (Operand → Width → Op) → Operand → Width → Option Op
on_number o operand width.Bit = None
on_number o operand w = Some (o operand w)

-- a constant, if it has this many bits
abbrev pub within : ℕ → ℕ → Option ℕ
within bits value = if nat_lt value (2 ^ bits) then Some value else None

-- the instruction `L`
abbrev pub loading : ResolvedOperand → Option Op
loading (behind.At operand w) = on_number (λ o u. op.Load (load.At o u)) operand w
loading behind.Stw = Some op.LoadStw
loading behind.DbNo = Some op.LoadDbNo
loading behind.DiNo = Some op.LoadDiNo
loading (behind.Constant c) = option_map (λ value. op.Load (load.Constant value)) (within 32 c.value)
loading more = None

-- the instruction `T`
abbrev pub storing : ResolvedOperand → Option Op
storing (behind.At operand w) = on_number op.Transfer operand w
storing behind.Stw = Some op.TransferStw
storing more = None

-- the instruction `+`: a plain number is added to the low word, another constant to the whole
abbrev pub adding : ResolvedOperand → Option Op
adding (behind.Constant c) =
    Some
    (if c.signed then op.AddWord (signed_part width.Word c.value) else op.AddDword (signed_part width.Dword c.value))
adding more = None

-- a comparison has one of the six signs, and works on words or on double words
abbrev pub is_compared : Test → Width → Bool
is_compared t width.Word = is_comparison t
is_compared t width.Dword = is_comparison t
is_compared t w = false

-- a comparison
abbrev pub comparing : Test → Width → ResolvedOperand → Option Op
comparing t w behind.Nothing = if is_compared t w then Some (op.Compare t w) else None
comparing t w more = None

-- an instruction with a number of 8 bits
abbrev pub with_number : (ℕ → Op) → ResolvedOperand → Option Op
with_number o (behind.Constant c) = option_map o (within 8 c.value)
with_number o more = None

-- a shift or a rotation
abbrev pub shifting : ShiftRow → ResolvedOperand → Option Op
shifting row behind.Nothing = Some (op.Shift row None)
shifting row (behind.Constant c) = if nat_le c.value (most_steps row) then Some (op.Shift row (Some c.value)) else None
shifting row more = None

-- an instruction on a double word in an area where pointers may be stored
abbrev pub pointer_op : (Operand → Op) → Operand → Width → Option Op
pointer_op o operand width.Dword = if is_of_pointers operand then Some (o operand) else None
pointer_op o operand w = None

-- an instruction that copies AR2 to AR1, or AR1 to AR2
abbrev pub other_by : (Ar → Op) → Ar → Option Op
other_by o ar.One = Some (o ar.One)
other_by o ar.Two = None

-- the instructions `LAR1` and `LAR2`
abbrev pub loading_pointer : Ar → ResolvedOperand → Option Op
loading_pointer r behind.Nothing = Some (op.LoadAr r ar_load.Accu1)
loading_pointer r (behind.Constant c) = option_map (λ p. op.LoadAr r (ar_load.Constant p)) (within 32 c.value)
loading_pointer r (behind.At operand w) = pointer_op (λ x. op.LoadAr r (ar_load.At x)) operand w
loading_pointer r behind.OtherAr = other_by (λ a. op.LoadAr a ar_load.OtherAr) r
loading_pointer r more = None

-- the instructions `TAR1` and `TAR2`
abbrev pub storing_pointer : Ar → ResolvedOperand → Option Op
storing_pointer r behind.Nothing = Some (op.StoreAr r ar_store.Accu1)
storing_pointer r (behind.At operand w) = pointer_op (λ x. op.StoreAr r (ar_store.At x)) operand w
storing_pointer r behind.OtherAr = other_by (λ a. op.StoreAr a ar_store.OtherAr) r
storing_pointer r more = None

-- the instructions `+AR1` and `+AR2`
abbrev pub moving_pointer : Ar → ResolvedOperand → Option Op
moving_pointer r behind.Nothing = Some (op.AddAr r None)
moving_pointer r (behind.Constant c) = option_map (λ offset. op.AddAr r (Some offset)) (within 19 c.value)
moving_pointer r more = None

-- the instruction `OPN`
abbrev pub opening : ResolvedOperand → Option Op
opening (behind.Db n) = Some (op.OpenDb (open_arg.Number n))
opening (behind.Di n) = Some (op.OpenDi (open_arg.Number n))
opening (behind.DbBy operand) = Some (op.OpenDb (open_arg.At operand))
opening (behind.DiBy operand) = Some (op.OpenDi (open_arg.At operand))
opening more = None

-- a jump to the position of a label
abbrev pub jumping : (ℕ → Op) → ResolvedOperand → Option Op
jumping o (behind.Target to) = Some (o to)
jumping o more = None

-- a word logic instruction
abbrev pub combining : LogicRow → ResolvedOperand → Option Op
combining row behind.Nothing = Some (op.Logic row None)
combining row (behind.Constant c) =
    if fits (logic_width row) c
    then option_map (λ value. op.Logic row (Some value))
    (within (bits_wide (logic_width row)) (value_in (logic_width row) c))
    else None
combining row more = None

-- the instruction of a mnemonic and its operand, if there is one; a jump list is made without its JU
abbrev pub op_with : Mnemonic → ResolvedOperand → Option Op
op_with (is.Check c) g = check_op c g
op_with (is.Bracket c) g = alone (op.Bracket c) g
op_with is.Close g = alone op.Close g
op_with is.Assign g = on_bit op.Assign g
op_with is.Set g = on_bit op.Set g
op_with is.Reset g = on_bit op.Reset g
op_with is.SetRlo g = alone op.SetRlo g
op_with is.ClearRlo g = alone op.ClearRlo g
op_with is.NotRlo g = alone op.NotRlo g
op_with is.Save g = alone op.Save g
op_with is.EdgeUp g = on_bit op.EdgeUp g
op_with is.EdgeDown g = on_bit op.EdgeDown g
op_with is.Load g = loading g
op_with is.Transfer g = storing g
op_with (is.Arith row) g = alone (op.Arith row) g
op_with (is.Compare test w) g = comparing test w g
op_with is.Plus g = adding g
op_with is.Inc g = with_number op.Inc g
op_with is.Dec g = with_number op.Dec g
op_with (is.Shift row) g = shifting row g
op_with is.Rlda g = alone op.Rlda g
op_with is.Rrda g = alone op.Rrda g
op_with (is.Logic row) g = combining row g
op_with (is.Unary row) g = alone (op.Unary row) g
op_with is.Tak g = alone op.Tak g
op_with is.Push g = alone op.Push g
op_with is.Pop g = alone op.Pop g
op_with (is.LoadAr r) g = loading_pointer r g
op_with (is.StoreAr r) g = storing_pointer r g
op_with is.ExchangeAr g = alone op.ExchangeAr g
op_with (is.AddAr r) g = moving_pointer r g
op_with is.Open g = opening g
op_with is.ExchangeDb g = alone op.ExchangeDb g
op_with is.Nop g = with_number (λ n. op.Nop) g
op_with (is.Jump test) g = jumping (op.Jump test) g
op_with is.Loop g = jumping op.Loop g
op_with is.JumpList g = jumping (op.JumpList 0) g
op_with is.BlockEnd g = alone op.BlockEnd g
op_with is.BlockEndIf g = alone op.BlockEndIf g
op_with is.TimerOrCounter g = None
op_with is.Call g = None
op_with is.CallAlone g = None
op_with is.CallIf g = None
op_with (is.LeftOut left_out) g = None

-- the instruction of a mnemonic, if it is one, and its operand
abbrev pub op_by : Option Mnemonic → ResolvedOperand → Option Op
op_by None g = None
op_by (Some what) g = op_with what g

-- any place of an area, to ask which area and width a mnemonic takes
abbrev pub some_place : AreaName → Operand
some_place name = Direct name 0 0

-- any pointer, to ask whether a mnemonic takes one
abbrev pub some_pointer : Constant
some_pointer = constant width.Dword 0

-- an instruction, or `BadOperand` where the mnemonic does not take the operand
abbrev pub or_bad_operand : Option Op → Result Op Reason
or_bad_operand None = Err BadOperand
or_bad_operand (Some what) = Ok what

-- the rule that an operand outside its range breaks: `BadOperand` where its width or kind is wrong too
abbrev pub outside_rule : Option Op → Reason
outside_rule None = BadOperand
outside_rule (Some what) = BadAddress

-- the instruction that a mnemonic and its operand make, or the rule that is broken, of several the one that comes
-- first; a path into declarations that break a rule breaks none itself, and makes any instruction
abbrev pub op_or_rule : Option Mnemonic → ResolvedOperand → Result Op Reason
op_or_rule what behind.Unknown = Err UnknownName
op_or_rule what behind.Unfit = Err BadOperand
op_or_rule what behind.NoNumber = Err BadAddress
op_or_rule what behind.Unjudged = Ok op.Nop
op_or_rule what (behind.Outside name w) = Err (outside_rule (op_by what (behind.At (some_place name) w)))
op_or_rule what behind.NoPointer = Err (outside_rule (op_by what (behind.Constant some_pointer)))
op_or_rule what g = or_bad_operand (op_by what g)

-- a call gives nothing: it is that of a function without formals
abbrev pub gives_nothing : BlockCall → Bool
gives_nothing call = call.instance == 0 && length call.actuals == 0

-- a call by a mnemonic that gives nothing
abbrev pub calling_bare : (BlockCall → Op) → BlockCall → Result Op Reason
calling_bare o call = if gives_nothing call then Ok (o call) else Err BadOperand

-- the instruction that calls a block: `CALL`, or `UC` and `CC` for a function without formals
abbrev pub calling : Option Mnemonic → BlockCall → Result Op Reason
calling (Some is.Call) call = Ok (op.Call call)
calling (Some is.CallAlone) call = calling_bare op.Call call
calling (Some is.CallIf) call = calling_bare op.CallIf call
calling other call = Err BadOperand

-- the instruction of a raw one, or the rule that it breaks, by the layer of its operand
abbrev pub op_in : OperandScope → Option Mnemonic → RawOperand → RawOperand-F RawOperand RawActual RawCall
    → Result Op Reason
op_in scope what operand (layer.Call call) = and_then (call_of scope call) (calling what)
op_in scope what operand other = op_or_rule what (resolved_operand scope operand)

-- the instruction of a raw one, or the rule that it breaks
unfoldable pub op_of : OperandScope → RawOp → Result Op Reason
op_of scope raw = op_in scope (mnemonic_named raw.mnemonic) raw.operand (out-RawOperand raw.operand)

-- an instruction, or any one where a rule is broken, since it is not used then
abbrev pub or_any : Result Op Reason → Op
or_any (Ok what) = what
or_any (Err rule) = op.Nop

-- a jump list with the number of its JU, which are the first of these instructions
abbrev pub with_list : List RawInstr → Op → Op
with_list rest (op.JumpList count to) = op.JumpList (list_count rest) to
with_list rest other = other

-- an instruction on its line, before these instructions
abbrev pub instr_of : OperandScope → RawInstr → List RawInstr → Instr
instr_of scope raw rest = record { line = raw.line; op = with_list rest (or_any (op_of scope raw.op)) }

-- the instructions of raw ones that come one after another
abbrev pub instrs_of : OperandScope → List RawInstr → List Instr
instrs_of scope [] = []
instrs_of scope (raw ∷ rest) = instr_of scope raw rest ∷ instrs_of scope rest

-- Blocks

-- the name of a block by its kind and its number; any name where it has no number; a data block is none of these
-- blocks
abbrev pub block_name : BlockKind → Result ℕ Reason → BlockName
block_name block.Fc (Ok n) = Fc n
block_name block.Fb (Ok n) = Fb n
block_name kind (Ok n) = Ob n
block_name kind (Err reason) = Ob 0

-- the instructions of a block in the order of the text, the last of them that of its end word
abbrev pub body_of : OperandScope → List Instr
body_of scope = instrs_of scope scope.block.body ++ (record { line = scope.block.end_line; op = op.BlockEnd } ∷ [])

-- a block by its name
abbrev pub block_with : OperandScope → BlockName → Block
block_with scope name =
    record { name = name; line = scope.block.line; formals = formals_of scope.block; body = body_of scope }

-- the block of a raw one
abbrev pub block_of : RawProgram → RawBlock → Block
block_of text raw =
    block_with (record { text = text; block = raw }) (block_name raw.kind (block_number text.symbols raw.kind raw.name))

-- Symbols

abbrev pub symbol_in : List ℕ → RawPlace → Option Area → Option Symbol
symbol_in name place None = None
symbol_in name place (Some a) =
    Some (record { name = name; place = record { area = a; byte = place.byte; bit = place.bit }; width = place.width })

-- the area of a symbol's place
abbrev pub symbol_area : AreaName → Option Area
symbol_area name.I = Some area.I
symbol_area name.Q = Some area.Q
symbol_area name.M = Some area.M
symbol_area other = None

-- the symbol of a line, where its address is a place
abbrev pub symbol_at : List ℕ → SymbolAddress → Option Symbol
symbol_at name (address.At place) = symbol_in name place (symbol_area place.area)
symbol_at name elsewhere = None

abbrev pub symbol_of : SymbolLine → Option Symbol
symbol_of line = symbol_at line.name line.address

-- The program

-- the program of a raw program that breaks no rule
abbrev pub program_of : RawProgram → Program
program_of raw =
    record {
      dbs = in_order (filter_map (data_of raw) raw.dbs);
      instances = filter_map (instance_of raw) raw.dbs;
      blocks = map (block_of raw) raw.blocks;
      symbols = filter_map symbol_of raw.symbols;
    }
