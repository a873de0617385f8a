-- Rules that an accepted program keeps. Its operands, brackets, jumps, ends, names, numbers, formals, calls, data
-- blocks, instances and symbols are as the verdict lets them be.
-- Held against: this project's own rules.
use Rattle.std.specs.Prelude.{◌≡◌, ◌≢◌, ℕ, zero, suc, ◌+◌, ◌≤◌, ◌<◌, ◌^◌, ◌⊎◌, Bool, true, false, Option, Some, None, option_and_then, List, [], ◌∷◌, length, map, slice_get, All, IsSome}
use Rattle.std.specs.List.{flat_map}
use Rattle.memory_areas.specs.Access.{aim_of_place, bits_wide, fault_of, is_byte_in, is_unaligned}
use Rattle.memory_areas.specs.Areas.{AreBlocks, block_of, fresh}
use Rattle.memory_areas.specs.declared.data_block.DataBlock.{DataBlock}
use Rattle.memory_areas.specs.declared.sizes.TheConstants.{ACTIVATIONS}
use Rattle.s7_base.specs.SignedNumbers.{is_over}
use Rattle.s7_base.specs.declared.word.Width.{Width}
use Rattle.s7_base.specs.declared.word.Width.TheVariants as width
use Rattle.status_word.specs.declared.test.Test.{Test}
use Rattle.status_word.specs.declared.test.Test.TheVariants as test
use Rattle.stl_tree.specs.Arithmetic.{is_comparison}
use Rattle.stl_tree.specs.Brackets.{AreNested, open_behind}
use Rattle.stl_tree.specs.Shifts.{most_steps}
use Rattle.stl_tree.specs.Calls.{formals_of, place_in_instance}
use Rattle.stl_tree.specs.StlRun.{IsInstance, block_at, block_named}
use Rattle.stl_tree.specs.declared.program.Actual.{Actual}
use Rattle.stl_tree.specs.declared.program.Actual.TheVariants as actual
use Rattle.stl_tree.specs.declared.program.BlockCall.{BlockCall}
use Rattle.stl_tree.specs.declared.program.Formal.{Formal}
use Rattle.stl_tree.specs.declared.program.Instance.{Instance}
use Rattle.stl_tree.specs.declared.program.Mode.{Mode}
use Rattle.stl_tree.specs.declared.program.Mode.TheVariants as mode
use Rattle.stl_tree.specs.WordLogic.{width_of as logic_width}
use Rattle.stl_tree.specs.declared.accumulator.ShiftRow.{ShiftRow}
use Rattle.stl_tree.specs.declared.program.Ar.{Ar}
use Rattle.stl_tree.specs.declared.program.Ar.TheVariants as ar
use Rattle.stl_tree.specs.declared.program.ArLoad.{ArLoad}
use Rattle.stl_tree.specs.declared.program.ArLoad.TheVariants as ar_load
use Rattle.stl_tree.specs.declared.program.ArStore.{ArStore}
use Rattle.stl_tree.specs.declared.program.ArStore.TheVariants as ar_store
use Rattle.stl_tree.specs.declared.program.BitArg.TheVariants as arg
use Rattle.stl_tree.specs.declared.program.Block.{Block}
use Rattle.memory_areas.specs.declared.place.Area.{Area}
use Rattle.memory_areas.specs.declared.place.Area.TheVariants as area_of
use Rattle.memory_areas.specs.declared.place.AreaName.{AreaName}
use Rattle.memory_areas.specs.declared.place.AreaName.TheVariants as area
use Rattle.memory_areas.specs.declared.call.BlockName.{BlockName}
use Rattle.memory_areas.specs.declared.call.BlockName.TheVariants as name
use Rattle.stl_tree.specs.declared.program.Instr.{Instr}
use Rattle.stl_tree.specs.declared.program.JumpTest.{JumpTest}
use Rattle.stl_tree.specs.declared.program.JumpTest.TheVariants as jump
use Rattle.stl_tree.specs.declared.program.LoadArg.{LoadArg}
use Rattle.stl_tree.specs.declared.program.LoadArg.TheVariants as load
use Rattle.stl_tree.specs.declared.program.Op.{Op}
use Rattle.stl_tree.specs.declared.program.Op.TheVariants as op
use Rattle.stl_tree.specs.declared.program.OpenArg.{OpenArg}
use Rattle.stl_tree.specs.declared.program.OpenArg.TheVariants as open_arg
use Rattle.stl_tree.specs.declared.program.Operand.{Operand}
use Rattle.stl_tree.specs.declared.program.Operand.TheVariants as operand
use Rattle.stl_tree.specs.declared.program.Program.{Program}
use Rattle.stl_tree.specs.declared.program.Symbol.{Symbol}

-- Operands

-- a number of 16 bits that a data block may have
abbrev pub IsBlockOpened : ℕ → Type 0
IsBlockOpened n = (1 ≤ n) × (n ≤ 65535)

-- a byte from 0 to 65,535 and a bit from 0 to 7
abbrev pub IsOffset : ℕ → Type 0
IsOffset offset = offset < 2 ^ 19

-- the areas where a pointer may be stored, and the operands that lie in one of them
abbrev pub may_hold_pointers : AreaName → Bool
may_hold_pointers area.I = false
may_hold_pointers area.Q = false
may_hold_pointers area.M = true
may_hold_pointers area.L = true
may_hold_pointers area.Db = true
may_hold_pointers area.Di = true

abbrev pub is_of_pointers : Operand → Bool
is_of_pointers (operand.Direct a byte x) = may_hold_pointers a
is_of_pointers (operand.Opened n byte x) = true
is_of_pointers (operand.Formal k) = false
is_of_pointers (operand.ByMemory a pointer_area byte) = may_hold_pointers a
is_of_pointers (operand.ByRegister a r offset) = may_hold_pointers a
is_of_pointers (operand.Crossing r offset) = false

-- the widths of the formals that a body may name, by their positions: those of its function
abbrev pub Widths : Type 0
Widths = List Width

-- an operand of a width names bytes of its area, and a bit number that the width has; or a formal of this width. The
-- length of a data block is judged at run time, and so is all that a pointer says
abbrev pub IsOperand : Widths → Width → Operand → Type 0
IsOperand formals w (operand.Direct a byte x) = (is_byte_in a w byte ≡ true) × (is_unaligned w x ≡ false)
IsOperand formals w (operand.Opened n byte x) =
    IsBlockOpened n × (is_byte_in area.Db w byte ≡ true) × (is_unaligned w x ≡ false)
IsOperand formals w (operand.Formal k) = slice_get formals k ≡ Some w
IsOperand formals w (operand.ByMemory a pointer_area byte) =
    (may_hold_pointers pointer_area ≡ true) × (is_byte_in pointer_area width.Dword byte ≡ true)
IsOperand formals w (operand.ByRegister a r offset) = IsOffset offset
IsOperand formals w (operand.Crossing r offset) = IsOffset offset

-- a pointer may be stored at an operand
abbrev pub MayHoldPointer : Widths → Width → Operand → Type 0
MayHoldPointer formals w o = (is_of_pointers o ≡ true) × IsOperand formals w o

-- the operands in which OPN finds the number of a data block: written ones, as `[MW 10]` is
abbrev pub is_of_numbers : Operand → Bool
is_of_numbers (operand.Direct a byte x) = may_hold_pointers a
is_of_numbers elsewhere = false

abbrev pub IsNumberHolder : Widths → Operand → Type 0
IsNumberHolder formals o = (is_of_numbers o ≡ true) × IsOperand formals width.Word o

-- OPN opens a data block by its number, or by the number in a word
abbrev pub IsOpenArg : Widths → OpenArg → Type 0
IsOpenArg formals (open_arg.Number n) = IsBlockOpened n
IsOpenArg formals (open_arg.At o) = IsNumberHolder formals o

-- an address register may be loaded with a pointer of 32 bits, a constant or in memory; from the other register AR1
-- alone
abbrev pub IsPointerLoad : Widths → Ar → ArLoad → Type 0
IsPointerLoad formals a ar_load.Accu1 = Unit {0}
IsPointerLoad formals a (ar_load.Constant p) = p < 2 ^ 32
IsPointerLoad formals a (ar_load.At o) = MayHoldPointer formals width.Dword o
IsPointerLoad formals a ar_load.OtherAr = a ≡ ar.One

-- an address register may be stored in ACCU1, at a double word where a pointer may be stored, or in the other
-- register, from AR1 alone
abbrev pub IsPointerStore : Widths → Ar → ArStore → Type 0
IsPointerStore formals a ar_store.Accu1 = Unit {0}
IsPointerStore formals a (ar_store.At o) = MayHoldPointer formals width.Dword o
IsPointerStore formals a ar_store.OtherAr = a ≡ ar.One

-- the amount that is added to an address register is an offset, or is in ACCU1
abbrev pub IsAmount : Option ℕ → Type 0
IsAmount None = Unit {0}
IsAmount (Some offset) = IsOffset offset

-- a width is that of a byte, a word or a double word
abbrev pub IsNumberWidth : Width → Type 0
IsNumberWidth width.Bit = ⊥
IsNumberWidth w = Unit {0}

-- the operand of L is a number, or a constant of 32 bits
abbrev pub IsLoadable : Widths → LoadArg → Type 0
IsLoadable formals (load.At o w) = IsNumberWidth w × IsOperand formals w o
IsLoadable formals (load.Constant c) = c < 2 ^ 32

-- a comparison of words or of double words, by one of the six signs
abbrev pub IsComparison : Test → Width → Type 0
IsComparison t width.Word = is_comparison t ≡ true
IsComparison t width.Dword = is_comparison t ≡ true
IsComparison t w = ⊥

-- a count is one that a shift or a rotation may have as a constant
abbrev pub IsCount : ShiftRow → Option ℕ → Type 0
IsCount s None = Unit {0}
IsCount s (Some n) = n ≤ most_steps s

-- a constant has the width of its word logic instruction
abbrev pub IsOfWidth : Width → Option ℕ → Type 0
IsOfWidth w None = Unit {0}
IsOfWidth w (Some c) = c < 2 ^ bits_wide w

-- a jump tests CC1 and CC0 for a result
abbrev pub is_of_result : Test → Bool
is_of_result test.Uo = true
is_of_result t = is_comparison t

abbrev pub IsJumpTest : JumpTest → Type 0
IsJumpTest (jump.Result t) = is_of_result t ≡ true
IsJumpTest other = Unit {0}

-- the operand of an instruction is one of the width that the instruction has; what a call is given is judged by the
-- block that it calls
abbrev pub HasOperand : Widths → Op → Type 0
HasOperand formals (op.Check c (arg.At o)) = IsOperand formals width.Bit o
HasOperand formals (op.Check c (arg.Flag t)) = Unit {0}
HasOperand formals op.OrAlone = Unit {0}
HasOperand formals (op.Bracket c) = Unit {0}
HasOperand formals op.Close = Unit {0}
HasOperand formals (op.Assign o) = IsOperand formals width.Bit o
HasOperand formals (op.Set o) = IsOperand formals width.Bit o
HasOperand formals (op.Reset o) = IsOperand formals width.Bit o
HasOperand formals op.SetRlo = Unit {0}
HasOperand formals op.ClearRlo = Unit {0}
HasOperand formals op.NotRlo = Unit {0}
HasOperand formals op.Save = Unit {0}
HasOperand formals (op.EdgeUp o) = IsOperand formals width.Bit o
HasOperand formals (op.EdgeDown o) = IsOperand formals width.Bit o
HasOperand formals (op.Load a) = IsLoadable formals a
HasOperand formals (op.Transfer o w) = IsNumberWidth w × IsOperand formals w o
HasOperand formals op.LoadStw = Unit {0}
HasOperand formals op.TransferStw = Unit {0}
HasOperand formals op.LoadDbNo = Unit {0}
HasOperand formals op.LoadDiNo = Unit {0}
HasOperand formals (op.Arith a) = Unit {0}
HasOperand formals (op.AddWord n) = is_over 16 n ≡ false
HasOperand formals (op.AddDword n) = is_over 32 n ≡ false
HasOperand formals (op.Inc n) = n < 2 ^ 8
HasOperand formals (op.Dec n) = n < 2 ^ 8
HasOperand formals (op.Compare t w) = IsComparison t w
HasOperand formals (op.Shift s count) = IsCount s count
HasOperand formals op.Rlda = Unit {0}
HasOperand formals op.Rrda = Unit {0}
HasOperand formals (op.Logic l c) = IsOfWidth (logic_width l) c
HasOperand formals (op.Unary u) = Unit {0}
HasOperand formals op.Tak = Unit {0}
HasOperand formals op.Push = Unit {0}
HasOperand formals op.Pop = Unit {0}
HasOperand formals (op.LoadAr a from) = IsPointerLoad formals a from
HasOperand formals (op.StoreAr a to) = IsPointerStore formals a to
HasOperand formals op.ExchangeAr = Unit {0}
HasOperand formals (op.AddAr a amount) = IsAmount amount
HasOperand formals (op.OpenDb d) = IsOpenArg formals d
HasOperand formals (op.OpenDi d) = IsOpenArg formals d
HasOperand formals op.ExchangeDb = Unit {0}
HasOperand formals op.Nop = Unit {0}
HasOperand formals (op.Jump t to) = IsJumpTest t
HasOperand formals (op.Loop to) = Unit {0}
HasOperand formals (op.JumpList count label) = (1 ≤ count) × (count ≤ 255)
HasOperand formals op.BlockEnd = Unit {0}
HasOperand formals op.BlockEndIf = Unit {0}
HasOperand formals (op.Call c) = Unit {0}
HasOperand formals (op.CallIf c) = Unit {0}

-- each instruction of a body has its operand
abbrev pub HaveOperands : Widths → List Instr → Type 0
HaveOperands formals body = All (λ (i : Instr). HasOperand formals i.op) body

-- Jumps

-- the positions to which an instruction jumps; those of a jump list are the ones of its JU, and its label
abbrev pub targets_of : Op → List ℕ
targets_of (op.Jump t to) = to ∷ []
targets_of (op.Loop to) = to ∷ []
targets_of (op.JumpList count label) = label ∷ []
targets_of other = []

-- how many brackets are open before the instruction at a position, this many being open before the first; none where
-- there is no instruction
abbrev pub open_at : ℕ → List Instr → ℕ → Option ℕ
open_at n [] at = None
open_at n (i ∷ rest) zero = Some n
open_at n (i ∷ rest) (suc at) = option_and_then (λ m. open_at m rest at) (open_behind i.op n)

-- a jump may lead to a position: an instruction is there, and no bracket is open
abbrev pub IsTarget : List Instr → ℕ → Type 0
IsTarget body to = open_at 0 body to ≡ Some 0

-- each jump of a body leads to such a position
abbrev pub AreTargets : List Instr → Type 0
AreTargets body = All (λ (i : Instr). All (IsTarget body) (targets_of i.op)) body

-- an instruction is JU
abbrev pub IsAlways : Op → Type 0
IsAlways (op.Jump jump.Always to) = Unit {0}
IsAlways other = ⊥

-- the first of some instructions are so many JU
abbrev pub AreListed : ℕ → List Instr → Type 0
AreListed zero rest = Unit {0}
AreListed (suc n) [] = ⊥
AreListed (suc n) (i ∷ rest) = IsAlways i.op × AreListed n rest

-- no jump of a body leads to one of so many instructions after a position
abbrev pub IsOutside : ℕ → ℕ → ℕ → Type 0
IsOutside at count to = (to ≤ at) ⊎ (at + count < to)

abbrev pub AreUnlabelled : List Instr → ℕ → ℕ → Type 0
AreUnlabelled body at count = All (λ (i : Instr). All (IsOutside at count) (targets_of i.op)) body

-- the instruction at a position is a jump list with its JU, to which no jump leads, and its label after them; or it is
-- no jump list
abbrev pub HasList : List Instr → ℕ → Op → List Instr → Type 0
HasList body at (op.JumpList count label) rest =
    AreListed count rest × AreUnlabelled body at count × (label ≡ at + 1 + count)
HasList body at other rest = Unit {0}

-- each jump list among the instructions of a body from a position on has its JU and its label
abbrev pub HaveLists : List Instr → ℕ → List Instr → Type 0
HaveLists body at [] = Unit {0}
HaveLists body at (i ∷ rest) = HasList body at i.op rest × HaveLists body (at + 1) rest

-- the jumps of a body lead to its instructions, and its jump lists are whole
pub record AreJumps (body : List Instr) : Type 0 where
  pub targets : AreTargets body
  pub lists : HaveLists body 0 body

-- Ends

-- the last instruction of a body is an end word
abbrev pub IsEnded : List Instr → Type 0
IsEnded [] = ⊥
IsEnded (i ∷ []) = i.op ≡ op.BlockEnd
IsEnded (i ∷ j ∷ rest) = IsEnded (j ∷ rest)

-- Numbers and names

-- a block has a number that its kind has
abbrev pub IsBlockNumber : BlockName → Type 0
IsBlockNumber (name.Ob n) = (1 ≤ n) × (n ≤ 65535)
IsBlockNumber (name.Fc n) = n ≤ 65535
IsBlockNumber (name.Fb n) = n ≤ 65535

-- no block has the name of another
abbrev pub AreDistinct : List Block → Type 0
AreDistinct [] = Unit {0}
AreDistinct (b ∷ rest) = (block_named b.name rest ≡ None) × AreDistinct rest

-- Formals

-- a bit of an instance has a bit number; a byte or more has none
abbrev pub IsFormal : Formal → Type 0
IsFormal f = is_unaligned f.width f.bit ≡ false

-- only functions and function blocks have formals
abbrev pub MayHaveFormals : BlockName → List Formal → Type 0
MayHaveFormals (name.Ob n) formals = formals ≡ []
MayHaveFormals (name.Fc n) formals = Unit {0}
MayHaveFormals (name.Fb n) formals = Unit {0}

-- the widths of the formals that the body of a block names by position; one of a function block is a place in the
-- instance instead
abbrev pub widths_named : BlockName → List Formal → Widths
widths_named (name.Ob n) formals = []
widths_named (name.Fc n) formals = map (λ (f : Formal). f.width) formals
widths_named (name.Fb n) formals = []

-- Calls

-- an operand may be given to a call: it is written, not found through a pointer
abbrev pub is_written : Operand → Bool
is_written (operand.Direct a byte x) = true
is_written (operand.Opened n byte x) = true
is_written (operand.Formal k) = true
is_written other = false

-- a constant may be given to a formal of a mode: an input alone
abbrev pub takes_constants : Mode → Bool
takes_constants mode.Input = true
takes_constants other = false

-- an actual is one for a formal, in a block that may name formals of these widths: one may be missing where the called
-- block has an instance; a constant has the width of its formal, and so has an operand
abbrev pub IsActual : Widths → Bool → Formal → Actual → Type 0
IsActual formals has_instance f actual.Missing = has_instance ≡ true
IsActual formals has_instance f (actual.Constant c) = (takes_constants f.mode ≡ true) × (c < 2 ^ bits_wide f.width)
IsActual formals has_instance f (actual.At o) = (is_written o ≡ true) × IsOperand formals f.width o

-- each formal has such an actual
abbrev pub AreActuals : Widths → Bool → List Formal → List Actual → Type 0
AreActuals formals has_instance [] [] = Unit {0}
AreActuals formals has_instance (f ∷ fs) (a ∷ actuals) =
    IsActual formals has_instance f a × AreActuals formals has_instance fs actuals
AreActuals formals has_instance fs actuals = ⊥

-- what a call gives is what its block asks for: a function each actual and no instance, a function block an instance
abbrev pub AsksFor : List Instance → Widths → Block → BlockName → BlockCall → Type 0
AsksFor instances formals b (name.Ob n) call = ⊥
AsksFor instances formals b (name.Fc n) call =
    (call.instance ≡ 0) × AreActuals formals false b.formals call.actuals
AsksFor instances formals b (name.Fb n) call =
    IsInstance instances call.instance n × AreActuals formals true b.formals call.actuals

-- a call, in a block that may name formals of these widths, is one of a block of the program
abbrev pub IsCall : Program → Widths → BlockCall → Type 0
IsCall program formals call =
    (b : Block) × (slice_get program.blocks call.block ≡ Some b) × AsksFor program.instances formals b b.name call

-- a block without formals is called by CC
abbrev pub IsCallIf : Program → BlockCall → Type 0
IsCallIf program call = IsCall program [] call × (call.instance ≡ 0) × (call.actuals ≡ [])

-- the call of an instruction, if it is one, is right
abbrev pub CallsRight : Program → Widths → Op → Type 0
CallsRight program formals (op.Call c) = IsCall program formals c
CallsRight program formals (op.CallIf c) = IsCallIf program c
CallsRight program formals other = Unit {0}

-- each call of a block is right
abbrev pub BlockCallsRight : Program → Block → Type 0
BlockCallsRight program b = All (λ (i : Instr). CallsRight program (widths_named b.name b.formals) i.op) b.body

-- the positions of the blocks that an instruction calls, and those that a block calls
abbrev pub called_by : Op → List ℕ
called_by (op.Call c) = c.block ∷ []
called_by (op.CallIf c) = c.block ∷ []
called_by other = []

abbrev pub called_in : Block → List ℕ
called_in b = flat_map (λ (i : Instr). called_by i.op) b.body

-- no chain of more blocks than this begins at the block of a position, each calling the next one
abbrev pub EndsWithin : ℕ → List Block → ℕ → Type 0
EndsWithin zero blocks n = ⊥
EndsWithin (suc most) blocks n =
    (b : Block) → slice_get blocks n ≡ Some b → All (EndsWithin most blocks) (called_in b)

-- Instances

-- the formals of the block of a name
abbrev pub formals_named : BlockName → List Block → List Formal
formals_named called blocks = formals_of (block_at blocks (block_named called blocks))

-- the bytes of a formal lie in its instance
abbrev pub LiesInInstance : List DataBlock → ℕ → Formal → Type 0
LiesInInstance dbs db f = fault_of (aim_of_place (place_in_instance db f)) f.width (fresh dbs) ≡ None

-- a data block is an instance of a function block of the program, and the formals of that lie in it; its number is one
-- that a data block may have
pub record IsInstanceOf (program : Program) (i : Instance) : Type 0 where
  pub number : IsBlockOpened i.db
  pub fb : IsSome (block_named (name.Fb i.fb) program.blocks)
  pub formals : All (LiesInInstance program.dbs i.db) (formals_named (name.Fb i.fb) program.blocks)
  pub db : IsSome (block_of i.db program.dbs)

-- The rules, a record a group

-- the rules for a block: its operands lie in their areas, its brackets are nested, its jumps lead to its instructions,
-- it ends with an end word, it has at most 32,768 instructions before that, its number is in range, and it has at most
-- 64 formals, an organization block none
pub record IsAcceptedBlock (block : Block) : Type 0 where
  pub operands : HaveOperands (widths_named block.name block.formals) block.body
  pub brackets : AreNested block.body 0
  pub jumps : AreJumps block.body
  pub few : length block.body ≤ 32769
  pub ends : IsEnded block.body
  pub number : IsBlockNumber block.name
  pub formals : All IsFormal block.formals
  pub few_formals : length block.formals ≤ 64
  pub may_have : MayHaveFormals block.name block.formals

-- the bytes of a symbol lie in the inputs, the outputs or the bit memory
abbrev pub AreSymbolBytes : Area → Width → ℕ → Type 0
AreSymbolBytes area_of.I w byte = is_byte_in area.I w byte ≡ true
AreSymbolBytes area_of.Q w byte = is_byte_in area.Q w byte ≡ true
AreSymbolBytes area_of.M w byte = is_byte_in area.M w byte ≡ true
AreSymbolBytes elsewhere w byte = ⊥

-- a symbol is a place in one of these three, with a bit number that its width has
abbrev pub IsSymbol : Symbol → Type 0
IsSymbol symbol =
    AreSymbolBytes symbol.place.area symbol.width symbol.place.byte
    × (is_unaligned symbol.width symbol.place.bit ≡ false)

-- a program keeps the rules: there is a block, each of its blocks keeps them, no two have one name; its data blocks
-- are ones that a memory may have; its symbols are places; its instances are instances; its calls are right, and no
-- chain of them has more than 8 blocks
pub record IsAccepted (program : Program) : Type 0 where
  pub some : program.blocks ≢ []
  pub blocks : All IsAcceptedBlock program.blocks
  pub names : AreDistinct program.blocks
  pub dbs : AreBlocks program.dbs
  pub symbols : All IsSymbol program.symbols
  pub instances : All (IsInstanceOf program) program.instances
  pub calls : All (BlockCallsRight program) program.blocks
  pub chains : (n : ℕ) → EndsWithin ACTIVATIONS program.blocks n
