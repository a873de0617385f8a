-- The temporaries of a unit: which types those of an instruction have, and what they are called.
use Rattle.std.specs.Prelude.{ℕ, zero, suc, if◌then◌else◌, codes, decimal, List, [], ◌∷◌, ◌++◌, length, slice_get}
use Rattle.accumulator_templates.specs.Logic.{types_of_logic}
use Rattle.accumulator_templates.specs.DataBlocks.{types_of_block_exchange, types_of_block_open}
use Rattle.accumulator_templates.specs.Moves.{types_of_exchange, types_of_load}
use Rattle.bit_templates.specs.Bits.{types_checked, types_of_edge}
use Rattle.bit_templates.specs.Brackets.{types_of_bracket}
use Rattle.arithmetic_templates.specs.Calculations.{types_of_calculated, types_of_negated}
use Rattle.arithmetic_templates.specs.Comparisons.{types_of_compared}
use Rattle.call_templates.specs.Calls.{types_of_call, types_of_call_if}
use Rattle.digit_templates.specs.FromDigits.{types_of_bti, types_of_btd}
use Rattle.digit_templates.specs.ToDigits.{types_of_itb, types_of_dtb}
use Rattle.jump_templates.specs.Jumps.{types_of_jump, types_of_list, types_of_test}
use Rattle.pointer_templates.specs.Pointers.{types_of_pointer_exchange, types_of_pointer_load, types_of_pointer_store}
use Rattle.template_parts.specs.Fetching.{types_fetched, types_reached}
use Rattle.s7_base.specs.declared.word.Width.TheVariants as width
use Rattle.shift_templates.specs.ShiftTemplates.{types_of_shift, types_through_cc1}
use Rattle.st_tree.specs.declared.expr.StType.{StType}
use Rattle.st_tree.specs.declared.program.Local.{Local}
use Rattle.st_tree.specs.Naming.{is_new, key_of}
use Rattle.stl_tree.specs.Calls.{formals_of}
use Rattle.stl_tree.specs.declared.accumulator.UnaryRow.{UnaryRow}
use Rattle.stl_tree.specs.declared.accumulator.UnaryRow.TheVariants as unary
use Rattle.stl_tree.specs.declared.program.Block.{Block}
use Rattle.stl_tree.specs.declared.program.BlockCall.{BlockCall}
use Rattle.stl_tree.specs.declared.program.Formal.{Formal}
use Rattle.stl_tree.specs.declared.program.Instr.{Instr}
use Rattle.stl_tree.specs.declared.program.Op.{Op}
use Rattle.stl_tree.specs.declared.program.Op.TheVariants as op

-- the types of the temporaries of an instruction on ACCU1 alone
abbrev pub types_of_unary : UnaryRow → List StType
types_of_unary unary.Bti = types_of_bti
types_of_unary unary.Btd = types_of_btd
types_of_unary unary.Itb = types_of_itb
types_of_unary unary.Dtb = types_of_dtb
types_of_unary unary.Negi = types_of_negated width.Word
types_of_unary unary.Negd = types_of_negated width.Dword
types_of_unary unary.Itd = []
types_of_unary unary.Invi = []
types_of_unary unary.Invd = []
types_of_unary unary.Caw = []
types_of_unary unary.Cad = []

-- the types of the temporaries of an instruction that is no CALL: an opened bracket keeps RLO, OR and NFC, and an edge
-- the RLO; a pointer, what may fault, what an instruction on the accumulators uses twice, and the test of a jump, has
-- one; CC saves two registers and its test
abbrev pub fixed_types_of : Op → List StType
fixed_types_of (op.Check c b) = types_checked b
fixed_types_of (op.Assign o) = types_reached o
fixed_types_of (op.Set o) = types_fetched o width.Bit
fixed_types_of (op.Reset o) = types_fetched o width.Bit
fixed_types_of (op.Load a) = types_of_load a
fixed_types_of (op.Transfer o w) = types_reached o
fixed_types_of (op.LoadAr a from) = types_of_pointer_load from
fixed_types_of (op.StoreAr a to) = types_of_pointer_store to
fixed_types_of op.ExchangeAr = types_of_pointer_exchange
fixed_types_of (op.OpenDb d) = types_of_block_open d
fixed_types_of (op.OpenDi d) = types_of_block_open d
fixed_types_of op.ExchangeDb = types_of_block_exchange
fixed_types_of (op.Bracket c) = types_of_bracket
fixed_types_of (op.EdgeUp o) = types_of_edge o
fixed_types_of (op.EdgeDown o) = types_of_edge o
fixed_types_of (op.Arith a) = types_of_calculated a
fixed_types_of (op.Compare t w) = types_of_compared w
fixed_types_of (op.Shift s count) = types_of_shift s count
fixed_types_of op.Rlda = types_through_cc1
fixed_types_of op.Rrda = types_through_cc1
fixed_types_of (op.Logic l c) = types_of_logic l c
fixed_types_of (op.Unary u) = types_of_unary u
fixed_types_of op.Tak = types_of_exchange
fixed_types_of (op.Jump t to) = types_of_jump t
fixed_types_of (op.Loop to) = types_of_test
fixed_types_of (op.JumpList count label) = types_of_list
fixed_types_of op.BlockEndIf = types_of_test
fixed_types_of (op.CallIf c) = types_of_call_if
fixed_types_of other = []

-- the formals of the block of a call
abbrev pub formals_called : List Block → BlockCall → List Formal
formals_called blocks call = formals_of (slice_get blocks call.block)

-- the types of the temporaries of an instruction, in a program with these blocks; a CALL saves two registers, and has
-- constants or operands
abbrev pub types_of : List Block → Op → List StType
types_of blocks (op.Call c) = types_of_call (formals_called blocks c) c
types_of blocks other = fixed_types_of other

-- the types of the temporaries of the instructions of a body
abbrev pub types_in : List Block → List Instr → List StType
types_in blocks [] = []
types_in blocks (i ∷ rest) = types_of blocks i.op ++ types_in blocks rest

-- Their names

-- the name of the temporary of a number: T and the number
abbrev pub temporary_name : ℕ → List ℕ
temporary_name n = codes "T" ++ decimal n

-- the next number after one whose temporary no formal with these keys is called, at most so many being tried before
abbrev pub next_number : ℕ → List (List ℕ) → ℕ → ℕ
next_number zero formals n = suc n
next_number (suc most) formals n =
    if is_new (key_of (temporary_name (suc n))) formals then suc n else next_number most formals (suc n)

-- the number after one, in a unit whose formals have these keys
abbrev pub number_after : List (List ℕ) → ℕ → ℕ
number_after formals n = next_number (length formals) formals n

-- temporaries of these types, with the numbers after this one
abbrev pub temporaries : List (List ℕ) → ℕ → List StType → List Local
temporaries formals n [] = []
temporaries formals n (ty ∷ types) =
    record { name = temporary_name (number_after formals n); ty = ty }
    ∷ temporaries formals (number_after formals n) types
