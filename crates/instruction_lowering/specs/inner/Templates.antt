-- The statements of each instruction, by the templates that it has.
use Rattle.std.specs.Prelude.{ℕ, ◌+◌, true, false, List, [], ◌∷◌, length, get_or}
use Rattle.accumulator_templates.specs.Conversions.{cad_of, caw_of, invd_of, invi_of, itd_of}
use Rattle.accumulator_templates.specs.Logic.{logic_of}
use Rattle.accumulator_templates.specs.DataBlocks.{block_exchange_of, block_open_of, number_load_of}
use Rattle.accumulator_templates.specs.Moves.{exchange_of, load_of, pop_of, push_of, status_load_of, status_store_of, transfer_of}
use Rattle.accumulator_templates.specs.Sums.{add_dword_of, add_word_of, dec_of, inc_of}
use Rattle.arithmetic_templates.specs.Calculations.{calculated_of, negated_of}
use Rattle.arithmetic_templates.specs.Comparisons.{compared_of}
use Rattle.call_templates.specs.Calls.{call_if_of, call_of, end_word_of}
use Rattle.digit_templates.specs.FromDigits.{bti_of, btd_of}
use Rattle.digit_templates.specs.ToDigits.{itb_of, dtb_of}
use Rattle.jump_templates.specs.Jumps.{end_if_of, jump_of, list_of, loop_of}
use Rattle.pointer_templates.specs.Pointers.{pointer_exchange_of, pointer_load_of, pointer_move_of, pointer_store_of}
use Rattle.shift_templates.specs.ShiftTemplates.{rlda_template, rrda_template, shift_template}
use Rattle.instruction_lowering.specs.inner.Temporaries.{formals_called, types_of}
use Rattle.bit_templates.specs.declared.chain.OpenBracket.{OpenBracket}
use Rattle.bit_templates.specs.Bits.{assigned_of, checked_bit_of, edge_at, falling, inverted_of, or_alone_of, reset_value, rising, rlo_set, saved_of, set_value, stored_of}
use Rattle.bit_templates.specs.Brackets.{bracket_at, close_of, open_of, types_of_bracket}
use Rattle.instruction_lowering.specs.inner.UnitOrder.{unit_positions}
use Rattle.instruction_lowering.specs.declared.statements.LoweringContext.{LoweringContext}
use Rattle.s7_base.specs.declared.check.Check.{Check}
use Rattle.s7_base.specs.declared.register.Reg.TheVariants as reg
use Rattle.s7_base.specs.declared.word.Width.TheVariants as width
use Rattle.stl_tree.specs.declared.accumulator.UnaryRow.{UnaryRow}
use Rattle.stl_tree.specs.declared.accumulator.UnaryRow.TheVariants as unary
use Rattle.stl_tree.specs.declared.program.Block.{Block}
use Rattle.stl_tree.specs.declared.program.BlockCall.{BlockCall}
use Rattle.stl_tree.specs.declared.program.Op.{Op}
use Rattle.stl_tree.specs.declared.program.Op.TheVariants as op
use Rattle.st_tree.specs.declared.expr.StType.{StType}
use Rattle.st_tree.specs.declared.program.Stmt.{Stmt}

-- Spots

-- the spot at the start of a block, where so many locals are used; no bracket is open there
abbrev pub context_from : ℕ → LoweringContext
context_from used = record { used = used; brackets = [] }

-- the spot after a bracket is opened whose chain is kept by the locals from one on
abbrev pub with_bracket : ℕ → Check → LoweringContext → LoweringContext
with_bracket first c p = record { used = p.used; brackets = bracket_at first c ∷ p.brackets }

-- the brackets around the innermost one
abbrev pub outer_of : List OpenBracket → List OpenBracket
outer_of [] = []
outer_of (o ∷ outer) = outer

-- the spot after an instruction with locals of these types
abbrev pub more : List StType → LoweringContext → LoweringContext
more types p = record { used = p.used + length types; brackets = p.brackets }

-- the spot after an instruction of a program with these blocks: a bracket is opened or closed, and its locals are used
abbrev pub context_after : List Block → Op → LoweringContext → LoweringContext
context_after blocks (op.Bracket c) p = with_bracket p.used c (more types_of_bracket p)
context_after blocks op.Close p = record { used = p.used; brackets = outer_of p.brackets }
context_after blocks other p = more (types_of blocks other) p

-- Instructions

-- the innermost of some brackets is closed
abbrev pub close_innermost : List OpenBracket → List Stmt
close_innermost [] = []
close_innermost (o ∷ outer) = close_of o

-- the position of the unit that a call calls
abbrev pub unit_called : List Block → BlockCall → ℕ
unit_called blocks call = get_or (unit_positions blocks) call.block 0

-- the statements of an instruction on ACCU1 alone, whose locals are those from this one on
abbrev pub unary_of : ℕ → UnaryRow → List Stmt
unary_of first unary.Bti = bti_of first
unary_of first unary.Btd = btd_of first
unary_of first unary.Itb = itb_of first
unary_of first unary.Dtb = dtb_of first
unary_of first unary.Itd = itd_of
unary_of first unary.Invi = invi_of
unary_of first unary.Invd = invd_of
unary_of first unary.Caw = caw_of
unary_of first unary.Cad = cad_of
unary_of first unary.Negi = negated_of first width.Word
unary_of first unary.Negd = negated_of first width.Dword

-- the statements of an instruction at a spot, in a program with these blocks
abbrev pub statements_of : List Block → LoweringContext → Op → List Stmt
statements_of blocks p (op.Check c b) = checked_bit_of p.used c b
statements_of blocks p op.OrAlone = or_alone_of
statements_of blocks p (op.Bracket c) = open_of p.used
statements_of blocks p op.Close = close_innermost p.brackets
statements_of blocks p (op.Assign o) = assigned_of p.used o
statements_of blocks p (op.Set o) = stored_of p.used o set_value
statements_of blocks p (op.Reset o) = stored_of p.used o reset_value
statements_of blocks p op.SetRlo = rlo_set true
statements_of blocks p op.ClearRlo = rlo_set false
statements_of blocks p op.NotRlo = inverted_of
statements_of blocks p op.Save = saved_of
statements_of blocks p (op.EdgeUp o) = edge_at p.used o rising
statements_of blocks p (op.EdgeDown o) = edge_at p.used o falling
statements_of blocks p (op.Load a) = load_of p.used a
statements_of blocks p (op.Transfer o w) = transfer_of p.used o w
statements_of blocks p op.LoadStw = status_load_of
statements_of blocks p op.TransferStw = status_store_of
statements_of blocks p op.LoadDbNo = number_load_of reg.DbNo
statements_of blocks p op.LoadDiNo = number_load_of reg.DiNo
statements_of blocks p (op.Arith a) = calculated_of p.used a
statements_of blocks p (op.AddWord n) = add_word_of n
statements_of blocks p (op.AddDword n) = add_dword_of n
statements_of blocks p (op.Inc n) = inc_of n
statements_of blocks p (op.Dec n) = dec_of n
statements_of blocks p (op.Compare t w) = compared_of p.used t w
statements_of blocks p (op.Shift s count) = shift_template p.used s count
statements_of blocks p op.Rlda = rlda_template p.used
statements_of blocks p op.Rrda = rrda_template p.used
statements_of blocks p (op.Logic l c) = logic_of p.used l c
statements_of blocks p (op.Unary u) = unary_of p.used u
statements_of blocks p op.Tak = exchange_of p.used
statements_of blocks p op.Push = push_of
statements_of blocks p op.Pop = pop_of
statements_of blocks p (op.LoadAr a from) = pointer_load_of p.used a from
statements_of blocks p (op.StoreAr a to) = pointer_store_of p.used a to
statements_of blocks p op.ExchangeAr = pointer_exchange_of p.used
statements_of blocks p (op.AddAr a amount) = pointer_move_of a amount
statements_of blocks p (op.OpenDb d) = block_open_of p.used reg.DbNo d
statements_of blocks p (op.OpenDi d) = block_open_of p.used reg.DiNo d
statements_of blocks p op.ExchangeDb = block_exchange_of p.used
statements_of blocks p op.Nop = []
statements_of blocks p (op.Jump t to) = jump_of p.used t
statements_of blocks p (op.Loop to) = loop_of p.used
statements_of blocks p (op.JumpList count label) = list_of p.used
statements_of blocks p op.BlockEnd = end_word_of
statements_of blocks p op.BlockEndIf = end_if_of p.used
statements_of blocks p (op.Call c) = call_of p.used (unit_called blocks c) (formals_called blocks c) c
statements_of blocks p (op.CallIf c) = call_if_of p.used (unit_called blocks c)
