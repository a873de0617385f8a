-- Each instruction: its statements serve it, by what the crate of its template promises.
use Rattle.std.proofs.Common.{ℕ, List}
use Rattle.stl_tree.specs.declared.accumulator.UnaryRow.{UnaryRow}
use Rattle.stl_tree.specs.declared.accumulator.UnaryRow.TheVariants as unary
use Rattle.stl_tree.specs.declared.program.Block.{Block}
use Rattle.stl_tree.specs.declared.program.Op.{Op}
use Rattle.stl_tree.specs.declared.program.Op.TheVariants as op
use Rattle.template_parts.specs.Templates.{Serves}
use Rattle.accumulator_templates.proofs.Serving.{accumulator_serves}
use Rattle.arithmetic_templates.proofs.Serving.{arithmetic_serves}
use Rattle.bit_templates.proofs.Serving.{bit_logic}
use Rattle.digit_templates.proofs.Serving.{digits_serve}
use Rattle.pointer_templates.proofs.Serving.{pointers_serve}
use Rattle.shift_templates.proofs.ShiftEffects.{shifts_serve}
use Rattle.instruction_lowering.specs.inner.Temporaries.{types_of, types_of_unary}
use Rattle.instruction_lowering.specs.declared.statements.LoweringContext.{LoweringContext}
use Rattle.instruction_lowering.specs.inner.Templates.{statements_of, unary_of}
use Rattle.instruction_lowering.proofs.LeftBrackets.{IsStraight}

-- an instruction on ACCU1 alone
unary_serves : (u : UnaryRow) (first : ℕ) → Serves (op.Unary u) first (types_of_unary u) (unary_of first u)
unary_serves unary.Bti first = digits_serve.bti first
unary_serves unary.Btd first = digits_serve.btd first
unary_serves unary.Itb first = digits_serve.itb first
unary_serves unary.Dtb first = digits_serve.dtb first
unary_serves unary.Itd first = accumulator_serves.itd first
unary_serves unary.Invi first = accumulator_serves.invi first
unary_serves unary.Invd first = accumulator_serves.invd first
unary_serves unary.Caw first = accumulator_serves.caw first
unary_serves unary.Cad first = accumulator_serves.cad first
unary_serves unary.Negi first = arithmetic_serves.negi first
unary_serves unary.Negd first = arithmetic_serves.negd first

pub serves : (program : List Block) (o : Op) → IsStraight o → (q : LoweringContext) → Serves o q.used (types_of program o) (statements_of program q o)
serves program (op.Check c b) straight q = bit_logic.check c b q.used
serves program op.OrAlone straight q = bit_logic.or_alone q.used
serves program (op.Bracket c) straight q = elim straight [ ]
serves program op.Close straight q = elim straight [ ]
serves program (op.Assign o) straight q = bit_logic.assign o q.used
serves program (op.Set o) straight q = bit_logic.set o q.used
serves program (op.Reset o) straight q = bit_logic.reset o q.used
serves program op.SetRlo straight q = bit_logic.set_rlo q.used
serves program op.ClearRlo straight q = bit_logic.clear_rlo q.used
serves program op.NotRlo straight q = bit_logic.invert q.used
serves program op.Save straight q = bit_logic.save q.used
serves program (op.EdgeUp o) straight q = bit_logic.edge_up o q.used
serves program (op.EdgeDown o) straight q = bit_logic.edge_down o q.used
serves program (op.Load a) straight q = accumulator_serves.load a q.used
serves program (op.Transfer o w) straight q = accumulator_serves.transfer o w q.used
serves program op.LoadStw straight q = accumulator_serves.status_load q.used
serves program op.TransferStw straight q = accumulator_serves.status_store q.used
serves program op.LoadDbNo straight q = accumulator_serves.db_number_load q.used
serves program op.LoadDiNo straight q = accumulator_serves.di_number_load q.used
serves program (op.Arith a) straight q = arithmetic_serves.calculated a q.used
serves program (op.AddWord n) straight q = accumulator_serves.add_word n q.used
serves program (op.AddDword n) straight q = accumulator_serves.add_dword n q.used
serves program (op.Inc n) straight q = accumulator_serves.inc n q.used
serves program (op.Dec n) straight q = accumulator_serves.dec n q.used
serves program (op.Compare t w) straight q = arithmetic_serves.compared t w q.used
serves program (op.Shift i by) straight q = shifts_serve.shifts i by q.used
serves program op.Rlda straight q = shifts_serve.left_turns q.used
serves program op.Rrda straight q = shifts_serve.right_turns q.used
serves program (op.Logic l c) straight q = accumulator_serves.logic l c q.used
serves program (op.Unary u) straight q = unary_serves u q.used
serves program op.Tak straight q = accumulator_serves.exchange q.used
serves program op.Push straight q = accumulator_serves.push q.used
serves program op.Pop straight q = accumulator_serves.pop q.used
serves program (op.LoadAr a from) straight q = pointers_serve.loads a from q.used
serves program (op.StoreAr a to) straight q = pointers_serve.stores a to q.used
serves program op.ExchangeAr straight q = pointers_serve.exchanges q.used
serves program (op.AddAr a amount) straight q = pointers_serve.moves a amount q.used
serves program (op.OpenDb d) straight q = accumulator_serves.open_db d q.used
serves program (op.OpenDi d) straight q = accumulator_serves.open_di d q.used
serves program op.ExchangeDb straight q = accumulator_serves.block_exchange q.used
serves program op.Nop straight q = bit_logic.nothing q.used
serves program (op.Jump t to) straight q = elim straight [ ]
serves program (op.Loop to) straight q = elim straight [ ]
serves program (op.JumpList count label) straight q = elim straight [ ]
serves program op.BlockEnd straight q = elim straight [ ]
serves program op.BlockEndIf straight q = elim straight [ ]
serves program (op.Call c) straight q = elim straight [ ]
serves program (op.CallIf c) straight q = elim straight [ ]
