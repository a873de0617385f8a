-- The instruction table. What each supported instruction does to the state that it finds.
-- Held against: each chapter of the manual.
use Rattle.std.specs.Prelude.{ℕ, Bool, true, false, if◌then◌else◌}
use Rattle.memory_areas.specs.Access.{read_bit, write_bit}
use Rattle.status_word.specs.StatusBits.{StatusBits, after_check, after_clear, after_edge, after_end, after_not, after_or, after_save, after_set, after_store}
use Rattle.s7_base.specs.declared.word.Width.{Width}
use Rattle.s7_base.specs.declared.word.Width.TheVariants as width
use Rattle.stl_tree.specs.Accumulators.{accu_popped, accu_pushed, accus_exchanged, counted_down, counted_up, after_addition, after_load, part, read_number, status_loaded, status_stored, write_number}
use Rattle.stl_tree.specs.AddressRegisters.{accu1_pointed, other_loaded, other_stored, pointer_in, pointer_loaded, pointer_moved, pointers_exchanged, with_pointer}
use Rattle.stl_tree.specs.Arithmetic.{after_arithmetic, after_comparison}
use Rattle.stl_tree.specs.Brackets.{after_bracket, in_bracket_of}
use Rattle.stl_tree.specs.Conversions.{after_conversion}
use Rattle.stl_tree.specs.DataBlocks.{db_number_loaded, db_opened, dbs_exchanged, di_number_loaded, di_opened}
use Rattle.stl_tree.specs.Jumps.{called_if, ended_if, effect_of_jump, effect_of_list, effect_of_loop}
use Rattle.stl_tree.specs.Now.{Now, Effect, next, enter, leave, with_memory, with_registers, with_status, with_value}
use Rattle.stl_tree.specs.Operands.{with_checked, with_place}
use Rattle.stl_tree.specs.Registers.{RegisterValues}
use Rattle.stl_tree.specs.Shifts.{after_shift, around_left_through_cc1, around_right_through_cc1}
use Rattle.stl_tree.specs.WordLogic.{after_word_logic}
use Rattle.stl_tree.specs.declared.accumulator.UnaryRow.{UnaryRow}
use Rattle.stl_tree.specs.declared.program.Ar.{Ar}
use Rattle.stl_tree.specs.declared.program.ArLoad.{ArLoad}
use Rattle.stl_tree.specs.declared.program.ArLoad.TheVariants as ar_load
use Rattle.stl_tree.specs.declared.program.ArStore.{ArStore}
use Rattle.stl_tree.specs.declared.program.ArStore.TheVariants as ar_store
use Rattle.stl_tree.specs.declared.program.LoadArg.{LoadArg}
use Rattle.stl_tree.specs.declared.program.LoadArg.TheVariants as arg
use Rattle.stl_tree.specs.declared.program.Op.{Op}
use Rattle.stl_tree.specs.declared.program.Op.TheVariants as op
use Rattle.stl_tree.specs.declared.program.OpenArg.{OpenArg}
use Rattle.stl_tree.specs.declared.program.OpenArg.TheVariants as open_arg
use Rattle.stl_tree.specs.declared.program.Operand.{Operand}

-- the effect of an instruction that changes the status word alone
abbrev pub on_status : (StatusBits → StatusBits) → Now → Effect
on_status row now = next (with_status row now)

-- the effect of S and R: where the RLO is 1 the bit of an operand takes a value, else it stays; it is read in every
-- case
abbrev pub store_where_rlo : Bool → Operand → Now → Effect
store_where_rlo value o now =
    with_place o now (λ p after. with_value (read_bit p after.memory) (λ b.
    let bit = if after.registers.status.rlo then value else b in
    with_memory (write_bit p bit after.memory) after (on_status (after_store bit))))

-- the effect of FP and FN: the bit of an operand, which keeps the RLO of the last time, is read, and takes the RLO
abbrev pub at_edge : Bool → Operand → Now → Effect
at_edge rising o now =
    with_place o now (λ p after. with_value (read_bit p after.memory) (λ e.
    with_memory (write_bit p after.registers.status.rlo after.memory) after (on_status (after_edge rising e))))

-- the effect of an instruction on the registers alone
abbrev pub on_registers : (RegisterValues → RegisterValues) → Now → Effect
on_registers row now = next (with_registers row now)

-- the effect of an instruction whose registers take a number at an operand
abbrev pub taken : Width → (ℕ → RegisterValues → RegisterValues) → Operand → Now → Effect
taken w row o now =
    with_place o now (λ p after. with_value (read_number w p after.memory) (λ v. on_registers (row v) after))

-- the effect of an instruction that writes a number at an operand
abbrev pub write_operand : Width → (RegisterValues → ℕ) → Operand → Now → Effect
write_operand w value o now =
    with_place o now (λ p after. with_memory (write_number w p (value after.registers) after.memory) after next)

-- the effect of L
abbrev pub loaded_from : LoadArg → Now → Effect
loaded_from (arg.At o w) now = taken w after_load o now
loaded_from (arg.Constant c) now = on_registers (after_load c) now

-- the effect of T: it writes the lowest bits of ACCU1, as many as the width has
abbrev pub transfer_accu1 : Operand → Width → Now → Effect
transfer_accu1 o w now = write_operand w (λ r. part w r.accu1) o now

-- the effect of LAR1 and LAR2
abbrev pub pointed_from : Ar → ArLoad → Now → Effect
pointed_from a ar_load.Accu1 now = on_registers (accu1_pointed a) now
pointed_from a (ar_load.Constant p) now = on_registers (with_pointer a p) now
pointed_from a (ar_load.At o) now = taken width.Dword (with_pointer a) o now
pointed_from a ar_load.OtherAr now = on_registers (other_loaded a) now

-- the effect of TAR1 and TAR2
abbrev pub pointer_stored : Ar → ArStore → Now → Effect
pointer_stored a ar_store.Accu1 now = on_registers (pointer_loaded a) now
pointer_stored a (ar_store.At o) now = write_operand width.Dword (pointer_in a) o now
pointer_stored a ar_store.OtherAr now = on_registers (other_stored a) now

-- the effect of OPN: a register of data blocks takes a number, or the word at an operand; nothing is tested
abbrev pub block_opened : (ℕ → RegisterValues → RegisterValues) → OpenArg → Now → Effect
block_opened row (open_arg.Number n) now = on_registers (row n) now
block_opened row (open_arg.At o) now = taken width.Word row o now

-- the effect of an instruction on ACCU1 alone, which may have a fault
abbrev pub on_accu1 : UnaryRow → Now → Effect
on_accu1 u now = with_value (after_conversion u now.registers) (λ r. next (record now { registers = r }))

-- the effect of each instruction
abbrev pub effect_of : Op → Now → Effect
effect_of (op.Check c b) now = with_checked b now (λ v. on_status (after_check c v))
effect_of op.OrAlone now = on_status after_or now
effect_of (op.Bracket c) now = next (in_bracket_of c now)
effect_of op.Close now = next (after_bracket now)
effect_of (op.Assign o) now =
    with_place o now (λ p after. with_memory (write_bit p after.registers.status.rlo after.memory) after
    (λ done. next (with_status (after_store done.registers.status.rlo) done)))
effect_of (op.Set o) now = store_where_rlo true o now
effect_of (op.Reset o) now = store_where_rlo false o now
effect_of op.SetRlo now = on_status after_set now
effect_of op.ClearRlo now = on_status after_clear now
effect_of op.NotRlo now = on_status after_not now
effect_of op.Save now = on_status after_save now
effect_of (op.EdgeUp o) now = at_edge true o now
effect_of (op.EdgeDown o) now = at_edge false o now
effect_of (op.Load a) now = loaded_from a now
effect_of (op.Transfer o w) now = transfer_accu1 o w now
effect_of op.LoadStw now = on_registers status_loaded now
effect_of op.TransferStw now = on_registers status_stored now
effect_of op.LoadDbNo now = on_registers db_number_loaded now
effect_of op.LoadDiNo now = on_registers di_number_loaded now
effect_of (op.Arith a) now = on_registers (after_arithmetic a) now
effect_of (op.AddWord n) now = on_registers (after_addition width.Word n) now
effect_of (op.AddDword n) now = on_registers (after_addition width.Dword n) now
effect_of (op.Inc n) now = on_registers (counted_up n) now
effect_of (op.Dec n) now = on_registers (counted_down n) now
effect_of (op.Compare t w) now = on_registers (after_comparison t w) now
effect_of (op.Shift s count) now = on_registers (after_shift s count) now
effect_of op.Rlda now = on_registers around_left_through_cc1 now
effect_of op.Rrda now = on_registers around_right_through_cc1 now
effect_of (op.Logic l c) now = on_registers (after_word_logic l c) now
effect_of (op.Unary u) now = on_accu1 u now
effect_of op.Tak now = on_registers accus_exchanged now
effect_of op.Push now = on_registers accu_pushed now
effect_of op.Pop now = on_registers accu_popped now
effect_of (op.LoadAr a from) now = pointed_from a from now
effect_of (op.StoreAr a to) now = pointer_stored a to now
effect_of op.ExchangeAr now = on_registers pointers_exchanged now
effect_of (op.AddAr a amount) now = on_registers (pointer_moved a amount) now
effect_of (op.OpenDb d) now = block_opened db_opened d now
effect_of (op.OpenDi d) now = block_opened di_opened d now
effect_of op.ExchangeDb now = on_registers dbs_exchanged now
effect_of op.Nop now = next now
effect_of (op.Jump t to) now = effect_of_jump t to now
effect_of (op.Loop to) now = effect_of_loop to now
effect_of (op.JumpList count label) now = effect_of_list count label now
effect_of op.BlockEnd now = leave (with_status after_end now)
effect_of op.BlockEndIf now = ended_if now
effect_of (op.Call c) now = enter c (with_status after_end now)
effect_of (op.CallIf c) now = called_if c now
