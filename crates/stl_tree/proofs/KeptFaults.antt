-- What keeps the fault that each access has: a write, a copy and each instruction, since none changes the length of
-- an area.
use Rattle.std.proofs.Common.{◌≡◌, ℕ, ◌^◌, ◌<◌, ◌==◌, Bool, true, false, if◌then◌else◌, List, [], ◌∷◌, Option, Some, None, Result, Ok, Err, refl, sym, ap, ◌∙◌, subst, arith}
use Rattle.memory_areas.proofs.AreaLaws.{bits_leave_sizes, bytes_leave_sizes, dwords_leave_sizes, words_leave_sizes}
use Rattle.memory_areas.specs.Access.{Aim, aim_of_place, and_then, bits_wide, fault_of, place_aimed, read_bit, read_dword, unless, write_bit}
use Rattle.memory_areas.specs.Areas.{Contents}
use Rattle.memory_areas.specs.Memory.{HasBlocks}
use Rattle.memory_areas.specs.Pointers.{with_offset}
use Rattle.memory_areas.specs.declared.data_block.DataBlock.{DataBlock}
use Rattle.memory_areas.specs.declared.place.AreaName.TheVariants as area
use Rattle.memory_areas.specs.declared.place.Place.{Place}
use Rattle.s7_base.specs.declared.outcome.Fault.{Fault}
use Rattle.s7_base.specs.declared.check.Entry.{Entry}
use Rattle.s7_base.specs.declared.word.Width.{Width}
use Rattle.s7_base.specs.declared.word.Width.TheVariants as width
use Rattle.status_word.specs.StatusBits.{StatusBits, after_check, after_edge, after_store}
use Rattle.stl_tree.specs.Accumulators.{after_load, part, read_number, write_number}
use Rattle.stl_tree.specs.AddressRegisters.{pointer_in, with_pointer}
use Rattle.stl_tree.specs.Brackets.{closed_with}
use Rattle.stl_tree.specs.Calls.{with_copy}
use Rattle.stl_tree.specs.Conversions.{after_conversion}
use Rattle.stl_tree.specs.DataBlocks.{db_opened, di_opened}
use Rattle.stl_tree.specs.Instructions.{at_edge, block_opened, effect_of, loaded_from, on_status, pointed_from, pointer_stored, store_where_rlo, taken, write_operand}
use Rattle.stl_tree.specs.Jumps.{called_where, ended_where, going_where, is_made}
use Rattle.stl_tree.specs.Now.{Now, Effect, next, go, enter, leave, fault, with_memory, with_status, with_value}
use Rattle.stl_tree.specs.Operands.{OperandPlace, aimed_by, aimed_in, formal_place, found_at, found_formal, place_in, with_checked, with_place}
use Rattle.stl_tree.specs.Registers.{RegisterValues}
use Rattle.stl_tree.specs.declared.accumulator.UnaryRow.{UnaryRow}
use Rattle.stl_tree.specs.declared.program.Ar.{Ar}
use Rattle.stl_tree.specs.declared.program.ArLoad.{ArLoad}
use Rattle.stl_tree.specs.declared.program.ArLoad.TheVariants as ar_load
use Rattle.stl_tree.specs.declared.program.ArStore.{ArStore}
use Rattle.stl_tree.specs.declared.program.ArStore.TheVariants as ar_store
use Rattle.stl_tree.specs.declared.program.BitArg.TheVariants as arg
use Rattle.stl_tree.specs.declared.program.BlockCall.{BlockCall}
use Rattle.stl_tree.specs.declared.program.LoadArg.{LoadArg}
use Rattle.stl_tree.specs.declared.program.LoadArg.TheVariants as load
use Rattle.stl_tree.specs.declared.program.Op.{Op}
use Rattle.stl_tree.specs.declared.program.Op.TheVariants as op
use Rattle.stl_tree.specs.declared.program.OpenArg.{OpenArg}
use Rattle.stl_tree.specs.declared.program.OpenArg.TheVariants as open_arg
use Rattle.stl_tree.specs.declared.program.Operand.{Operand}
use Rattle.stl_tree.specs.declared.program.Operand.TheVariants as operand

-- each access has the fault that it had
abbrev pub KeepsFaults : Contents → Contents → Type 0
KeepsFaults before after = (aim : Aim) (w : Width) → fault_of aim w after ≡ fault_of aim w before

pub blocks_kept : (blocks : List DataBlock) (before after : Contents) → KeepsFaults before after → HasBlocks blocks before → HasBlocks blocks after
blocks_kept blocks before after keeps has aim w = keeps aim w ∙ has aim w

-- Numbers

pub number_leaves_faults : (w : Width) (p : Place) (v : ℕ) (before after : Contents) → write_number w p v before ≡ Ok after → KeepsFaults before after
number_leaves_faults width.Bit p v before after e = (bits_leave_sizes p (v == 1) before after e).1
number_leaves_faults width.Byte p v before after e = (bytes_leave_sizes p v before after e).1
number_leaves_faults width.Word p v before after e = (words_leave_sizes p v before after e).1
number_leaves_faults width.Dword p v before after e = (dwords_leave_sizes p v before after e).1

-- an access without a fault gives something
there : {A B : Type 0} (f : Option Fault) (x : A) (g : A → B) → f ≡ None
    → (y : B) × ◌≡◌ {A = Result B Fault} (and_then (unless f x) (λ b. Ok (g b))) (Ok y)
there None x g e = (g x, refl)
there (Some f) x g e = absurd cc

pub number_is_written : (w : Width) (p : Place) (v : ℕ) (m : Contents) → fault_of (aim_of_place p) w m ≡ None
    → (after : Contents) × (write_number w p v m ≡ Ok after)
number_is_written width.Bit p v m e = there (fault_of (aim_of_place p) width.Bit m) _ _ e
number_is_written width.Byte p v m e = there (fault_of (aim_of_place p) width.Byte m) _ _ e
number_is_written width.Word p v m e = there (fault_of (aim_of_place p) width.Word m) _ _ e
number_is_written width.Dword p v m e = there (fault_of (aim_of_place p) width.Dword m) _ _ e

there_twice : {X : Type 0} (f : Option Fault) (bytes : X) (bit : X → Bool) (number : Bool → ℕ) → f ≡ None
    → (n : ℕ) × ◌≡◌ {A = Result ℕ Fault} (and_then (and_then (unless f bytes) (λ b. Ok (bit b))) (λ b. Ok (number b))) (Ok n)
there_twice None bytes bit number e = (number (bit bytes), refl)
there_twice (Some f) bytes bit number e = absurd cc

pub number_is_read : (w : Width) (p : Place) (m : Contents) → fault_of (aim_of_place p) w m ≡ None → (n : ℕ) × (read_number w p m ≡ Ok n)
number_is_read width.Bit p m e = there_twice (fault_of (aim_of_place p) width.Bit m) _ _ _ e
number_is_read width.Byte p m e = there (fault_of (aim_of_place p) width.Byte m) _ _ e
number_is_read width.Word p m e = there (fault_of (aim_of_place p) width.Word m) _ _ e
number_is_read width.Dword p m e = there (fault_of (aim_of_place p) width.Dword m) _ _ e

-- Copies

pub copy_is_made : (w : Width) (from to : Place) (m : Contents) → fault_of (aim_of_place from) w m ≡ None → fault_of (aim_of_place to) w m ≡ None
    → (after : Contents) × (with_copy w from to m ≡ Ok after)
copy_is_made w from to m e f =
    let n = number_is_read w from m e in
    let done = number_is_written w to n.0 m f in
    (done.0, ap (λ (r : Result ℕ Fault). and_then r (λ n. write_number w to n m)) n.1 ∙ done.1)

pub copy_leaves_faults : (w : Width) (from to : Place) (before after : Contents) → with_copy w from to before ≡ Ok after → KeepsFaults before after
copy_leaves_faults w from to before after e = by (read_number w from before) e
  where
    by : (r : Result ℕ Fault) → and_then r (λ n. write_number w to n before) ≡ Ok after → KeepsFaults before after
    by (Ok n) f = number_leaves_faults w to n before after f
    by (Err f) g = absurd cc

-- Effects

-- an effect leaves a memory in which each access has the fault that it had
abbrev pub LeavesFaults : Contents → Effect → Type 0
LeavesFaults m (next now) = KeepsFaults m now.memory
LeavesFaults m (go to now) = KeepsFaults m now.memory
LeavesFaults m (enter call now) = KeepsFaults m now.memory
LeavesFaults m (leave now) = KeepsFaults m now.memory
LeavesFaults m (fault f) = Unit {0}

unchanged : (m : Contents) → KeepsFaults m m
unchanged m aim w = refl

same_keeps : (m n : Contents) → n ≡ m → KeepsFaults m n
same_keeps m n e aim w = ap (fault_of aim w) e

by_value : {A : Type 0} (m : Contents) (r : Result A Fault) (effect : A → Effect) → ((x : A) → LeavesFaults m (effect x)) → LeavesFaults m (with_value r effect)
by_value m (Ok x) effect h = h x
by_value m (Err f) effect h = tt

by_memory : (m : Contents) (written : Result Contents Fault) (now : Now) (effect : Now → Effect) → ((n : Contents) → written ≡ Ok n → KeepsFaults m n)
    → ((n : Now) → KeepsFaults m n.memory → LeavesFaults m (effect n)) → LeavesFaults m (with_memory written now effect)
by_memory m (Ok n) now effect keeps h = h (record now { memory = n }) (keeps n refl)
by_memory m (Err f) now effect keeps h = tt

at_place : (o : Operand) (now : Now) (effect : Place → Now → Effect)
    → ((p : Place) (after : Now) → after.memory ≡ now.memory → LeavesFaults now.memory (effect p after)) → LeavesFaults now.memory (with_place o now effect)
at_place (operand.Direct a byte x) now effect h = h (place_in a byte x now) now refl
at_place (operand.Opened n byte x) now effect h =
    let after : Now = record now { registers = db_opened n now.registers } in h (place_in area.Db byte x after) after refl
at_place (operand.Formal k) now effect h = by (formal_place k now.activations)
  where
    by : (o : Option Place) → LeavesFaults now.memory (with_value (found_formal o now) (λ f. effect f.place f.after))
    by None = tt
    by (Some p) = h p now refl
at_place (operand.ByMemory a pointer_area byte) now effect h = by (read_dword (place_in pointer_area byte 0 now) now.memory)
  where
    by : (r : Result ℕ Fault) → LeavesFaults now.memory (with_value (and_then r (λ p. found_at (aimed_in a p now) now)) (λ f. effect f.place f.after))
    by (Ok p) = h _ now refl
    by (Err f) = tt
at_place (operand.ByRegister a r offset) now effect h = h _ now refl
at_place (operand.Crossing r offset) now effect h = by (place_aimed (aimed_by (with_offset (pointer_in r now.registers) offset) now))
  where
    by : (r : Result Place Fault)
        → LeavesFaults now.memory (with_value (and_then r (λ p. Ok (record { place = p; after = now }))) (λ (f : OperandPlace). effect f.place f.after))
    by (Ok p) = h p now refl
    by (Err f) = tt

-- a write at a place that was found
writes : (m : Contents) (w : Width) (p : Place) (v : ℕ) (after : Now) → after.memory ≡ m
    → (n : Contents) → write_number w p v after.memory ≡ Ok n → KeepsFaults m n
writes m w p v after e n f = subst (λ x. KeepsFaults x n) e (number_leaves_faults w p v after.memory n f)

writes_bit : (m : Contents) (p : Place) (b : Bool) (after : Now) → after.memory ≡ m → (n : Contents) → write_bit p b after.memory ≡ Ok n → KeepsFaults m n
writes_bit m p b after e n f = subst (λ x. KeepsFaults x n) e (bits_leave_sizes p b after.memory n f).1

takes : (w : Width) (row : ℕ → RegisterValues → RegisterValues) (o : Operand) (now : Now) → LeavesFaults now.memory (taken w row o now)
takes w row o now =
    at_place o now (λ p after. with_value (read_number w p after.memory) (λ v. next (record after { registers = row v after.registers })))
    (λ p after e. by_value now.memory (read_number w p after.memory) (λ v. next (record after { registers = row v after.registers }))
    (λ v. same_keeps now.memory after.memory e))

puts : (w : Width) (value : RegisterValues → ℕ) (o : Operand) (now : Now) → LeavesFaults now.memory (write_operand w value o now)
puts w value o now =
    at_place o now (λ p after. with_memory (write_number w p (value after.registers) after.memory) after next)
    (λ p after e. by_memory now.memory (write_number w p (value after.registers) after.memory) after next
    (writes now.memory w p (value after.registers) after e) (λ n h. h))

stores : (value : Bool) (o : Operand) (now : Now) → LeavesFaults now.memory (store_where_rlo value o now)
stores value o now =
    at_place o now
    (λ p after. with_value (read_bit p after.memory) (λ b. with_memory (write_bit p (if after.registers.status.rlo then value else b) after.memory) after
    (on_status (after_store (if after.registers.status.rlo then value else b)))))
    (λ p after e. by_value now.memory (read_bit p after.memory)
    (λ b. with_memory (write_bit p (if after.registers.status.rlo then value else b) after.memory) after
    (on_status (after_store (if after.registers.status.rlo then value else b))))
    (λ b. by_memory now.memory (write_bit p (if after.registers.status.rlo then value else b) after.memory) after
    (on_status (after_store (if after.registers.status.rlo then value else b)))
    (writes_bit now.memory p (if after.registers.status.rlo then value else b) after e) (λ n h. h)))

edges : (rising : Bool) (o : Operand) (now : Now) → LeavesFaults now.memory (at_edge rising o now)
edges rising o now =
    at_place o now
    (λ p after. with_value (read_bit p after.memory) (λ b. with_memory (write_bit p after.registers.status.rlo after.memory) after
    (on_status (after_edge rising b))))
    (λ p after e. by_value now.memory (read_bit p after.memory)
    (λ b. with_memory (write_bit p after.registers.status.rlo after.memory) after (on_status (after_edge rising b)))
    (λ b. by_memory now.memory (write_bit p after.registers.status.rlo after.memory) after (on_status (after_edge rising b))
    (writes_bit now.memory p after.registers.status.rlo after e) (λ n h. h)))

loads : (a : LoadArg) (now : Now) → LeavesFaults now.memory (loaded_from a now)
loads (load.At o w) now = takes w after_load o now
loads (load.Constant c) now = unchanged now.memory

points : (a : Ar) (from : ArLoad) (now : Now) → LeavesFaults now.memory (pointed_from a from now)
points a ar_load.Accu1 now = unchanged now.memory
points a (ar_load.Constant p) now = unchanged now.memory
points a (ar_load.At o) now = takes width.Dword (with_pointer a) o now
points a ar_load.OtherAr now = unchanged now.memory

stores_pointer : (a : Ar) (to : ArStore) (now : Now) → LeavesFaults now.memory (pointer_stored a to now)
stores_pointer a ar_store.Accu1 now = unchanged now.memory
stores_pointer a (ar_store.At o) now = puts width.Dword (pointer_in a) o now
stores_pointer a ar_store.OtherAr now = unchanged now.memory

opens : (row : ℕ → RegisterValues → RegisterValues) (d : OpenArg) (now : Now) → LeavesFaults now.memory (block_opened row d now)
opens row (open_arg.Number n) now = unchanged now.memory
opens row (open_arg.At o) now = takes width.Word row o now

closes : (entries : List Entry) (now : Now) → KeepsFaults now.memory (closed_with entries now).memory
closes [] now = unchanged now.memory
closes (e ∷ outer) now = unchanged now.memory

goes_where : (made : Bool) (to : ℕ) (m : Contents) (now : Now) → KeepsFaults m now.memory → LeavesFaults m (going_where made to now)
goes_where true to m now h = h
goes_where false to m now h = h

ends_where : (ended : Bool) (now : Now) → LeavesFaults now.memory (ended_where ended now)
ends_where true now = unchanged now.memory
ends_where false now = unchanged now.memory

calls_where : (made : Bool) (call : BlockCall) (now : Now) → LeavesFaults now.memory (called_where made call now)
calls_where true call now = unchanged now.memory
calls_where false call now = unchanged now.memory

pub effect_leaves_faults : (o : Op) (now : Now) → LeavesFaults now.memory (effect_of o now)
effect_leaves_faults (op.Check c (arg.At o)) now =
    at_place o now (λ p after. with_value (read_bit p after.memory) (λ b. on_status (after_check c b) after))
    (λ p after e. by_value now.memory (read_bit p after.memory) (λ b. on_status (after_check c b) after) (λ b. same_keeps now.memory after.memory e))
effect_leaves_faults (op.Check c (arg.Flag t)) now = unchanged now.memory
effect_leaves_faults op.OrAlone now = unchanged now.memory
effect_leaves_faults (op.Bracket c) now = unchanged now.memory
effect_leaves_faults op.Close now = closes now.brackets now
effect_leaves_faults (op.Assign o) now =
    at_place o now
    (λ p after. with_memory (write_bit p after.registers.status.rlo after.memory) after
    (λ done. next (with_status (after_store done.registers.status.rlo) done)))
    (λ p after e. by_memory now.memory (write_bit p after.registers.status.rlo after.memory) after
    (λ done. next (with_status (after_store done.registers.status.rlo) done))
    (writes_bit now.memory p after.registers.status.rlo after e) (λ n h. h))
effect_leaves_faults (op.Set o) now = stores true o now
effect_leaves_faults (op.Reset o) now = stores false o now
effect_leaves_faults op.SetRlo now = unchanged now.memory
effect_leaves_faults op.ClearRlo now = unchanged now.memory
effect_leaves_faults op.NotRlo now = unchanged now.memory
effect_leaves_faults op.Save now = unchanged now.memory
effect_leaves_faults (op.EdgeUp o) now = edges true o now
effect_leaves_faults (op.EdgeDown o) now = edges false o now
effect_leaves_faults (op.Load a) now = loads a now
effect_leaves_faults (op.Transfer o w) now = puts w (λ r. part w r.accu1) o now
effect_leaves_faults op.LoadStw now = unchanged now.memory
effect_leaves_faults op.TransferStw now = unchanged now.memory
effect_leaves_faults op.LoadDbNo now = unchanged now.memory
effect_leaves_faults op.LoadDiNo now = unchanged now.memory
effect_leaves_faults (op.Arith a) now = unchanged now.memory
effect_leaves_faults (op.AddWord n) now = unchanged now.memory
effect_leaves_faults (op.AddDword n) now = unchanged now.memory
effect_leaves_faults (op.Inc n) now = unchanged now.memory
effect_leaves_faults (op.Dec n) now = unchanged now.memory
effect_leaves_faults (op.Compare t w) now = unchanged now.memory
effect_leaves_faults (op.Shift s count) now = unchanged now.memory
effect_leaves_faults op.Rlda now = unchanged now.memory
effect_leaves_faults op.Rrda now = unchanged now.memory
effect_leaves_faults (op.Logic l c) now = unchanged now.memory
effect_leaves_faults (op.Unary u) now =
    by_value now.memory (after_conversion u now.registers) (λ r. next (record now { registers = r })) (λ r. unchanged now.memory)
effect_leaves_faults op.Tak now = unchanged now.memory
effect_leaves_faults op.Push now = unchanged now.memory
effect_leaves_faults op.Pop now = unchanged now.memory
effect_leaves_faults (op.LoadAr a from) now = points a from now
effect_leaves_faults (op.StoreAr a to) now = stores_pointer a to now
effect_leaves_faults op.ExchangeAr now = unchanged now.memory
effect_leaves_faults (op.AddAr a amount) now = unchanged now.memory
effect_leaves_faults (op.OpenDb d) now = opens db_opened d now
effect_leaves_faults (op.OpenDi d) now = opens di_opened d now
effect_leaves_faults op.ExchangeDb now = unchanged now.memory
effect_leaves_faults op.Nop now = unchanged now.memory
effect_leaves_faults (op.Jump t to) now = goes_where (is_made t now.registers.status) to now.memory _ (unchanged now.memory)
effect_leaves_faults (op.Loop to) now = goes_where _ to now.memory _ (unchanged now.memory)
effect_leaves_faults (op.JumpList count label) now = unchanged now.memory
effect_leaves_faults op.BlockEnd now = unchanged now.memory
effect_leaves_faults op.BlockEndIf now = ends_where now.registers.status.rlo now
effect_leaves_faults (op.Call c) now = unchanged now.memory
effect_leaves_faults (op.CallIf c) now = calls_where now.registers.status.rlo c now
