-- An instruction that opens and closes no bracket leaves those that are open.
use Rattle.std.proofs.Common.{◌≡◌, ℕ, Bool, true, false, if◌then◌else◌, List, Result, Ok, Err, refl, Option, Some, None}
use Rattle.memory_areas.specs.Access.{read_bit, write_bit}
use Rattle.memory_areas.specs.Areas.{Contents}
use Rattle.s7_base.specs.declared.outcome.Fault.{Fault}
use Rattle.s7_base.specs.declared.word.Width.{Width}
use Rattle.s7_base.specs.declared.word.Width.TheVariants as width
use Rattle.status_word.specs.StatusBits.{StatusBits, after_check, after_edge, after_store}
use Rattle.stl_tree.specs.Accumulators.{after_load, part, read_number, write_number}
use Rattle.stl_tree.specs.Conversions.{after_conversion}
use Rattle.stl_tree.specs.AddressRegisters.{pointer_in, with_pointer}
use Rattle.stl_tree.specs.DataBlocks.{db_opened, di_opened}
use Rattle.stl_tree.specs.Instructions.{at_edge, block_opened, effect_of, on_registers, on_status, pointed_from, pointer_stored, write_operand, store_where_rlo, taken}
use Rattle.stl_tree.specs.Now.{Now, next, with_memory, with_status, with_value}
use Rattle.stl_tree.specs.Registers.{RegisterValues}
use Rattle.stl_tree.specs.declared.program.Ar.{Ar}
use Rattle.stl_tree.specs.declared.program.ArLoad.{ArLoad}
use Rattle.stl_tree.specs.declared.program.ArLoad.TheVariants as ar_load
use Rattle.stl_tree.specs.declared.program.ArStore.{ArStore}
use Rattle.stl_tree.specs.declared.program.ArStore.TheVariants as ar_store
use Rattle.stl_tree.specs.declared.program.BitArg.TheVariants as arg
use Rattle.stl_tree.specs.declared.program.LoadArg.TheVariants as load
use Rattle.stl_tree.specs.declared.program.Op.{Op}
use Rattle.stl_tree.specs.declared.program.Op.TheVariants as op
use Rattle.stl_tree.specs.declared.program.OpenArg.{OpenArg}
use Rattle.stl_tree.specs.declared.program.OpenArg.TheVariants as open_arg
use Rattle.stl_tree.specs.declared.program.Operand.{Operand}
use Rattle.memory_areas.specs.Access.{Aim, and_then, place_aimed, read_dword}
use Rattle.memory_areas.specs.Pointers.{with_offset}
use Rattle.memory_areas.specs.declared.place.AreaName.{AreaName}
use Rattle.memory_areas.specs.declared.place.AreaName.TheVariants as area
use Rattle.memory_areas.specs.declared.place.Place.{Place}
use Rattle.s7_base.specs.declared.check.Entry.{Entry}
use Rattle.s7_base.specs.declared.outcome.Fault.{Fault}
use Rattle.stl_tree.specs.Now.{Effect, depth, with_registers}
use Rattle.stl_tree.specs.Operands.{OperandPlace, aimed_by, aimed_in, formal_place, found_at, found_formal, place_in, with_place}
use Rattle.stl_tree.specs.declared.program.Operand.TheVariants as operand
use Rattle.template_parts.proofs.Pointers.{place_pointed}

-- an effect leaves the open brackets as they were
abbrev pub LeavesBrackets : List Entry → Effect → Type 0
LeavesBrackets entries (next after) = after.brackets ≡ entries
LeavesBrackets entries other = Unit {0}

-- an effect by a value does where each one does
pub left_by_value : {A : Type 0} (entries : List Entry) (effect : A → Effect) (r : Result A Fault)
    → ((x : A) → LeavesBrackets entries (effect x)) → LeavesBrackets entries (with_value r effect)
left_by_value entries effect (Ok x) h = h x
left_by_value entries effect (Err f) h = tt

-- the place in a named area that a pointer is aimed at
abbrev aimed_place : AreaName → ℕ → Now → Place
aimed_place a p now = place_pointed a p now.registers.db now.registers.di (depth now.activations)

abbrev is_found : Place → Now → Result OperandPlace Fault
is_found p now = Ok (record { place = p; after = now })

-- and one by the place of an operand, since finding it does
pub left_at_place : (entries : List Entry) (o : Operand) (now : Now) (effect : Place → Now → Effect) → now.brackets ≡ entries
    → ((p : Place) (after : Now) → after.brackets ≡ entries → LeavesBrackets entries (effect p after)) → LeavesBrackets entries (with_place o now effect)
left_at_place entries (operand.Direct a byte x) now effect e h = h (place_in a byte x now) now e
left_at_place entries (operand.Opened n byte x) now effect e h =
    let after : Now = with_registers (db_opened n) now in h (place_in area.Db byte x after) after e
left_at_place entries (operand.Formal k) now effect e h = by (formal_place k now.activations)
  where
    by : (o : Option Place) → LeavesBrackets entries (with_value (found_formal o now) (λ f. effect f.place f.after))
    by (Some p) = h p now e
    by None = tt
left_at_place entries (operand.ByMemory a pointer_area byte) now effect e h = by (read_dword (place_in pointer_area byte 0 now) now.memory)
  where
    by : (r : Result ℕ Fault) → LeavesBrackets entries (with_value (and_then r (λ p. found_at (aimed_in a p now) now)) (λ f. effect f.place f.after))
    by (Ok p) = h (aimed_place a p now) now e
    by (Err x) = tt
left_at_place entries (operand.ByRegister a r offset) now effect e h = h (aimed_place a (with_offset (pointer_in r now.registers) offset) now) now e
left_at_place entries (operand.Crossing r offset) now effect e h =
    let aim : Aim = aimed_by (with_offset (pointer_in r now.registers) offset) now in by (place_aimed aim)
  where
    by : (r : Result Place Fault) → LeavesBrackets entries (with_value (and_then r (λ p. is_found p now)) (λ f. effect f.place f.after))
    by (Ok p) = h p now e
    by (Err x) = tt

-- Instructions

-- an instruction opens and closes no bracket, does not jump, and does not end its block
abbrev pub IsStraight : Op → Type 0
IsStraight (op.Bracket c) = ⊥
IsStraight op.Close = ⊥
IsStraight (op.Jump t to) = ⊥
IsStraight (op.Loop to) = ⊥
IsStraight (op.JumpList count label) = ⊥
IsStraight op.BlockEnd = ⊥
IsStraight op.BlockEndIf = ⊥
IsStraight (op.Call c) = ⊥
IsStraight (op.CallIf c) = ⊥
IsStraight other = Unit {0}

module _ (now : Now) where
  -- a bit that is written last leaves the brackets
  left_by_write : (after : Now) (written : Result Contents Fault) (row : Bool → StatusBits → StatusBits) → after.brackets ≡ now.brackets
      → LeavesBrackets now.brackets (with_memory written after (λ (done : Now). next (with_status (row done.registers.status.rlo) done)))
  left_by_write after written row same =
      left_by_value {A = Contents} now.brackets
      (λ (m : Contents). next (with_status (row after.registers.status.rlo) (record after { memory = m }))) written (λ m. same)

  left_by_store : (o : Operand) (value : Bool) → LeavesBrackets now.brackets (store_where_rlo value o now)
  left_by_store o value =
      left_at_place now.brackets o now
      (λ q after. with_value (read_bit q after.memory) (λ b. with_memory (write_bit q (if after.registers.status.rlo then value else b) after.memory) after
      (on_status (after_store (if after.registers.status.rlo then value else b))))) refl
      (λ q after same. left_by_value {A = Bool} now.brackets
      (λ (b : Bool). with_memory (write_bit q (if after.registers.status.rlo then value else b) after.memory) after
      (on_status (after_store (if after.registers.status.rlo then value else b)))) (read_bit q after.memory)
      (λ b. left_by_write after (write_bit q (if after.registers.status.rlo then value else b) after.memory)
      (λ rlo. after_store (if after.registers.status.rlo then value else b)) same))

  left_by_edge : (o : Operand) (rising : Bool) → LeavesBrackets now.brackets (at_edge rising o now)
  left_by_edge o rising =
      left_at_place now.brackets o now
      (λ q after. with_value (read_bit q after.memory)
      (λ b. with_memory (write_bit q after.registers.status.rlo after.memory) after (on_status (after_edge rising b)))) refl
      (λ q after same. left_by_value {A = Bool} now.brackets
      (λ (b : Bool). with_memory (write_bit q after.registers.status.rlo after.memory) after (on_status (after_edge rising b))) (read_bit q after.memory)
      (λ b. left_by_write after (write_bit q after.registers.status.rlo after.memory) (λ rlo. after_edge rising b) same))

  -- a number that is read or written leaves the brackets
  left_by_taking : (w : Width) (row : ℕ → RegisterValues → RegisterValues) (o : Operand) → LeavesBrackets now.brackets (taken w row o now)
  left_by_taking w row o =
      left_at_place now.brackets o now (λ q after. with_value (read_number w q after.memory) (λ v. on_registers (row v) after)) refl
      (λ q after same. left_by_value {A = ℕ} now.brackets (λ (v : ℕ). on_registers (row v) after) (read_number w q after.memory) (λ v. same))

  left_by_putting : (w : Width) (value : RegisterValues → ℕ) (o : Operand) → LeavesBrackets now.brackets (write_operand w value o now)
  left_by_putting w value o =
      left_at_place now.brackets o now (λ q after. with_memory (write_number w q (value after.registers) after.memory) after next) refl
      (λ q after same. left_by_value {A = Contents} now.brackets (λ (m : Contents). next (record after { memory = m }))
      (write_number w q (value after.registers) after.memory) (λ m. same))

  left_by_pointing : (a : Ar) (from : ArLoad) → LeavesBrackets now.brackets (pointed_from a from now)
  left_by_pointing a ar_load.Accu1 = refl
  left_by_pointing a (ar_load.Constant c) = refl
  left_by_pointing a (ar_load.At o) = left_by_taking width.Dword (with_pointer a) o
  left_by_pointing a ar_load.OtherAr = refl

  left_by_storing : (a : Ar) (to : ArStore) → LeavesBrackets now.brackets (pointer_stored a to now)
  left_by_storing a ar_store.Accu1 = refl
  left_by_storing a (ar_store.At o) = left_by_putting width.Dword (pointer_in a) o
  left_by_storing a ar_store.OtherAr = refl

  -- a number that is read leaves the brackets
  left_by_opening : (row : ℕ → RegisterValues → RegisterValues) (d : OpenArg) → LeavesBrackets now.brackets (block_opened row d now)
  left_by_opening row (open_arg.Number n) = refl
  left_by_opening row (open_arg.At o) = left_by_taking width.Word row o

  pub brackets_left : (o : Op) → IsStraight o → LeavesBrackets now.brackets (effect_of o now)
  brackets_left (op.Check c (arg.At o)) h =
      left_at_place now.brackets o now (λ q after. with_value (read_bit q after.memory) (λ b. next (with_status (after_check c b) after))) refl
      (λ q after same. left_by_value {A = Bool} now.brackets (λ (b : Bool). next (with_status (after_check c b) after)) (read_bit q after.memory) (λ b. same))
  brackets_left (op.Check c (arg.Flag t)) h = refl
  brackets_left (op.Bracket c) h = elim h [ ]
  brackets_left op.Close h = elim h [ ]
  brackets_left (op.Jump t to) h = elim h [ ]
  brackets_left (op.Loop to) h = elim h [ ]
  brackets_left (op.JumpList count label) h = elim h [ ]
  brackets_left op.BlockEnd h = elim h [ ]
  brackets_left op.BlockEndIf h = elim h [ ]
  brackets_left (op.Call c) h = elim h [ ]
  brackets_left (op.CallIf c) h = elim h [ ]
  brackets_left (op.Assign o) h =
      left_at_place now.brackets o now
      (λ q after. with_memory (write_bit q after.registers.status.rlo after.memory) after
      (λ (done : Now). next (with_status (after_store done.registers.status.rlo) done))) refl
      (λ q after same. left_by_write after (write_bit q after.registers.status.rlo after.memory) after_store same)
  brackets_left (op.Set o) h = left_by_store o true
  brackets_left (op.Reset o) h = left_by_store o false
  brackets_left (op.EdgeUp o) h = left_by_edge o true
  brackets_left (op.EdgeDown o) h = left_by_edge o false
  brackets_left (op.Load (load.At o w)) h = left_by_taking w after_load o
  brackets_left (op.Load (load.Constant c)) h = refl
  brackets_left (op.Transfer o w) h = left_by_putting w (λ r. part w r.accu1) o
  brackets_left (op.LoadAr a from) h = left_by_pointing a from
  brackets_left (op.StoreAr a to) h = left_by_storing a to
  brackets_left (op.OpenDb d) h = left_by_opening db_opened d
  brackets_left (op.OpenDi d) h = left_by_opening di_opened d
  brackets_left (op.Unary u) h =
      left_by_value {A = RegisterValues} now.brackets
      (λ (r : RegisterValues). next (record now { registers = r })) (after_conversion u now.registers) (λ r. refl)
  brackets_left o h = refl
