-- Each instruction keeps registers and memory in their ranges.
use Rattle.std.proofs.Common.{◌≡◌, ℕ, zero, suc, ◌+◌, ◌-◌, ◌%◌, ◌^◌, ◌<◌, ◌≤◌, ◌==◌, pos, negsuc, Bool, true, false, not, nat_lt, if◌then◌else◌, List, [], ◌∷◌, Option, Some, None, Result, Ok, Err, refl, subst, arith}
use Rattle.std.specs.Prelude.{ℤ, neg_ℤ, ◌+ℤ◌, ◌-ℤ◌, ◌*ℤ◌, int_div, int_rem, unsigned_abs, All}
use Rattle.std.specs.Int.{from_bool}
use Rattle.std.specs.Ordering.{int_eq}
use Rattle.std.proofs.lemmas.List.Elements.{All-head, All-tail}
use Rattle.bcd_words.specs.Bcd.{bcd_value}
use Rattle.memory_areas.specs.Access.{Aim, HoldsBytes, aim_of_place, and_then, bits_wide, bytes_there, fault_of, place_aimed, read_bit, read_dword, unless, write_bit}
use Rattle.memory_areas.specs.Areas.{Contents, byte_at, dword_at, word_at}
use Rattle.memory_areas.specs.Pointers.{pointer_plus, with_offset}
use Rattle.memory_areas.specs.declared.place.AreaName.TheVariants as area
use Rattle.memory_areas.specs.declared.place.Place.{Place}
use Rattle.s7_base.specs.declared.check.Entry.{Entry}
use Rattle.s7_base.specs.declared.outcome.Fault.{Fault}
use Rattle.s7_base.specs.declared.word.Width.{Width}
use Rattle.s7_base.specs.declared.word.Width.TheVariants as width
use Rattle.status_word.specs.Flags.{word_of}
use Rattle.status_word.specs.Results.{after_shifted, after_zero_divisor}
use Rattle.status_word.specs.StatusBits.{StatusBits, after_check, after_close, after_edge, after_end, after_jump, after_store}
use Rattle.stl_tree.specs.Accepted.{IsLoadable, IsOpenArg, IsOperand, IsPointerLoad, IsPointerStore, Widths}
use Rattle.stl_tree.specs.Accumulators.{after_addition, after_load, part, read_number, signed_part, with_number, with_part, write_number}
use Rattle.stl_tree.specs.AddressRegisters.{amount_to_add, other_of, pointer_in, with_pointer}
use Rattle.stl_tree.specs.Arithmetic.{both_in_words, after_arithmetic, quotient_in_dword, remainder_in_dword, arithmetic_of_numbers, width_of as arith_width}
use Rattle.stl_tree.specs.Brackets.{closed_with}
use Rattle.stl_tree.specs.Conversions.{with_digits, with_value_of_digits}
use Rattle.stl_tree.specs.DataBlocks.{db_opened, di_opened}
use Rattle.stl_tree.specs.Instructions.{at_edge, block_opened, effect_of, loaded_from, on_accu1, on_registers, on_status, pointed_from, pointer_stored, write_operand, store_where_rlo, taken}
use Rattle.stl_tree.specs.Jumps.{after_asking, after_test, called_where, effect_of_loop, ended_where, going_where, is_made}
use Rattle.stl_tree.specs.Now.{Now, Effect, next, with_memory, with_registers, with_status, with_value}
use Rattle.stl_tree.specs.Operands.{OperandPlace, aimed_by, aimed_in, formal_place, found_at, found_formal, place_in, with_place}
use Rattle.stl_tree.specs.Registers.{RegisterValues}
use Rattle.stl_tree.specs.Shifts.{after_shift, count_of, leaving, after_shift_steps, step, times, width_of as shift_width}
use Rattle.stl_tree.specs.WordLogic.{after_word_logic, combination_of, other_of as other_number, width_of as logic_width}
use Rattle.stl_tree.specs.declared.accumulator.Arith.{Arith}
use Rattle.stl_tree.specs.declared.accumulator.Arith.TheVariants as arith_row
use Rattle.stl_tree.specs.declared.accumulator.LogicRow.{LogicRow}
use Rattle.stl_tree.specs.declared.accumulator.ShiftRow.{ShiftRow}
use Rattle.stl_tree.specs.declared.accumulator.UnaryRow.{UnaryRow}
use Rattle.stl_tree.specs.declared.accumulator.UnaryRow.TheVariants as unary
use Rattle.stl_tree.specs.declared.program.Ar.{Ar}
use Rattle.stl_tree.specs.declared.program.Ar.TheVariants as ar
use Rattle.stl_tree.specs.declared.program.ArLoad.{ArLoad}
use Rattle.stl_tree.specs.declared.program.ArLoad.TheVariants as ar_load
use Rattle.stl_tree.specs.declared.program.ArStore.{ArStore}
use Rattle.stl_tree.specs.declared.program.ArStore.TheVariants as ar_store
use Rattle.stl_tree.specs.declared.program.BitArg.TheVariants as arg
use Rattle.stl_tree.specs.declared.program.BlockCall.{BlockCall}
use Rattle.stl_tree.specs.declared.program.LoadArg.{LoadArg}
use Rattle.stl_tree.specs.declared.program.LoadArg.TheVariants as load
use Rattle.stl_tree.specs.declared.program.Op.TheVariants as op
use Rattle.stl_tree.specs.declared.program.OpenArg.{OpenArg}
use Rattle.stl_tree.specs.declared.program.OpenArg.TheVariants as open_arg
use Rattle.stl_tree.specs.declared.program.Operand.{Operand}
use Rattle.stl_tree.specs.declared.program.Operand.TheVariants as operand
use Rattle.st_tree.proofs.FittingMemory.{AfterHolds, place_holds}
use Rattle.st_tree.proofs.FittingValues.{pattern_below}
use Rattle.st_tree.specs.Values.{flag, is_set}
use Rattle.st_tree.specs.declared.expr.StType.TheVariants as type
use Rattle.instruction_laws.specs.InstructionLaws.{RangesAreKept}
use Rattle.instruction_laws.specs.Ranges.{AreInRange, IsInRange, LeavesInRange}
use Rattle.instruction_laws.proofs.RangeNumbers.{as_dword, combined_below, halves_below, left_around_below, moved_below, part_below, right_around_below, seven_digits_below, three_digits_below, times_below, truth, with_number_below, with_part_below, word_below}

-- Registers, one kind at a time

-- other status bits, and ACCU1
accu1_kept : (a : ℕ) (bits : StatusBits) (r : RegisterValues) → AreInRange r → a < 2 ^ 32 → AreInRange (record r { accu1 = a; status = bits })
accu1_kept a bits r h small = record { accu1 = small; accu2 = h.accu2; ar1 = h.ar1; ar2 = h.ar2; db = h.db; di = h.di }

-- registers are in their ranges whatever the bits of the status word are
pub any_status : (r : RegisterValues) (bits : StatusBits) → AreInRange r → AreInRange (record r { status = bits })
any_status r bits h = accu1_kept r.accu1 bits r h h.accu1

accus_kept : (a b : ℕ) (r : RegisterValues) → AreInRange r → a < 2 ^ 32 → b < 2 ^ 32 → AreInRange (record r { accu1 = a; accu2 = b })
accus_kept a b r h small_a small_b = record { accu1 = small_a; accu2 = small_b; ar1 = h.ar1; ar2 = h.ar2; db = h.db; di = h.di }

load_kept : (v : ℕ) (r : RegisterValues) → AreInRange r → v < 2 ^ 32 → AreInRange (after_load v r)
load_kept v r h small = accus_kept v r.accu1 r h small h.accu1

pointers_kept : (p q : ℕ) (r : RegisterValues) → AreInRange r → p < 2 ^ 32 → q < 2 ^ 32 → AreInRange (record r { ar1 = p; ar2 = q })
pointers_kept p q r h small_p small_q = record { accu1 = h.accu1; accu2 = h.accu2; ar1 = small_p; ar2 = small_q; db = h.db; di = h.di }

pointer_kept : (a : Ar) (p : ℕ) (r : RegisterValues) → AreInRange r → p < 2 ^ 32 → AreInRange (with_pointer a p r)
pointer_kept ar.One p r h small = pointers_kept p r.ar2 r h small h.ar2
pointer_kept ar.Two p r h small = pointers_kept r.ar1 p r h h.ar1 small

pointer_small : (a : Ar) (r : RegisterValues) → AreInRange r → pointer_in a r < 2 ^ 32
pointer_small ar.One r h = h.ar1
pointer_small ar.Two r h = h.ar2

pub registers_with_blocks : (m n : ℕ) (r : RegisterValues) → AreInRange r → m < 2 ^ 16 → n < 2 ^ 16 → AreInRange (record r { db = m; di = n })
registers_with_blocks m n r h small_m small_n = record { accu1 = h.accu1; accu2 = h.accu2; ar1 = h.ar1; ar2 = h.ar2; db = small_m; di = small_n }

pub db_kept : (n : ℕ) (r : RegisterValues) → AreInRange r → n < 2 ^ 16 → AreInRange (db_opened n r)
db_kept n r h small = registers_with_blocks n r.di r h small h.di

di_kept : (n : ℕ) (r : RegisterValues) → AreInRange r → n < 2 ^ 16 → AreInRange (di_opened n r)
di_kept n r h small = registers_with_blocks r.db n r h h.db small

-- Rows on registers

numbers_kept : (a : Arith) (x y : ℤ) (r : RegisterValues) → AreInRange r → AreInRange (arithmetic_of_numbers a x y r)
numbers_kept arith_row.AddI x y r h = accu1_kept _ _ r h (with_number_below width.Word r.accu1 (x +ℤ y) h.accu1)
numbers_kept arith_row.SubI x y r h = accu1_kept _ _ r h (with_number_below width.Word r.accu1 (x -ℤ y) h.accu1)
numbers_kept arith_row.MulI x y r h = accu1_kept _ _ r h (pattern_below 32 (x *ℤ y))
numbers_kept arith_row.DivI x y r h = by (int_eq y (pos 0))
  where
    by : (b : Bool) → AreInRange (if b then record r { status = after_zero_divisor r.status } else both_in_words x y r)
    by true = any_status r (after_zero_divisor r.status) h
    by false = accu1_kept _ _ r h (halves_below (int_rem x y) (int_div x y))
numbers_kept arith_row.AddD x y r h = accu1_kept _ _ r h (with_number_below width.Dword r.accu1 (x +ℤ y) h.accu1)
numbers_kept arith_row.SubD x y r h = accu1_kept _ _ r h (with_number_below width.Dword r.accu1 (x -ℤ y) h.accu1)
numbers_kept arith_row.MulD x y r h = accu1_kept _ _ r h (pattern_below 32 (x *ℤ y))
numbers_kept arith_row.DivD x y r h = by (int_eq y (pos 0))
  where
    by : (b : Bool) → AreInRange (if b then record r { status = after_zero_divisor r.status } else quotient_in_dword x y r)
    by true = any_status r (after_zero_divisor r.status) h
    by false = accu1_kept _ _ r h (pattern_below 32 (int_div x y))
numbers_kept arith_row.Mod x y r h = by (int_eq y (pos 0))
  where
    by : (b : Bool) → AreInRange (if b then record r { status = after_zero_divisor r.status } else remainder_in_dword x y r)
    by true = any_status r (after_zero_divisor r.status) h
    by false = accu1_kept _ _ r h (pattern_below 32 (int_rem x y))

shift_kept : (k : ShiftRow) (n : ℕ) (r : RegisterValues) → AreInRange r → AreInRange (after_shift_steps k n r)
shift_kept k n r h = by (n == 0)
  where
    by : (none : Bool) → AreInRange (if none then r else record r {
      accu1 = with_part (shift_width k) r.accu1 (times n (step k) (part (shift_width k) r.accu1));
      status = after_shifted (leaving k (times (n - 1) (step k) (part (shift_width k) r.accu1))) r.status;
    })
    by true = h
    by false =
        accu1_kept _ _ r h
        (with_part_below (shift_width k) r.accu1 (times n (step k) (part (shift_width k) r.accu1)) h.accu1
        (times_below k n (part (shift_width k) r.accu1) (part_below (shift_width k) r.accu1)))

logic_kept : (l : LogicRow) (c : Option ℕ) (r : RegisterValues) → AreInRange r → AreInRange (after_word_logic l c r)
logic_kept l c r h =
    let w : Width = logic_width l in
    let p : ℕ = part w r.accu1 in
    let q : ℕ = part w (other_number c r) in
    accu1_kept (with_part w r.accu1 (combination_of l p q)) (after_word_logic l c r).status r h
    (with_part_below w r.accu1 (combination_of l p q) h.accu1 (combined_below l p q (part_below w r.accu1) (part_below w (other_number c r))))

digits_kept : (w : Width) (few : Bool) (p : ℕ) (r : RegisterValues) → AreInRange r
    → p < 2 ^ bits_wide w → AreInRange (with_digits w (if few then Some p else None) r)
digits_kept w true p r h small = accu1_kept _ _ r h (with_part_below w r.accu1 p h.accu1 small)
digits_kept w false p r h small = any_status r _ h

-- States

-- other registers in their ranges
goes_on : (r : RegisterValues) (now : Now) → IsInRange now → AreInRange r → IsInRange (record now { registers = r })
goes_on r now h small = record { registers = small; memory = h.memory }

-- other status bits
flags_kept : (bits : StatusBits) (now : Now) → IsInRange now → IsInRange (record now { registers = record now.registers { status = bits } })
flags_kept bits now h = goes_on (record now.registers { status = bits }) now h (any_status now.registers bits h.registers)

closes : (entries : List Entry) (now : Now) → IsInRange now → IsInRange (closed_with entries now)
closes [] now h = h
closes (e ∷ outer) now h = record { registers = any_status now.registers (after_close e now.registers.status) h.registers; memory = h.memory }

converts : (u : UnaryRow) (now : Now) → IsInRange now → LeavesInRange (on_accu1 u now)
converts unary.Bti now h = by (bcd_value 3 (part width.Word now.registers.accu1))
  where
    by : (z : Result ℤ Fault) → LeavesInRange (with_value (with_value_of_digits width.Word now.registers z) (λ r. next (record now { registers = r })))
    by (Ok z) = goes_on _ now h (accu1_kept _ _ now.registers h.registers (with_number_below width.Word now.registers.accu1 z h.registers.accu1))
    by (Err f) = tt
converts unary.Btd now h = by (bcd_value 7 (part width.Dword now.registers.accu1))
  where
    by : (z : Result ℤ Fault) → LeavesInRange (with_value (with_value_of_digits width.Dword now.registers z) (λ r. next (record now { registers = r })))
    by (Ok z) = goes_on _ now h (accu1_kept _ _ now.registers h.registers (with_number_below width.Dword now.registers.accu1 z h.registers.accu1))
    by (Err f) = tt
converts unary.Itb now h =
    let z : ℤ = signed_part width.Word now.registers.accu1 in
    goes_on _ now h (digits_kept width.Word (nat_lt (unsigned_abs z) 1000) _ now.registers h.registers (three_digits_below (unsigned_abs z) z))
converts unary.Dtb now h =
    let z : ℤ = signed_part width.Dword now.registers.accu1 in
    goes_on _ now h (digits_kept width.Dword (nat_lt (unsigned_abs z) 10000000) _ now.registers h.registers (seven_digits_below (unsigned_abs z) z))
converts unary.Itd now h =
    goes_on _ now h (accu1_kept _ _ now.registers h.registers (pattern_below 32 (signed_part width.Word now.registers.accu1)))
converts unary.Invi now h =
    let a : now.registers.accu1 < 2 ^ 32 = h.registers.accu1 in goes_on _ now h (accu1_kept _ _ now.registers h.registers (omega arith))
converts unary.Invd now h =
    let a : now.registers.accu1 < 2 ^ 32 = h.registers.accu1 in goes_on _ now h (accu1_kept _ _ now.registers h.registers (omega arith))
converts unary.Caw now h =
    let a : now.registers.accu1 < 2 ^ 32 = h.registers.accu1 in goes_on _ now h (accu1_kept _ _ now.registers h.registers (omega arith))
converts unary.Cad now h =
    let a : now.registers.accu1 < 2 ^ 32 = h.registers.accu1 in goes_on _ now h (accu1_kept _ _ now.registers h.registers (omega arith))
converts unary.Negi now h =
    goes_on _ now h
    (accu1_kept _ _ now.registers h.registers
    (with_number_below width.Word now.registers.accu1 (neg_ℤ (signed_part width.Word now.registers.accu1)) h.registers.accu1))
converts unary.Negd now h =
    goes_on _ now h
    (accu1_kept _ _ now.registers h.registers
    (with_number_below width.Dword now.registers.accu1 (neg_ℤ (signed_part width.Dword now.registers.accu1)) h.registers.accu1))

-- What is read and written

abbrev IsByte : ℕ → Type 0
IsByte b = b < 256

byte_below : (bytes : List ℕ) (i : ℕ) → All IsByte bytes → byte_at bytes i < 256
byte_below [] i h = omega arith
byte_below (b ∷ bs) zero h = All-head IsByte b bs h
byte_below (b ∷ bs) (suc i) h = byte_below bs i (All-tail IsByte b bs h)

word_at_below : (bytes : List ℕ) (i : ℕ) → All IsByte bytes → word_at bytes i < 2 ^ 16
word_at_below bytes i h = omega (arith, byte_below bytes i h, byte_below bytes (i + 1) h)

dword_at_below : (bytes : List ℕ) (i : ℕ) → All IsByte bytes → dword_at bytes i < 2 ^ 32
dword_at_below bytes i h = omega (arith, byte_below bytes i h, byte_below bytes (i + 1) h, byte_below bytes (i + 2) h, byte_below bytes (i + 3) h)

-- what is computed from bytes that were reached
by_bytes : (fault : Option Fault) (bytes : List ℕ) (number : List ℕ → ℕ) (most : ℕ) (effect : ℕ → Effect) → number bytes < most
    → ((v : ℕ) → v < most → LeavesInRange (effect v))
    → LeavesInRange (with_value (and_then (unless fault bytes) (λ (reached : List ℕ). Ok (number reached))) effect)
by_bytes None bytes number most effect small h = h (number bytes) small
by_bytes (Some f) bytes number most effect small h = tt

by_truth : (bit : Result Bool Fault) (effect : ℕ → Effect) → ((v : ℕ) → v < 2 → LeavesInRange (effect v))
    → LeavesInRange (with_value (and_then bit (λ (b : Bool). Ok (from_bool b))) effect)
by_truth (Ok b) effect h = h (from_bool b) (truth b)
by_truth (Err f) effect h = tt

by_bit : (bit : Result Bool Fault) (effect : Bool → Effect) → ((b : Bool) → LeavesInRange (effect b)) → LeavesInRange (with_value bit effect)
by_bit (Ok b) effect h = h b
by_bit (Err f) effect h = tt

same_number : (a b : ℕ) → ◌≡◌ {A = Result ℕ Fault} (Ok a) (Ok b) → a ≡ b
same_number a b e = cc

small_read : (fault : Option Fault) (bytes : List ℕ) (number : List ℕ → ℕ) (most n : ℕ) → number bytes < most
    → ◌≡◌ {A = Result ℕ Fault} (and_then (unless fault bytes) (λ (reached : List ℕ). Ok (number reached))) (Ok n) → n < most
small_read None bytes number most n small e = subst (λ k. k < most) (same_number (number bytes) n e) small
small_read (Some f) bytes number most n small e = absurd cc

reads : (w : Width) (p : Place) (m : Contents) (effect : ℕ → Effect) → HoldsBytes m → ((v : ℕ) → v < 2 ^ bits_wide w → LeavesInRange (effect v))
    → LeavesInRange (with_value (read_number w p m) effect)
reads width.Bit p m effect holds h = by_truth (read_bit p m) effect h
reads width.Byte p m effect holds h =
    by_bytes (fault_of (aim_of_place p) width.Byte m) (bytes_there (Some p.area) m) (λ bytes. byte_at bytes p.byte) (2 ^ 8) effect
    (byte_below (bytes_there (Some p.area) m) p.byte (holds p.area)) h
reads width.Word p m effect holds h =
    by_bytes (fault_of (aim_of_place p) width.Word m) (bytes_there (Some p.area) m) (λ bytes. word_at bytes p.byte) (2 ^ 16) effect
    (word_at_below (bytes_there (Some p.area) m) p.byte (holds p.area)) h
reads width.Dword p m effect holds h =
    by_bytes (fault_of (aim_of_place p) width.Dword m) (bytes_there (Some p.area) m) (λ bytes. dword_at bytes p.byte) (2 ^ 32) effect
    (dword_at_below (bytes_there (Some p.area) m) p.byte (holds p.area)) h

-- a number that is read has its width
pub number_read : (w : Width) (p : Place) (m : Contents) → HoldsBytes m → (n : ℕ) → read_number w p m ≡ Ok n → n < 2 ^ bits_wide w
number_read width.Bit p m holds n e = by_truth_read (read_bit p m) e
  where
    by_truth_read : (bit : Result Bool Fault) → ◌≡◌ {A = Result ℕ Fault} (and_then bit (λ (b : Bool). Ok (from_bool b))) (Ok n) → n < 2
    by_truth_read (Ok b) f = subst (λ k. k < 2) (same_number (from_bool b) n f) (truth b)
    by_truth_read (Err x) f = absurd cc
number_read width.Byte p m holds n e =
    small_read (fault_of (aim_of_place p) width.Byte m) (bytes_there (Some p.area) m) (λ bytes. byte_at bytes p.byte) (2 ^ 8) n
    (byte_below (bytes_there (Some p.area) m) p.byte (holds p.area)) e
number_read width.Word p m holds n e =
    small_read (fault_of (aim_of_place p) width.Word m) (bytes_there (Some p.area) m) (λ bytes. word_at bytes p.byte) (2 ^ 16) n
    (word_at_below (bytes_there (Some p.area) m) p.byte (holds p.area)) e
number_read width.Dword p m holds n e =
    small_read (fault_of (aim_of_place p) width.Dword m) (bytes_there (Some p.area) m) (λ bytes. dword_at bytes p.byte) (2 ^ 32) n
    (dword_at_below (bytes_there (Some p.area) m) p.byte (holds p.area)) e

set_flag : (b : Bool) → is_set (flag b) ≡ b
set_flag true = refl
set_flag false = refl

bit_written : (p : Place) (b : Bool) (m : Contents) → HoldsBytes m → AfterHolds (write_bit p b m)
bit_written p b m holds = subst (λ v. AfterHolds (write_bit p v m)) (set_flag b) (place_holds type.Bool p (flag b) m holds)

pub number_written : (w : Width) (p : Place) (v : ℕ) (m : Contents) → HoldsBytes m → v < 2 ^ bits_wide w → AfterHolds (write_number w p v m)
number_written width.Bit p v m holds small = bit_written p (v == 1) m holds
number_written width.Byte p v m holds small =
    let e : v % 2 ^ 8 ≡ v = omega arith in
    subst (λ n. AfterHolds (write_number width.Byte p n m)) e (place_holds type.Byte p (record { ty = type.Byte; n = pos v }) m holds)
number_written width.Word p v m holds small =
    let e : v % 2 ^ 16 ≡ v = omega arith in
    subst (λ n. AfterHolds (write_number width.Word p n m)) e (place_holds type.Word p (record { ty = type.Word; n = pos v }) m holds)
number_written width.Dword p v m holds small =
    let e : v % 2 ^ 32 ≡ v = omega arith in
    subst (λ n. AfterHolds (write_number width.Dword p n m)) e (place_holds type.Dword p (record { ty = type.Dword; n = pos v }) m holds)

-- a memory that was written
by_memory : (written : Result Contents Fault) (effect : Contents → Effect) → AfterHolds written → ((m : Contents) → HoldsBytes m → LeavesInRange (effect m))
    → LeavesInRange (with_value written effect)
by_memory (Ok m) effect holds h = h m holds
by_memory (Err f) effect holds h = tt

-- Operands

module _ (now : Now) (h : IsInRange now) (effect : Place → Now → Effect) where
  at_aim : (aim : Aim) → ((p : Place) → LeavesInRange (effect p now)) → LeavesInRange (with_value (found_at aim now) (λ f. effect f.place f.after))
  at_aim aim does = by (place_aimed aim)
    where
      by : (p : Result Place Fault)
          → LeavesInRange (with_value (and_then p (λ p. Ok (record { place = p; after = now }))) (λ (f : OperandPlace). effect f.place f.after))
      by (Ok p) = does p
      by (Err f) = tt

  at_pointer : (aim : ℕ → Aim) (p : Result ℕ Fault) → ((p : Place) → LeavesInRange (effect p now))
      → LeavesInRange (with_value (and_then p (λ v. found_at (aim v) now)) (λ f. effect f.place f.after))
  at_pointer aim (Ok v) does = at_aim (aim v) does
  at_pointer aim (Err f) does = tt

at_place : (wide : Widths) (o : Operand) (w : Width) (now : Now) (effect : Place → Now → Effect) → IsOperand wide w o → IsInRange now
    → ((p : Place) (n : Now) → IsInRange n → LeavesInRange (effect p n)) → LeavesInRange (with_place o now effect)
at_place wide (operand.Direct a byte x) w now effect is h does = does (place_in a byte x now) now h
at_place wide (operand.Opened n byte x) w now effect is h does =
    let most : n ≤ 65535 = is.0.1 in
    let after : Now = with_registers (db_opened n) now in
    does (place_in area.Db byte x after) after (goes_on (db_opened n now.registers) now h (db_kept n now.registers h.registers (omega arith)))
at_place wide (operand.Formal k) w now effect is h does = by (formal_place k now.activations)
  where
    by : (o : Option Place) → LeavesInRange (with_value (found_formal o now) (λ f. effect f.place f.after))
    by None = tt
    by (Some p) = does p now h
at_place wide (operand.ByMemory a pointer_area byte) w now effect is h does =
    at_pointer now h effect (λ p. aimed_in a p now) (read_dword (place_in pointer_area byte 0 now) now.memory) (λ p. does p now h)
at_place wide (operand.ByRegister a r offset) w now effect is h does =
    at_aim now h effect (aimed_in a (with_offset (pointer_in r now.registers) offset) now) (λ p. does p now h)
at_place wide (operand.Crossing r offset) w now effect is h does =
    at_aim now h effect (aimed_by (with_offset (pointer_in r now.registers) offset) now) (λ p. does p now h)

takes : (wide : Widths) (w : Width) (row : ℕ → RegisterValues → RegisterValues) (o : Operand) (now : Now) → IsOperand wide w o → IsInRange now
    → ((v : ℕ) (r : RegisterValues) → v < 2 ^ bits_wide w → AreInRange r → AreInRange (row v r)) → LeavesInRange (taken w row o now)
takes wide w row o now is h small =
    at_place wide o w now (λ p after. with_value (read_number w p after.memory) (λ v. on_registers (row v) after)) is h
    (λ p n k. reads w p n.memory (λ v. on_registers (row v) n) k.memory (λ v few. goes_on (row v n.registers) n k (small v n.registers few k.registers)))

puts : (wide : Widths) (w : Width) (value : RegisterValues → ℕ) (o : Operand) (now : Now) → IsOperand wide w o → IsInRange now
    → ((r : RegisterValues) → AreInRange r → value r < 2 ^ bits_wide w) → LeavesInRange (write_operand w value o now)
puts wide w value o now is h small =
    at_place wide o w now (λ p after. with_value (write_number w p (value after.registers) after.memory) (λ m. next (record after { memory = m }))) is h
    (λ p n k. by_memory (write_number w p (value n.registers) n.memory) (λ m. next (record n { memory = m }))
    (number_written w p (value n.registers) n.memory k.memory (small n.registers k.registers)) (λ m holds. record { registers = k.registers; memory = holds }))

-- a bit that is written, and other status bits
writes_bit : (p : Place) (b : Bool) (bits : StatusBits) (now : Now) → IsInRange now
    → LeavesInRange (with_value (write_bit p b now.memory) (λ m. next (record now { memory = m; registers = record now.registers { status = bits } })))
writes_bit p b bits now h =
    by_memory (write_bit p b now.memory) (λ m. next (record now { memory = m; registers = record now.registers { status = bits } }))
    (bit_written p b now.memory h.memory) (λ m holds. record { registers = any_status now.registers bits h.registers; memory = holds })

assigns : (wide : Widths) (o : Operand) (now : Now) → IsOperand wide width.Bit o → IsInRange now → LeavesInRange (effect_of (op.Assign o) now)
assigns wide o now is h =
    at_place wide o width.Bit now
    (λ p after. with_memory (write_bit p after.registers.status.rlo after.memory) after
    (λ done. next (with_status (after_store done.registers.status.rlo) done))) is h
    (λ p n k. writes_bit p n.registers.status.rlo (after_store n.registers.status.rlo n.registers.status) n k)

stores : (wide : Widths) (value : Bool) (o : Operand) (now : Now) → IsOperand wide width.Bit o → IsInRange now → LeavesInRange (store_where_rlo value o now)
stores wide value o now is h =
    at_place wide o width.Bit now
    (λ p n. with_value (read_bit p n.memory) (λ b. with_memory (write_bit p (if n.registers.status.rlo then value else b) n.memory) n
    (on_status (after_store (if n.registers.status.rlo then value else b))))) is h
    (λ p n k. by_bit (read_bit p n.memory)
    (λ b. with_memory (write_bit p (if n.registers.status.rlo then value else b) n.memory) n
    (on_status (after_store (if n.registers.status.rlo then value else b))))
    (λ b. writes_bit p (if n.registers.status.rlo then value else b) (after_store (if n.registers.status.rlo then value else b) n.registers.status) n k))

edges : (wide : Widths) (rising : Bool) (o : Operand) (now : Now) → IsOperand wide width.Bit o → IsInRange now → LeavesInRange (at_edge rising o now)
edges wide rising o now is h =
    at_place wide o width.Bit now
    (λ p n. with_value (read_bit p n.memory) (λ e. with_memory (write_bit p n.registers.status.rlo n.memory) n (on_status (after_edge rising e)))) is h
    (λ p n k. by_bit (read_bit p n.memory) (λ e. with_memory (write_bit p n.registers.status.rlo n.memory) n (on_status (after_edge rising e)))
    (λ e. writes_bit p n.registers.status.rlo (after_edge rising e n.registers.status) n k))

-- The row of each instruction

loads : (wide : Widths) (a : LoadArg) (now : Now) → IsLoadable wide a → IsInRange now → LeavesInRange (loaded_from a now)
loads wide (load.At o w) now is h = takes wide w after_load o now is.1 h (λ v r few small. load_kept v r small (as_dword w v few))
loads wide (load.Constant c) now is h = goes_on (after_load c now.registers) now h (load_kept c now.registers h.registers is)

points : (wide : Widths) (a : Ar) (from : ArLoad) (now : Now) → IsPointerLoad wide a from → IsInRange now → LeavesInRange (pointed_from a from now)
points wide a ar_load.Accu1 now is h = goes_on _ now h (pointer_kept a now.registers.accu1 now.registers h.registers h.registers.accu1)
points wide a (ar_load.Constant p) now is h = goes_on _ now h (pointer_kept a p now.registers h.registers is)
points wide a (ar_load.At o) now is h = takes wide width.Dword (with_pointer a) o now is.1 h (λ v r few small. pointer_kept a v r small few)
points wide a ar_load.OtherAr now is h =
    goes_on _ now h (pointer_kept a (pointer_in (other_of a) now.registers) now.registers h.registers (pointer_small (other_of a) now.registers h.registers))

stores_pointer : (wide : Widths) (a : Ar) (to : ArStore) (now : Now) → IsPointerStore wide a to → IsInRange now → LeavesInRange (pointer_stored a to now)
stores_pointer wide a ar_store.Accu1 now is h =
    goes_on _ now h (load_kept (pointer_in a now.registers) now.registers h.registers (pointer_small a now.registers h.registers))
stores_pointer wide a (ar_store.At o) now is h = puts wide width.Dword (pointer_in a) o now is.1 h (λ r small. pointer_small a r small)
stores_pointer wide a ar_store.OtherAr now is h =
    goes_on _ now h (pointer_kept (other_of a) (pointer_in a now.registers) now.registers h.registers (pointer_small a now.registers h.registers))

opens : (wide : Widths) (row : ℕ → RegisterValues → RegisterValues) → ((n : ℕ) (r : RegisterValues) → AreInRange r → n < 2 ^ 16 → AreInRange (row n r))
    → (d : OpenArg) (now : Now) → IsOpenArg wide d → IsInRange now → LeavesInRange (block_opened row d now)
opens wide row keeps (open_arg.Number n) now is h =
    let most : n ≤ 65535 = is.1 in goes_on (row n now.registers) now h (keeps n now.registers h.registers (omega arith))
opens wide row keeps (open_arg.At o) now is h = takes wide width.Word row o now is.1 h (λ v r few small. keeps v r small few)

goes_where : (made : Bool) (to : ℕ) (now : Now) → IsInRange now → LeavesInRange (going_where made to now)
goes_where true to now h = h
goes_where false to now h = h

loops : (to : ℕ) (now : Now) → IsInRange now → LeavesInRange (effect_of_loop to now)
loops to now h =
    let a : ℕ = with_number width.Word now.registers.accu1 (signed_part width.Word now.registers.accu1 +ℤ negsuc 0) in
    let small : a < 2 ^ 32 = with_number_below width.Word now.registers.accu1 (signed_part width.Word now.registers.accu1 +ℤ negsuc 0) h.registers.accu1 in
    goes_where (not (part width.Word a == 0)) to (with_registers (after_addition width.Word (negsuc 0)) now)
    (goes_on _ now h (accu1_kept a now.registers.status now.registers h.registers small))

ends_where : (ended : Bool) (now : Now) → IsInRange now → LeavesInRange (ended_where ended now)
ends_where true now h = flags_kept (after_end now.registers.status) now h
ends_where false now h = flags_kept (after_jump now.registers.status) now h

calls_where : (made : Bool) (call : BlockCall) (now : Now) → IsInRange now → LeavesInRange (called_where made call now)
calls_where true call now h = flags_kept (after_asking now.registers.status) now h
calls_where false call now h = flags_kept (after_asking now.registers.status) now h

pub ranges_kept : RangesAreKept
ranges_kept wide (op.Check c (arg.At o)) now is h =
    at_place wide o width.Bit now (λ p n. with_value (read_bit p n.memory) (λ b. on_status (after_check c b) n)) is h
    (λ p n k. by_bit (read_bit p n.memory) (λ b. on_status (after_check c b) n) (λ b. flags_kept (after_check c b n.registers.status) n k))
ranges_kept wide (op.Check c (arg.Flag t)) now is h = flags_kept _ now h
ranges_kept wide op.OrAlone now is h = flags_kept _ now h
ranges_kept wide (op.Bracket c) now is h = record { registers = any_status now.registers _ h.registers; memory = h.memory }
ranges_kept wide op.Close now is h = closes now.brackets now h
ranges_kept wide (op.Assign o) now is h = assigns wide o now is h
ranges_kept wide (op.Set o) now is h = stores wide true o now is h
ranges_kept wide (op.Reset o) now is h = stores wide false o now is h
ranges_kept wide op.SetRlo now is h = flags_kept _ now h
ranges_kept wide op.ClearRlo now is h = flags_kept _ now h
ranges_kept wide op.NotRlo now is h = flags_kept _ now h
ranges_kept wide op.Save now is h = flags_kept _ now h
ranges_kept wide (op.EdgeUp o) now is h = edges wide true o now is h
ranges_kept wide (op.EdgeDown o) now is h = edges wide false o now is h
ranges_kept wide (op.Load a) now is h = loads wide a now is h
ranges_kept wide (op.Transfer o w) now is h = puts wide w (λ r. part w r.accu1) o now is.1 h (λ r small. part_below w r.accu1)
ranges_kept wide op.LoadStw now is h = goes_on _ now h (load_kept (word_of now.registers.status) now.registers h.registers (word_below now.registers.status))
ranges_kept wide op.TransferStw now is h = flags_kept _ now h
ranges_kept wide op.LoadDbNo now is h =
    let few : now.registers.db < 2 ^ 16 = h.registers.db in goes_on _ now h (load_kept now.registers.db now.registers h.registers (omega arith))
ranges_kept wide op.LoadDiNo now is h =
    let few : now.registers.di < 2 ^ 16 = h.registers.di in goes_on _ now h (load_kept now.registers.di now.registers h.registers (omega arith))
ranges_kept wide (op.Arith a) now is h =
    goes_on (after_arithmetic a now.registers) now h
    (numbers_kept a (signed_part (arith_width a) now.registers.accu2) (signed_part (arith_width a) now.registers.accu1) now.registers h.registers)
ranges_kept wide (op.AddWord n) now is h =
    goes_on _ now h
    (accu1_kept _ _ now.registers h.registers
    (with_number_below width.Word now.registers.accu1 (signed_part width.Word now.registers.accu1 +ℤ n) h.registers.accu1))
ranges_kept wide (op.AddDword n) now is h =
    goes_on _ now h
    (accu1_kept _ _ now.registers h.registers
    (with_number_below width.Dword now.registers.accu1 (signed_part width.Dword now.registers.accu1 +ℤ n) h.registers.accu1))
ranges_kept wide (op.Inc n) now is h =
    let a : now.registers.accu1 < 2 ^ 32 = h.registers.accu1 in goes_on _ now h (accu1_kept _ _ now.registers h.registers (omega arith))
ranges_kept wide (op.Dec n) now is h =
    let a : now.registers.accu1 < 2 ^ 32 = h.registers.accu1 in goes_on _ now h (accu1_kept _ _ now.registers h.registers (omega arith))
ranges_kept wide (op.Compare t w) now is h = flags_kept _ now h
ranges_kept wide (op.Shift k count) now is h =
    goes_on (after_shift k count now.registers) now h (shift_kept k (count_of count now.registers) now.registers h.registers)
ranges_kept wide op.Rlda now is h =
    goes_on _ now h (accu1_kept _ _ now.registers h.registers (left_around_below now.registers.accu1 now.registers.status.cc1))
ranges_kept wide op.Rrda now is h =
    goes_on _ now h (accu1_kept _ _ now.registers h.registers (right_around_below now.registers.accu1 now.registers.status.cc1 h.registers.accu1))
ranges_kept wide (op.Logic l c) now is h = goes_on (after_word_logic l c now.registers) now h (logic_kept l c now.registers h.registers)
ranges_kept wide (op.Unary u) now is h = converts u now h
ranges_kept wide op.Tak now is h =
    goes_on _ now h (accus_kept now.registers.accu2 now.registers.accu1 now.registers h.registers h.registers.accu2 h.registers.accu1)
ranges_kept wide op.Push now is h =
    goes_on _ now h (accus_kept now.registers.accu1 now.registers.accu1 now.registers h.registers h.registers.accu1 h.registers.accu1)
ranges_kept wide op.Pop now is h =
    goes_on _ now h (accus_kept now.registers.accu2 now.registers.accu2 now.registers h.registers h.registers.accu2 h.registers.accu2)
ranges_kept wide (op.LoadAr a from) now is h = points wide a from now is h
ranges_kept wide (op.StoreAr a to) now is h = stores_pointer wide a to now is h
ranges_kept wide op.ExchangeAr now is h =
    goes_on _ now h (pointers_kept now.registers.ar2 now.registers.ar1 now.registers h.registers h.registers.ar2 h.registers.ar1)
ranges_kept wide (op.AddAr a amount) now is h =
    let p : ℕ = pointer_in a now.registers in
    goes_on _ now h (pointer_kept a (pointer_plus p (amount_to_add amount now.registers)) now.registers h.registers
    (moved_below p (amount_to_add amount now.registers) (pointer_small a now.registers h.registers)))
ranges_kept wide (op.OpenDb d) now is h = opens wide db_opened db_kept d now is h
ranges_kept wide (op.OpenDi d) now is h = opens wide di_opened di_kept d now is h
ranges_kept wide op.ExchangeDb now is h =
    goes_on _ now h (registers_with_blocks now.registers.di now.registers.db now.registers h.registers h.registers.di h.registers.db)
ranges_kept wide op.Nop now is h = h
ranges_kept wide (op.Jump t to) now is h = goes_where (is_made t now.registers.status) to _ (flags_kept (after_test t now.registers.status) now h)
ranges_kept wide (op.Loop to) now is h = loops to now h
ranges_kept wide (op.JumpList count label) now is h = h
ranges_kept wide op.BlockEnd now is h = flags_kept _ now h
ranges_kept wide op.BlockEndIf now is h = ends_where now.registers.status.rlo now h
ranges_kept wide (op.Call c) now is h = flags_kept (after_end now.registers.status) now h
ranges_kept wide (op.CallIf c) now is h = calls_where now.registers.status.rlo c now h
