-- The registers that each instruction reads by its row; what it does depends on no other.
use Rattle.std.specs.Prelude.{ℕ, ◌-◌, ◌^◌, ◌==◌, ℤ, pos, Bool, false, if◌then◌else◌, List, [], ◌∷◌, ◌++◌, Option, Some, None}
use Rattle.std.specs.Ordering.{int_eq}
use Rattle.s7_base.specs.declared.check.Check.{Check}
use Rattle.s7_base.specs.declared.check.Check.TheVariants as check
use Rattle.s7_base.specs.declared.register.Reg.{Reg}
use Rattle.s7_base.specs.declared.register.Reg.TheVariants as reg
use Rattle.status_word.specs.declared.test.Test.{Test}
use Rattle.status_word.specs.declared.test.Test.TheVariants as test
use Rattle.stl_tree.specs.declared.accumulator.LogicRow.{LogicRow}
use Rattle.stl_tree.specs.declared.accumulator.LogicRow.TheVariants as logic
use Rattle.stl_tree.specs.declared.accumulator.UnaryRow.{UnaryRow}
use Rattle.stl_tree.specs.declared.accumulator.UnaryRow.TheVariants as unary
use Rattle.stl_tree.specs.AddressRegisters.{other_of}
use Rattle.stl_tree.specs.declared.program.Ar.{Ar}
use Rattle.stl_tree.specs.declared.program.Ar.TheVariants as ar
use Rattle.stl_tree.specs.declared.program.ArLoad.{ArLoad}
use Rattle.stl_tree.specs.declared.program.ArLoad.TheVariants as ar_load
use Rattle.stl_tree.specs.declared.program.ArStore.{ArStore}
use Rattle.stl_tree.specs.declared.program.ArStore.TheVariants as ar_store
use Rattle.stl_tree.specs.declared.program.JumpTest.{JumpTest}
use Rattle.stl_tree.specs.declared.program.JumpTest.TheVariants as jump
use Rattle.stl_tree.specs.declared.program.LoadArg.{LoadArg}
use Rattle.stl_tree.specs.declared.program.LoadArg.TheVariants as load
use Rattle.stl_tree.specs.declared.program.OpenArg.{OpenArg}
use Rattle.stl_tree.specs.declared.program.OpenArg.TheVariants as open_arg
use Rattle.stl_tree.specs.declared.program.Operand.{Operand}
use Rattle.stl_tree.specs.declared.program.Operand.TheVariants as operand
use Rattle.stl_tree.specs.declared.program.BitArg.{BitArg}
use Rattle.stl_tree.specs.declared.program.BitArg.TheVariants as arg
use Rattle.stl_tree.specs.declared.program.Op.{Op}
use Rattle.stl_tree.specs.declared.program.Op.TheVariants as op

-- the registers that a test of the status word reads
abbrev pub asked_by : Test → List Reg
asked_by test.Eq = reg.Cc1 ∷ reg.Cc0 ∷ []
asked_by test.Ne = reg.Cc1 ∷ reg.Cc0 ∷ []
asked_by test.Gt = reg.Cc1 ∷ reg.Cc0 ∷ []
asked_by test.Lt = reg.Cc1 ∷ reg.Cc0 ∷ []
asked_by test.Ge = reg.Cc0 ∷ []
asked_by test.Le = reg.Cc1 ∷ []
asked_by test.Uo = reg.Cc1 ∷ reg.Cc0 ∷ []
asked_by test.Ov = reg.Ov ∷ []
asked_by test.Os = reg.Os ∷ []
asked_by test.Br = reg.Br ∷ []

-- the register variable of an address register
abbrev pub register_of : Ar → Reg
register_of ar.One = reg.Ar1
register_of ar.Two = reg.Ar2

-- the registers by which an operand is found: an address register, and where that has the area too, the numbers of
-- both data blocks; the number of the data block that a written area means is a register of the access, not of the
-- instruction
abbrev pub found_by : Operand → List Reg
found_by (operand.Direct a byte x) = []
found_by (operand.Opened n byte x) = []
found_by (operand.Formal k) = []
found_by (operand.ByMemory a pointer_area byte) = []
found_by (operand.ByRegister a r offset) = register_of r ∷ []
found_by (operand.Crossing r offset) = register_of r ∷ reg.DbNo ∷ reg.DiNo ∷ []

-- the registers by which a check finds its bit, or which it tests
abbrev pub looked_at : BitArg → List Reg
looked_at (arg.At o) = found_by o
looked_at (arg.Flag t) = asked_by t

-- the registers of the chain that a check continues: an AND reads OR too
abbrev pub chain_read : Check → List Reg
chain_read check.A = reg.Rlo ∷ reg.Nfc ∷ reg.Orb ∷ []
chain_read check.An = reg.Rlo ∷ reg.Nfc ∷ reg.Orb ∷ []
chain_read check.O = reg.Rlo ∷ reg.Nfc ∷ []
chain_read check.On = reg.Rlo ∷ reg.Nfc ∷ []
chain_read check.X = reg.Rlo ∷ reg.Nfc ∷ []
chain_read check.Xn = reg.Rlo ∷ reg.Nfc ∷ []

-- the registers that an arithmetic instruction reads; where nothing overflows OS is kept
abbrev pub calculated_with : List Reg
calculated_with = reg.Accu1 ∷ reg.Accu2 ∷ reg.Os ∷ []

-- the registers that + n, INC and DEC read: ACCU1, but a constant 0 changes nothing
abbrev pub increased_by : ℤ → List Reg
increased_by n = if int_eq n (pos 0) then [] else reg.Accu1 ∷ []

-- the registers that a shift or a rotation reads; one by the constant 0 changes nothing, and one by a count of 0 in
-- ACCU2 keeps the flags
abbrev pub shifted_by : Option ℕ → List Reg
shifted_by None = reg.Accu1 ∷ reg.Accu2 ∷ reg.Cc1 ∷ reg.Cc0 ∷ reg.Ov ∷ []
shifted_by (Some n) = if n == 0 then [] else reg.Accu1 ∷ []

-- word logic with a constant has one result for every value of ACCU1: AD with no bit, OD with all bits
abbrev pub is_fixed : LogicRow → ℕ → Bool
is_fixed logic.Ad c = c == 0
is_fixed logic.Od c = c == 2 ^ 32 - 1
is_fixed other c = false

abbrev pub combined_with : LogicRow → Option ℕ → List Reg
combined_with l None = reg.Accu1 ∷ reg.Accu2 ∷ []
combined_with l (Some c) = if is_fixed l c then [] else reg.Accu1 ∷ []

-- the registers that an instruction on ACCU1 alone reads; where nothing overflows OS is kept
abbrev pub converted_with : UnaryRow → List Reg
converted_with unary.Itb = reg.Accu1 ∷ reg.Os ∷ []
converted_with unary.Dtb = reg.Accu1 ∷ reg.Os ∷ []
converted_with unary.Negi = reg.Accu1 ∷ reg.Os ∷ []
converted_with unary.Negd = reg.Accu1 ∷ reg.Os ∷ []
converted_with other = reg.Accu1 ∷ []

-- the registers that L reads
abbrev pub loaded_by : LoadArg → List Reg
loaded_by (load.At o w) = found_by o
loaded_by (load.Constant c) = []

-- the registers that LAR1 and LAR2 read
abbrev pub pointed_by : Ar → ArLoad → List Reg
pointed_by a ar_load.Accu1 = reg.Accu1 ∷ []
pointed_by a (ar_load.Constant p) = []
pointed_by a (ar_load.At o) = found_by o
pointed_by a ar_load.OtherAr = register_of (other_of a) ∷ []

-- the registers that TAR1 and TAR2 read
abbrev pub stored_by : Ar → ArStore → List Reg
stored_by a ar_store.Accu1 = register_of a ∷ reg.Accu1 ∷ []
stored_by a (ar_store.At o) = register_of a ∷ found_by o
stored_by a ar_store.OtherAr = register_of a ∷ []

-- the registers that +AR1 and +AR2 read; an offset of 0 changes nothing
abbrev pub moved_by : Ar → Option ℕ → List Reg
moved_by a None = register_of a ∷ reg.Accu1 ∷ []
moved_by a (Some offset) = if offset == 0 then [] else register_of a ∷ []

-- the registers that OPN reads
abbrev pub opened_by : OpenArg → List Reg
opened_by (open_arg.Number n) = []
opened_by (open_arg.At o) = found_by o

-- the registers that a jump tests
abbrev pub tested_by : JumpTest → List Reg
tested_by jump.Always = []
tested_by (jump.Rlo wanted) = reg.Rlo ∷ []
tested_by (jump.RloSaved wanted) = reg.Rlo ∷ []
tested_by (jump.Br wanted) = reg.Br ∷ []
tested_by jump.Overflow = reg.Ov ∷ []
tested_by jump.StoredOverflow = reg.Os ∷ []
tested_by (jump.Result t) = asked_by t

-- the registers that an instruction reads; a bracket keeps its chain, and one that is closed reads the RLO inside; BEC
-- keeps OS where it does not end its block; a call keeps the numbers of the data blocks, to put them back
abbrev pub reads_of : Op → List Reg
reads_of (op.Check c b) = looked_at b ++ chain_read c
reads_of op.OrAlone = reg.Rlo ∷ reg.Nfc ∷ []
reads_of (op.Bracket c) = reg.Rlo ∷ reg.Nfc ∷ reg.Orb ∷ []
reads_of op.Close = reg.Rlo ∷ []
reads_of (op.Assign o) = found_by o ++ reg.Rlo ∷ []
reads_of (op.Set o) = found_by o ++ reg.Rlo ∷ []
reads_of (op.Reset o) = found_by o ++ reg.Rlo ∷ []
reads_of op.SetRlo = []
reads_of op.ClearRlo = []
reads_of op.NotRlo = reg.Rlo ∷ []
reads_of op.Save = reg.Rlo ∷ []
reads_of (op.EdgeUp o) = found_by o ++ reg.Rlo ∷ []
reads_of (op.EdgeDown o) = found_by o ++ reg.Rlo ∷ []
reads_of (op.Load a) = loaded_by a ++ reg.Accu1 ∷ []
reads_of (op.Transfer o w) = found_by o ++ reg.Accu1 ∷ []
reads_of op.LoadStw = reg.Accu1 ∷ reg.Rlo ∷ reg.Os ∷ reg.Ov ∷ reg.Cc0 ∷ reg.Cc1 ∷ reg.Br ∷ []
reads_of op.TransferStw = reg.Accu1 ∷ []
reads_of op.LoadDbNo = reg.Accu1 ∷ reg.DbNo ∷ []
reads_of op.LoadDiNo = reg.Accu1 ∷ reg.DiNo ∷ []
reads_of (op.Arith a) = calculated_with
reads_of (op.AddWord n) = increased_by n
reads_of (op.AddDword n) = increased_by n
reads_of (op.Inc n) = increased_by (pos n)
reads_of (op.Dec n) = increased_by (pos n)
reads_of (op.Compare t w) = reg.Accu1 ∷ reg.Accu2 ∷ []
reads_of (op.Shift s count) = shifted_by count
reads_of op.Rlda = reg.Accu1 ∷ reg.Cc1 ∷ []
reads_of op.Rrda = reg.Accu1 ∷ reg.Cc1 ∷ []
reads_of (op.Logic l c) = combined_with l c
reads_of (op.Unary u) = converted_with u
reads_of op.Tak = reg.Accu1 ∷ reg.Accu2 ∷ []
reads_of op.Push = reg.Accu1 ∷ []
reads_of op.Pop = reg.Accu2 ∷ []
reads_of (op.LoadAr a from) = pointed_by a from
reads_of (op.StoreAr a to) = stored_by a to
reads_of op.ExchangeAr = reg.Ar1 ∷ reg.Ar2 ∷ []
reads_of (op.AddAr a amount) = moved_by a amount
reads_of (op.OpenDb d) = opened_by d
reads_of (op.OpenDi d) = opened_by d
reads_of op.ExchangeDb = reg.DbNo ∷ reg.DiNo ∷ []
reads_of op.Nop = []
reads_of (op.Jump t to) = tested_by t
reads_of (op.Loop to) = reg.Accu1 ∷ []
reads_of (op.JumpList count label) = reg.Accu1 ∷ []
reads_of op.BlockEnd = []
reads_of op.BlockEndIf = reg.Rlo ∷ reg.Os ∷ []
reads_of (op.Call c) = reg.DbNo ∷ reg.DiNo ∷ []
reads_of (op.CallIf c) = reg.Rlo ∷ reg.DbNo ∷ reg.DiNo ∷ []
