-- Instructions on the address registers. What LAR1, LAR2, TAR1, TAR2, CAR, +AR1 and +AR2 make of the registers.
-- Held against: the manual's chapters 'Load and Transfer' and 'Accumulator Instructions'.
use Rattle.std.specs.Prelude.{ℕ, ℤ, pos, Option, Some, None}
use Rattle.memory_areas.specs.Pointers.{pointer_plus}
use Rattle.s7_base.specs.declared.word.Width.TheVariants as width
use Rattle.stl_tree.specs.Accumulators.{after_load, signed_part}
use Rattle.stl_tree.specs.Registers.{RegisterValues}
use Rattle.stl_tree.specs.declared.program.Ar.{Ar}
use Rattle.stl_tree.specs.declared.program.Ar.TheVariants as ar

-- the value of an address register
abbrev pub pointer_in : Ar → RegisterValues → ℕ
pointer_in ar.One r = r.ar1
pointer_in ar.Two r = r.ar2

-- the registers with another pointer in an address register: LAR1 and LAR2
abbrev pub with_pointer : Ar → ℕ → RegisterValues → RegisterValues
with_pointer ar.One p r = record r { ar1 = p }
with_pointer ar.Two p r = record r { ar2 = p }

-- the other address register
abbrev pub other_of : Ar → Ar
other_of ar.One = ar.Two
other_of ar.Two = ar.One

-- LAR1 and LAR2 without operand: an address register takes ACCU1
abbrev pub accu1_pointed : Ar → RegisterValues → RegisterValues
accu1_pointed a r = with_pointer a r.accu1 r

-- LAR1 AR2: an address register takes the value of the other one
abbrev pub other_loaded : Ar → RegisterValues → RegisterValues
other_loaded a r = with_pointer a (pointer_in (other_of a) r) r

-- TAR1 and TAR2 without operand: ACCU1 takes the pointer, and ACCU2 the old value of ACCU1, as for L
abbrev pub pointer_loaded : Ar → RegisterValues → RegisterValues
pointer_loaded a r = after_load (pointer_in a r) r

-- TAR1 AR2: the other address register takes the value of this one
abbrev pub other_stored : Ar → RegisterValues → RegisterValues
other_stored a r = with_pointer (other_of a) (pointer_in a r) r

-- CAR: AR1 and AR2 exchange their values
abbrev pub pointers_exchanged : RegisterValues → RegisterValues
pointers_exchanged r = record r { ar1 = r.ar2; ar2 = r.ar1 }

-- the amount that +AR1 and +AR2 add: an offset, or the low word of ACCU1 with its sign
abbrev pub amount_to_add : Option ℕ → RegisterValues → ℤ
amount_to_add (Some offset) r = pos offset
amount_to_add None r = signed_part width.Word r.accu1

-- +AR1 and +AR2: an amount is added to an address register
abbrev pub pointer_moved : Ar → Option ℕ → RegisterValues → RegisterValues
pointer_moved a amount r = with_pointer a (pointer_plus (pointer_in a r) (amount_to_add amount r)) r
