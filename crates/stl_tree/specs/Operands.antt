-- The place that an operand names. An operand is a written place, or has a pointer in memory or in an address
-- register; the first fault on the way to its place is named.
-- Held against: the manual's chapters 'Load and Transfer' and 'Data Block'.
use Rattle.std.specs.Prelude.{ℕ, Bool, List, [], ◌∷◌, slice_get, Option, Some, None, option_and_then, Result, Ok, Err}
use Rattle.memory_areas.specs.Access.{Aim, and_then, area_named, place_aimed, aim_of_pointer, pointed_in, read_bit, read_dword}
use Rattle.memory_areas.specs.Pointers.{with_offset}
use Rattle.memory_areas.specs.declared.place.AreaName.{AreaName}
use Rattle.memory_areas.specs.declared.place.AreaName.TheVariants as area
use Rattle.memory_areas.specs.declared.place.Place.{Place}
use Rattle.s7_base.specs.declared.outcome.Fault.{Fault}
use Rattle.s7_base.specs.declared.outcome.Fault.TheVariants.{AreaLength}
use Rattle.status_word.specs.StatusBits.{answer_to}
use Rattle.stl_tree.specs.AddressRegisters.{pointer_in}
use Rattle.stl_tree.specs.DataBlocks.{db_opened}
use Rattle.stl_tree.specs.Now.{Activation, Now, Effect, depth, with_registers, with_value}
use Rattle.stl_tree.specs.declared.program.BitArg.{BitArg}
use Rattle.stl_tree.specs.declared.program.BitArg.TheVariants as arg
use Rattle.stl_tree.specs.declared.program.Operand.{Operand}
use Rattle.stl_tree.specs.declared.program.Operand.TheVariants as operand

-- an operand that was found: its place, and the state after it was found
pub record OperandPlace : Type 0 where
  pub place : Place
  pub after : Now

-- the place of an area, by the data blocks that are open and the running activation
abbrev pub place_in : AreaName → ℕ → ℕ → Now → Place
place_in a byte x now =
    record { area = area_named a now.registers.db now.registers.di (depth now.activations); byte = byte; bit = x }

-- the aim of a pointer in a named area, and that of a pointer in its own area
abbrev pub aimed_in : AreaName → ℕ → Now → Aim
aimed_in a p now = pointed_in a p now.registers.db now.registers.di (depth now.activations)

abbrev pub aimed_by : ℕ → Now → Aim
aimed_by p now = aim_of_pointer p now.registers.db now.registers.di (depth now.activations)

-- the place that an access is aimed at, if its code has an area
abbrev pub found_at : Aim → Now → Result OperandPlace Fault
found_at aim now = and_then (place_aimed aim) (λ p. Ok (record { place = p; after = now }))

-- the place of a formal of the running activation; none where its call left it out
abbrev pub formal_place : ℕ → List Activation → Option Place
formal_place k [] = None
formal_place k (a ∷ waiting) = option_and_then (λ p. p) (slice_get a.formals k)

-- a formal that was found; one that has no place, as in no accepted program, is past the end of its area
abbrev pub found_formal : Option Place → Now → Result OperandPlace Fault
found_formal None now = Err AreaLength
found_formal (Some p) now = Ok (record { place = p; after = now })

-- the place that an operand names, or the first fault before it is found. A written place has none; one with the
-- number of its data block, as `DB5.DBX 0.0`, is found with that number in the DB register. A formal is what its
-- activation says. `M [MD 4]` is found by an access to the pointer first. `M [AR1,P#2.0]` takes byte and bit of an
-- address register, and `[AR1,P#2.0]` its area too, whose code may name none.
abbrev pub place_of_operand : Operand → Now → Result OperandPlace Fault
place_of_operand (operand.Direct a byte x) now = Ok (record { place = place_in a byte x now; after = now })
place_of_operand (operand.Opened n byte x) now =
    let after = with_registers (db_opened n) now in Ok (record { place = place_in area.Db byte x after; after = after })
place_of_operand (operand.Formal k) now = found_formal (formal_place k now.activations) now
place_of_operand (operand.ByMemory a pointer_area byte) now =
    and_then (read_dword (place_in pointer_area byte 0 now) now.memory) (λ p. found_at (aimed_in a p now) now)
place_of_operand (operand.ByRegister a r offset) now =
    found_at (aimed_in a (with_offset (pointer_in r now.registers) offset) now) now
place_of_operand (operand.Crossing r offset) now =
    found_at (aimed_by (with_offset (pointer_in r now.registers) offset) now) now

-- the effect by the place of an operand, in the state after it was found
abbrev pub with_place : Operand → Now → (Place → Now → Effect) → Effect
with_place o now effect = with_value (place_of_operand o now) (λ f. effect f.place f.after)

-- the effect by what a check tests: the bit of an operand, or the answer of the status word
abbrev pub with_checked : BitArg → Now → (Bool → Now → Effect) → Effect
with_checked (arg.At o) now effect =
    with_place o now (λ p after. with_value (read_bit p after.memory) (λ b. effect b after))
with_checked (arg.Flag t) now effect = effect (answer_to t now.registers.status) now
