-- What an operand is aimed at, and its access put to the tests of `located`.
use Rattle.std.specs.Prelude.{ℕ, Result, Ok}
use Rattle.memory_areas.specs.Access.{Aim, aim_of_operand, aim_of_place, and_then, bytes_for_access, located, read_dword}
use Rattle.memory_areas.specs.Pointers.{with_offset}
use Rattle.memory_areas.specs.declared.place.AreaName.{AreaName}
use Rattle.memory_areas.specs.declared.place.AreaName.TheVariants as area
use Rattle.s7_base.specs.declared.outcome.Fault.{Fault}
use Rattle.s7_base.specs.declared.word.Width.{Width}
use Rattle.stl_tree.specs.AddressRegisters.{pointer_in}
use Rattle.stl_tree.specs.DataBlocks.{db_opened}
use Rattle.stl_tree.specs.Now.{Now, depth, with_registers}
use Rattle.stl_tree.specs.Operands.{OperandPlace, aimed_by, aimed_in, formal_place, found_formal, place_in, place_of_operand}
use Rattle.stl_tree.specs.declared.program.Operand.{Operand}
use Rattle.stl_tree.specs.declared.program.Operand.TheVariants as operand

-- what an operand is aimed at, and the state in which its access is judged
pub record OperandAim : Type 0 where
  pub aim : Aim
  pub after : Now

-- a written area, byte and bit, by the data blocks that are open and the running activation
abbrev pub written_in : AreaName → ℕ → ℕ → Now → Aim
written_in a byte x now = aim_of_operand a byte x now.registers.db now.registers.di (depth now.activations)

-- the aim of an operand. `DB5.DBX 0.0` is judged with its data block open; a formal is aimed at its place; `M [MD 4]`
-- reads its pointer first, by an access of its own, which may have a fault; `M [AR1,P#2.0]` takes byte and bit of an
-- address register, and `[AR1,P#2.0]` its area too, whose code may name none
abbrev pub aimed_at : Operand → Now → Result OperandAim Fault
aimed_at (operand.Direct a byte x) now = Ok (record { aim = written_in a byte x now; after = now })
aimed_at (operand.Opened n byte x) now =
    let after = with_registers (db_opened n) now in Ok (record { aim = written_in area.Db byte x after; after = after })
aimed_at (operand.Formal k) now =
    and_then (found_formal (formal_place k now.activations) now)
    (λ f. Ok (record { aim = aim_of_place f.place; after = now }))
aimed_at (operand.ByMemory a pointer_area byte) now =
    and_then (read_dword (place_in pointer_area byte 0 now) now.memory)
    (λ p. Ok (record { aim = aimed_in a p now; after = now }))
aimed_at (operand.ByRegister a r offset) now =
    Ok (record { aim = aimed_in a (with_offset (pointer_in r now.registers) offset) now; after = now })
aimed_at (operand.Crossing r offset) now =
    Ok (record { aim = aimed_by (with_offset (pointer_in r now.registers) offset) now; after = now })

-- an access to an operand by `located`: the aim is tested by all tests in their order
abbrev pub aimed_and_located : Operand → Width → Now → Result OperandPlace Fault
aimed_and_located o w now =
    and_then (aimed_at o now)
    (λ a. and_then (located a.aim w a.after.memory) (λ p. Ok (record { place = p; after = a.after })))

-- an access to an operand as a run does it: the place is found, and then reached, as by each read and write of it
abbrev pub found_and_reached : Operand → Width → Now → Result OperandPlace Fault
found_and_reached o w now =
    and_then (place_of_operand o now) (λ f. and_then (bytes_for_access f.place w f.after.memory) (λ bytes. Ok f))
