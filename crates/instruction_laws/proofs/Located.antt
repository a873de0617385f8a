-- Accesses meet the tests of `located`: at a place, by an aim, and through each operand.
use Rattle.std.proofs.Common.{◌≡◌, ℕ, List, Option, Some, None, Result, Ok, Err, refl}
use Rattle.memory_areas.specs.Access.{Aim, aim_of_place, and_then, bytes_there, fault_of, located, place_aimed, bytes_for_access, read_dword, unless}
use Rattle.memory_areas.specs.Areas.{Contents}
use Rattle.memory_areas.specs.Pointers.{with_offset}
use Rattle.memory_areas.specs.declared.place.Area.{Area}
use Rattle.memory_areas.specs.declared.place.AreaName.{AreaName}
use Rattle.memory_areas.specs.declared.place.AreaName.TheVariants as area
use Rattle.memory_areas.specs.declared.place.Place.{Place}
use Rattle.s7_base.specs.declared.outcome.Fault.{Fault}
use Rattle.s7_base.specs.declared.word.Width.{Width}
use Rattle.stl_tree.specs.AddressRegisters.{pointer_in}
use Rattle.stl_tree.specs.DataBlocks.{db_opened}
use Rattle.stl_tree.specs.Now.{Now, with_registers}
use Rattle.stl_tree.specs.Operands.{OperandPlace, aimed_by, aimed_in, formal_place, found_at, found_formal, place_in}
use Rattle.stl_tree.specs.declared.program.Operand.{Operand}
use Rattle.stl_tree.specs.declared.program.Operand.TheVariants as operand
use Rattle.instruction_laws.specs.InstructionLaws.{AccessesAreLocated}
use Rattle.instruction_laws.specs.Located.{OperandAim, aimed_and_located, found_and_reached, written_in}

-- At a place, by the fault that the tests give

tested : (fault : Option Fault) (p : Place) (bytes : List ℕ)
    → and_then (unless fault bytes) (λ (there : List ℕ). Ok p) ≡ and_then (unless fault (aim_of_place p)) place_aimed
tested None p bytes = refl
tested (Some f) p bytes = refl

place_located : (p : Place) (w : Width) (m : Contents) → and_then (bytes_for_access p w m) (λ bytes. Ok p) ≡ located (aim_of_place p) w m
place_located p w m = tested (fault_of (aim_of_place p) w m) p (bytes_there (Some p.area) m)

-- By an aim, and the state in which it is judged

abbrev found_there : Place → Now → OperandPlace
found_there p after = record { place = p; after = after }

abbrev aim_there : Aim → Now → OperandAim
aim_there aim after = record { aim = aim; after = after }

-- what was found, reached
abbrev reached_at : Width → OperandPlace → Result OperandPlace Fault
reached_at w f = and_then (bytes_for_access f.place w f.after.memory) (λ bytes. Ok f)

-- an aim, located
abbrev located_at : Width → Now → Aim → Result OperandPlace Fault
located_at w after aim = and_then (located aim w after.memory) (λ (p : Place). Ok (found_there p after))

tested_after : (fault : Option Fault) (p : Place) (bytes : List ℕ) (after : Now)
    → and_then (unless fault bytes) (λ (there : List ℕ). Ok (found_there p after))
    ≡ and_then (and_then (unless fault (aim_of_place p)) place_aimed) (λ (q : Place). Ok (found_there q after))
tested_after None p bytes after = refl
tested_after (Some f) p bytes after = refl

aim_located : (a : Option Area) (byte x : ℕ) (w : Width) (after : Now)
    → and_then (found_at (record { area = a; byte = byte; bit = x }) after) (reached_at w)
    ≡ located_at w after (record { area = a; byte = byte; bit = x })
aim_located None byte x w after = refl
aim_located (Some a) byte x w after =
    let p : Place = record { area = a; byte = byte; bit = x } in
    tested_after (fault_of (aim_of_place p) w after.memory) p (bytes_there (Some a) after.memory) after

-- through a pointer that was read, or that an access to it did not give
pointer_located : (read : Result ℕ Fault) (a : AreaName) (w : Width) (now : Now)
    → and_then (and_then read (λ (p : ℕ). found_at (aimed_in a p now) now)) (reached_at w)
    ≡ and_then (and_then read (λ (p : ℕ). Ok (aim_there (aimed_in a p now) now))) (λ (o : OperandAim). located_at w o.after o.aim)
pointer_located (Ok p) a w now = let aim : Aim = aimed_in a p now in aim_located aim.area aim.byte aim.bit w now
pointer_located (Err f) a w now = refl

-- Through each operand

operand_located : (o : Operand) (w : Width) (now : Now) → found_and_reached o w now ≡ aimed_and_located o w now
operand_located (operand.Direct a byte x) w now = let aim : Aim = written_in a byte x now in aim_located aim.area aim.byte aim.bit w now
operand_located (operand.Opened n byte x) w now =
    let after : Now = with_registers (db_opened n) now in
    let aim : Aim = written_in area.Db byte x after in
    aim_located aim.area aim.byte aim.bit w after
operand_located (operand.Formal k) w now = by (formal_place k now.activations)
  where
    by : (o : Option Place)
        → and_then (found_formal o now) (reached_at w)
        ≡ and_then (and_then (found_formal o now) (λ f. Ok (aim_there (aim_of_place f.place) now))) (λ (x : OperandAim). located_at w x.after x.aim)
    by None = refl
    by (Some p) = tested_after (fault_of (aim_of_place p) w now.memory) p (bytes_there (Some p.area) now.memory) now
operand_located (operand.ByMemory a pointer_area byte) w now = pointer_located (read_dword (place_in pointer_area byte 0 now) now.memory) a w now
operand_located (operand.ByRegister a r offset) w now =
    let aim : Aim = aimed_in a (with_offset (pointer_in r now.registers) offset) now in
    aim_located aim.area aim.byte aim.bit w now
operand_located (operand.Crossing r offset) w now =
    let aim : Aim = aimed_by (with_offset (pointer_in r now.registers) offset) now in
    aim_located aim.area aim.byte aim.bit w now

pub each_located : AccessesAreLocated
each_located = record { of_place = place_located; of_operand = operand_located }
