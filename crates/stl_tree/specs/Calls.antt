-- Calls inside a program. How a call finds its actuals, what a block finds when it begins, and what an instance gives
-- back when its block ends.
-- Held against: the manual's chapter 'Program Control', and this project's own calls.
use Rattle.std.specs.Prelude.{ℕ, ◌+◌, ◌*◌, Bool, true, false, ◌==◌, if◌then◌else◌, List, [], ◌∷◌, length, slice_get, Option, Some, None, Result, Ok, Err}
use Rattle.memory_areas.specs.Access.{aim_of_place, and_then, fault_of, unless}
use Rattle.memory_areas.specs.Areas.{Contents, with_zero_activation}
use Rattle.memory_areas.specs.declared.place.Area.TheVariants as area
use Rattle.memory_areas.specs.declared.place.Place.{Place}
use Rattle.s7_base.specs.declared.outcome.Fault.{Fault}
use Rattle.s7_base.specs.declared.word.Width.{Width}
use Rattle.stl_tree.specs.Accumulators.{read_number, write_number}
use Rattle.stl_tree.specs.Now.{Activation, Now}
use Rattle.stl_tree.specs.Operands.{place_of_operand}
use Rattle.stl_tree.specs.declared.program.Actual.{Actual}
use Rattle.stl_tree.specs.declared.program.Actual.TheVariants as actual
use Rattle.stl_tree.specs.declared.program.Block.{Block}
use Rattle.stl_tree.specs.declared.program.BlockCall.{BlockCall}
use Rattle.stl_tree.specs.declared.program.Formal.{Formal}
use Rattle.stl_tree.specs.declared.program.Mode.{Mode}
use Rattle.stl_tree.specs.declared.program.Mode.TheVariants as mode
use Rattle.stl_tree.specs.declared.program.Operand.{Operand}
use Rattle.stl_tree.specs.declared.program.Operand.TheVariants as operand

-- Actuals

-- the formals of a block, none where it does not exist
abbrev pub formals_of : Option Block → List Formal
formals_of None = []
formals_of (Some block) = block.formals

-- where a constant stands that a call gives to the formal at a position: each formal of an activation has four bytes
abbrev pub cell_of : ℕ → ℕ → Place
cell_of depth k = record { area = area.Cell depth; byte = 4 * k; bit = 0 }

-- the place of an actual, by that of its operand, if an access to it has no fault
abbrev pub tested_place : Width → Place → Contents → Result (Option Place) Fault
tested_place w p m = unless (fault_of (aim_of_place p) w m) (Some p)

-- the place of an operand that is given to a call. A formal that is given on passes its place without a test of its
-- own. What finding an operand does to the state is dropped, so `DB5.DBW 0` leaves the DB register as it is
abbrev pub given_place : Width → Operand → Now → Result (Option Place) Fault
given_place w (operand.Formal k) now = and_then (place_of_operand (operand.Formal k) now) (λ f. Ok (Some f.place))
given_place w o now = and_then (place_of_operand o now) (λ f. tested_place w f.place now.memory)

-- the place of the actual of the formal at a position, in a call of an activation with this number
abbrev pub actual_place : ℕ → ℕ → Width → Actual → Now → Result (Option Place) Fault
actual_place depth k w actual.Missing now = Ok None
actual_place depth k w (actual.Constant c) now = Ok (Some (cell_of depth k))
actual_place depth k w (actual.At o) now = given_place w o now

-- the places of the actuals of some formals, from the one at a position on: the first fault is that of the call
abbrev pub actual_places : ℕ → ℕ → List Formal → List Actual → Now → Result (List (Option Place)) Fault
actual_places depth k [] actuals now = Ok []
actual_places depth k (f ∷ formals) [] now = Ok []
actual_places depth k (f ∷ formals) (a ∷ actuals) now =
    and_then (actual_place depth k f.width a now)
    (λ p. and_then (actual_places depth (k + 1) formals actuals now) (λ more. Ok (p ∷ more)))

-- the memory with the constant of the formal at a position
abbrev pub with_constant : ℕ → ℕ → Width → Actual → Contents → Result Contents Fault
with_constant depth k w (actual.Constant c) m = write_number w (cell_of depth k) c m
with_constant depth k w other m = Ok m

-- the memory with the constants among the actuals of some formals, from the one at a position on
abbrev pub with_constants : ℕ → ℕ → List Formal → List Actual → Contents → Result Contents Fault
with_constants depth k [] actuals m = Ok m
with_constants depth k (f ∷ formals) [] m = Ok m
with_constants depth k (f ∷ formals) (a ∷ actuals) m =
    and_then (with_constant depth k f.width a m) (with_constants depth (k + 1) formals actuals)

-- Instances

-- a formal takes its value from the actual when its block begins
abbrev pub is_taken : Mode → Bool
is_taken mode.Input = true
is_taken mode.Output = false
is_taken mode.InOut = true

-- a formal gives its value to the actual when its block has ended
abbrev pub is_given_back : Mode → Bool
is_given_back mode.Input = false
is_given_back mode.Output = true
is_given_back mode.InOut = true

-- the place of a formal in an instance
abbrev pub place_in_instance : ℕ → Formal → Place
place_in_instance instance f = record { area = area.Db instance; byte = f.byte; bit = f.bit }

-- the memory with the number of a width at one place copied to another
abbrev pub with_copy : Width → Place → Place → Contents → Result Contents Fault
with_copy w from to m = and_then (read_number w from m) (λ n. write_number w to n m)

-- the memory after an actual was copied into an instance, where it is there and its formal takes it
abbrev pub copied_in : ℕ → Formal → Option Place → Contents → Result Contents Fault
copied_in instance f None m = Ok m
copied_in instance f (Some p) m =
    if is_taken f.mode then with_copy f.width p (place_in_instance instance f) m else Ok m

-- the memory after a formal was copied back to its actual
abbrev pub copied_back : ℕ → Formal → Option Place → Contents → Result Contents Fault
copied_back instance f None m = Ok m
copied_back instance f (Some p) m =
    if is_given_back f.mode then with_copy f.width (place_in_instance instance f) p m else Ok m

-- the memory after a copy for each formal with a place, one after another
abbrev pub all_copied :
    (Formal → Option Place → Contents → Result Contents Fault) → List Formal → List (Option Place) → Contents
    → Result Contents Fault
all_copied copy [] places m = Ok m
all_copied copy (f ∷ formals) [] m = Ok m
all_copied copy (f ∷ formals) (p ∷ places) m = and_then (copy f p m) (all_copied copy formals places)

-- the memory after an instance, if there is one, took its actuals
abbrev pub after_taking : ℕ → List Formal → List (Option Place) → Contents → Result Contents Fault
after_taking instance formals places m =
    if instance == 0 then Ok m else all_copied (copied_in instance) formals places m

-- the memory after an instance, if there is one, gave its formals back
abbrev pub after_giving_back : ℕ → List Formal → List (Option Place) → Contents → Result Contents Fault
after_giving_back instance formals places m =
    if instance == 0 then Ok m else all_copied (copied_back instance) formals places m

-- Entering and leaving

-- the activations, of which the running one continues at a position
abbrev pub going_on_at : ℕ → List Activation → List Activation
going_on_at to [] = []
going_on_at to (a ∷ waiting) = record a { at = to } ∷ waiting

-- the activations, of which the running one continues after its instruction
abbrev pub going_on : List Activation → List Activation
going_on [] = []
going_on (a ∷ waiting) = record a { at = a.at + 1 } ∷ waiting

-- the DI register where a block is entered: its instance, where it has one
abbrev pub instance_or : ℕ → ℕ → ℕ
instance_or instance di = if instance == 0 then di else instance

-- the state in which a called block begins, whose actuals have these places, with this memory: the DB and the DI
-- register are put back when it ends, and its caller continues after the call
abbrev pub with_block : BlockCall → List (Option Place) → Contents → Now → Now
with_block call places m now =
    record now {
      registers = record now.registers { di = instance_or call.instance now.registers.di };
      memory = m;
      activations =
          record {
            block = call.block;
            at = 0;
            instance = call.instance;
            db = now.registers.db;
            di = now.registers.di;
            formals = places;
          }
          ∷ going_on now.activations;
    }

-- the state after a block with these formals was called, or the first fault of an actual. All actuals are found before
-- anything is copied; the local data of the new activation is zero, and its constants are in their cells; then an
-- instance takes its actuals
abbrev pub after_call : List Formal → BlockCall → Now → Result Now Fault
after_call formals call now =
    let depth = length now.activations in
    and_then (actual_places depth 0 formals call.actuals now)
    (λ places. and_then (with_constants depth 0 formals call.actuals (with_zero_activation depth now.memory))
    (λ m. and_then (after_taking call.instance formals places m)
    (λ taken. Ok (with_block call places taken now))))

-- the state after a block with these formals has ended, and the one that called it, the first of some activations,
-- continues: an instance gives its formals back, and the DB and the DI register are put back
abbrev pub after_end_of : List Formal → Activation → List Activation → Now → Result Now Fault
after_end_of formals done waiting now =
    and_then (after_giving_back done.instance formals done.formals now.memory)
    (λ m. Ok (record now {
      registers = record now.registers { db = done.db; di = done.di };
      memory = m;
      activations = waiting;
    }))
