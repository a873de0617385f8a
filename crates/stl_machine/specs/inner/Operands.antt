-- How operands are found, and how numbers are read at them.
use Rattle.std.specs.Prelude.{◌≡◌, ℕ, List, Some, Result, Ok, Err}
use Rattle.memory_areas.specs.Memory.{IsActivation}
use Rattle.memory_areas.specs.declared.place.Place.{Place}
use Rattle.s7_base.specs.declared.outcome.Fault.{Fault}
use Rattle.stl_machine.specs.declared.state.State.{State}
use Rattle.stl_machine.specs.inner.Views.{now_of}
use Rattle.stl_tree.specs.Now.{Activation, Effect, fault}
use Rattle.stl_tree.specs.Instructions.{on_registers}
use Rattle.stl_tree.specs.Operands.{OperandPlace, formal_place}
use Rattle.stl_tree.specs.Registers.{RegisterValues}
use Rattle.stl_tree.specs.declared.program.ArLoad.{ArLoad}
use Rattle.stl_tree.specs.declared.program.ArLoad.TheVariants as ar_load
use Rattle.stl_tree.specs.declared.program.ArStore.{ArStore}
use Rattle.stl_tree.specs.declared.program.ArStore.TheVariants as ar_store
use Rattle.stl_tree.specs.declared.program.BitArg.{BitArg}
use Rattle.stl_tree.specs.declared.program.BitArg.TheVariants as bit_arg
use Rattle.stl_tree.specs.declared.program.LoadArg.{LoadArg}
use Rattle.stl_tree.specs.declared.program.LoadArg.TheVariants as load
use Rattle.stl_tree.specs.declared.program.Op.{Op}
use Rattle.stl_tree.specs.declared.program.Op.TheVariants as op
use Rattle.stl_tree.specs.declared.program.OpenArg.{OpenArg}
use Rattle.stl_tree.specs.declared.program.OpenArg.TheVariants as open_arg
use Rattle.stl_tree.specs.declared.program.Operand.{Operand}
use Rattle.stl_tree.specs.declared.program.Operand.TheVariants as operand

-- an operand was found as its definition says, in an activation that exists and with this state after it
abbrev pub IsFound : Result OperandPlace Fault → Result Place Fault → State → Type 0
IsFound defined (Ok place) after =
    (defined ≡ Ok (record { place = place; after = now_of after })) × IsActivation place.area
IsFound defined (Err f) after = defined ≡ Err f

-- a number was found for any effect by which registers take it, with this state after it
abbrev pub IsTaken : ((ℕ → RegisterValues → RegisterValues) → Effect) → Result ℕ Fault → State → Type 0
IsTaken defined (Ok n) after =
    (row : ℕ → RegisterValues → RegisterValues) → defined row ≡ on_registers (row n) (now_of after)
IsTaken defined (Err f) after = (row : ℕ → RegisterValues → RegisterValues) → defined row ≡ fault f

-- an operand that names a formal has its place, in an activation that exists
abbrev pub HasPlaceOf : Operand → List Activation → Type 0
HasPlaceOf (operand.Formal k) activations =
    (p : Place) × (formal_place k activations ≡ Some p) × IsActivation p.area
HasPlaceOf other activations = Unit {0}

-- the operands of an instruction
abbrev pub HasPlaceInCheck : BitArg → List Activation → Type 0
HasPlaceInCheck (bit_arg.At o) activations = HasPlaceOf o activations
HasPlaceInCheck (bit_arg.Flag t) activations = Unit {0}

abbrev pub HasPlaceInLoad : LoadArg → List Activation → Type 0
HasPlaceInLoad (load.At o w) activations = HasPlaceOf o activations
HasPlaceInLoad (load.Constant c) activations = Unit {0}

abbrev pub HasPlaceInArLoad : ArLoad → List Activation → Type 0
HasPlaceInArLoad (ar_load.At o) activations = HasPlaceOf o activations
HasPlaceInArLoad other activations = Unit {0}

abbrev pub HasPlaceInArStore : ArStore → List Activation → Type 0
HasPlaceInArStore (ar_store.At o) activations = HasPlaceOf o activations
HasPlaceInArStore other activations = Unit {0}

abbrev pub HasPlaceInOpen : OpenArg → List Activation → Type 0
HasPlaceInOpen (open_arg.At o) activations = HasPlaceOf o activations
HasPlaceInOpen (open_arg.Number n) activations = Unit {0}

-- the formals that an instruction names have places
abbrev pub HasPlaces : Op → List Activation → Type 0
HasPlaces (op.Check c b) activations = HasPlaceInCheck b activations
HasPlaces (op.Assign o) activations = HasPlaceOf o activations
HasPlaces (op.Set o) activations = HasPlaceOf o activations
HasPlaces (op.Reset o) activations = HasPlaceOf o activations
HasPlaces (op.EdgeUp o) activations = HasPlaceOf o activations
HasPlaces (op.EdgeDown o) activations = HasPlaceOf o activations
HasPlaces (op.Load a) activations = HasPlaceInLoad a activations
HasPlaces (op.Transfer o w) activations = HasPlaceOf o activations
HasPlaces (op.LoadAr a from) activations = HasPlaceInArLoad from activations
HasPlaces (op.StoreAr a to) activations = HasPlaceInArStore to activations
HasPlaces (op.OpenDb d) activations = HasPlaceInOpen d activations
HasPlaces (op.OpenDi d) activations = HasPlaceInOpen d activations
HasPlaces other activations = Unit {0}
