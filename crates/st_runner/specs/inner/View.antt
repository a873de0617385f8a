-- The runner's registers, activations and memory as the state of a run.
use Rattle.std.specs.Prelude.{◌≡◌, ℕ, ◌+◌, ◌<◌, ◌≤◌, ℤ, pos, List, [], ◌∷◌, get_or, length, map, slice_get, vec_capacity, IsOk, Result, Ok, Err}
use Rattle.memory_areas.specs.Memory.{IsActivation}
use Rattle.memory_areas.specs.declared.sizes.TheConstants.{ACTIVATIONS}
use Rattle.s7_base.specs.RegSet.{place}
use Rattle.s7_base.specs.declared.outcome.Fault.{Fault}
use Rattle.s7_base.specs.declared.register.Reg.{Reg}
use Rattle.st_runner.specs.declared.registers.Registers.{Registers}
use Rattle.st_runner.specs.declared.state.Activation.{Activation as Kept}
use Rattle.st_runner.specs.declared.state.State.{State as RunnerState}
use Rattle.st_tree.specs.State.{Activation, State, locals_of, there, with_local}
use Rattle.st_tree.specs.declared.expr.Var.{Var}
use Rattle.st_tree.specs.declared.program.Pou.{Pou}
use Rattle.st_tree.specs.declared.state.Reference.{Reference}
use Rattle.st_tree.specs.declared.state.Reference.TheVariants as reference
use Rattle.st_tree.specs.declared.state.Value.{Value}

-- the number of each register
abbrev pub numbers_of : Registers → Reg → ℤ
numbers_of r q = get_or r.numbers (place q) (pos 0)

-- an activation as the meaning sees it
abbrev pub activation_view : Kept → Activation
activation_view a = record { locals = a.locals.items; formals = a.formals.items }

-- what the runner keeps, as the state of a run
abbrev pub state_of : RunnerState → State
state_of s =
    record {
      memory = s.memory;
      registers = numbers_of s.registers;
      activations = map activation_view s.activations.items;
    }

-- a change gave the state that it should; one that is refused leaves the state as it was
abbrev pub Changes : Result State Fault → Result (Unit {0}) Fault → State → State → Type 0
Changes defined (Ok done) before after = defined ≡ Ok after
Changes defined (Err f) before after = (defined ≡ Err f) × (after ≡ before)

-- an activation has a local
abbrev pub IsLocal : List Kept → ℕ → ℕ → Type 0
IsLocal activations d i = i < length (locals_of (slice_get (map activation_view activations) d))

-- a local of an activation took a value; one that does not exist has a fault, and nothing changed
abbrev pub HasLocal : ℕ → ℕ → Value → Result (Unit {0}) Fault → List Activation → List Activation → Type 0
HasLocal d i v (Ok done) before after =
    IsOk (there (slice_get (locals_of (slice_get before d)) i)) × (after ≡ with_local d i v before)
HasLocal d i v (Err f) before after = (there (slice_get (locals_of (slice_get before d)) i) ≡ Err f) × (after ≡ before)

-- What is kept from step to step

-- as many activations run as before
abbrev pub SameShape : RunnerState → RunnerState → Type 0
SameShape before after = length after.activations.items ≡ length before.activations.items

-- a reference to a place in memory names one of the eight activations, if any
abbrev pub IsReachable : Reference → Type 0
IsReachable (reference.Register r) = Unit {0}
IsReachable (reference.Local d i) = Unit {0}
IsReachable (reference.Place p ty) = IsActivation p.area

-- each of some references can be reached
abbrev pub AreReachable : List Reference → Type 0
AreReachable [] = Unit {0}
AreReachable (r ∷ rest) = IsReachable r × AreReachable rest

-- the references of the formals of each activation can be reached
abbrev pub AreHeld : List Kept → Type 0
AreHeld [] = Unit {0}
AreHeld (a ∷ rest) = AreReachable a.formals.items × AreHeld rest

-- one activation runs at least, there are eight at most, and the references of their formals can be reached
pub record IsRunning (s : RunnerState) : Type 0 where
  pub some : 0 < length s.activations.items
  pub few : length s.activations.items ≤ ACTIVATIONS
  pub held : AreHeld s.activations.items

-- an activation has room for this many locals and formals, and its formals can be reached
pub record IsFrame (locals formals : ℕ) (a : Kept) : Type 0 where
  pub locals_room : locals ≤ vec_capacity a.locals
  pub formals_room : formals ≤ vec_capacity a.formals
  pub reachable : AreReachable a.formals.items

-- each of some activations has room for this many locals and formals, and its formals can be reached
abbrev pub AreFrames : ℕ → ℕ → List Kept → Type 0
AreFrames l f [] = Unit {0}
AreFrames l f (a ∷ rest) = IsFrame l f a × AreFrames l f rest

-- one activation runs at least, and with those that wait to be used there are eight
pub record IsSound (locals formals : ℕ) (s : RunnerState) : Type 0 where
  pub running : AreFrames locals formals s.activations.items
  pub spare : AreFrames locals formals s.spare.items
  pub some : 0 < length s.activations.items
  pub all : length s.activations.items + length s.spare.items ≡ ACTIVATIONS
  pub room : ACTIVATIONS ≤ vec_capacity s.activations
  pub spare_room : ACTIVATIONS ≤ vec_capacity s.spare

-- one more activation may run, and has room for the locals of a unit and for this many actuals
pub record CanEnter (locals formals : ℕ) (s : RunnerState) (unit : Pou) (actuals : List Var) : Type 0 where
  pub sound : IsSound locals formals s
  pub few : length s.activations.items < ACTIVATIONS
  pub locals_fit : length unit.locals ≤ locals
  pub actuals_fit : length actuals ≤ formals

-- a unit may be entered with these actuals: there is room for one more activation with its locals and
-- formals
abbrev pub MayEnter : RunnerState → Pou → List Var → Type 0
MayEnter s unit actuals = (locals : ℕ) × (formals : ℕ) × CanEnter locals formals s unit actuals

-- one activation may end
abbrev pub MayLeave : RunnerState → Type 0
MayLeave s = (locals : ℕ) × (formals : ℕ) × IsSound locals formals s × (1 < length s.activations.items)

-- an activation was added, but for a fault
abbrev pub IsDeeper : Result (Unit {0}) Fault → RunnerState → RunnerState → Type 0
IsDeeper (Ok done) before after = length after.activations.items ≡ length before.activations.items + 1
IsDeeper (Err f) before after = length after.activations.items ≡ length before.activations.items

-- the state is sound, with room for some locals and formals
abbrev pub MayRun : RunnerState → Type 0
MayRun s = (locals : ℕ) × (formals : ℕ) × IsSound locals formals s
