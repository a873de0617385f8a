-- The frames that are kept, as activations, and what stands in them while a block is called.
use Rattle.std.specs.Prelude.{◌≡◌, ℕ, ◌<◌, ◌^◌, List, [], ◌∷◌, Option, Some, None, Result, Ok, Err}
use Rattle.memory_areas.specs.Access.{bits_wide}
use Rattle.memory_areas.specs.Areas.{Contents}
use Rattle.memory_areas.specs.Memory.{IsActivation}
use Rattle.memory_areas.specs.declared.place.Place.{Place}
use Rattle.s7_base.specs.declared.outcome.Fault.{Fault}
use Rattle.s7_base.specs.declared.word.Width.{Width}
use Rattle.block_calls.specs.declared.stack.Frame.{Frame}
use Rattle.stl_tree.specs.Now.{Activation, Now}
use Rattle.stl_tree.specs.Operands.{formal_place}
use Rattle.stl_tree.specs.Registers.{RegisterValues}
use Rattle.stl_tree.specs.declared.program.Actual.{Actual}
use Rattle.stl_tree.specs.declared.program.Actual.TheVariants as actual
use Rattle.stl_tree.specs.declared.program.Formal.{Formal}
use Rattle.stl_tree.specs.declared.program.Operand.{Operand}
use Rattle.stl_tree.specs.declared.program.Operand.TheVariants as operand

-- a frame as an activation
abbrev pub activation : Frame → Activation
activation f = record { block = f.block; at = f.at; instance = f.instance; db = f.db; di = f.di; formals = f.formals }

-- the state in which the actuals of a call are found; its open brackets do not matter
abbrev pub now_of : RegisterValues → Contents → List Activation → Now
now_of r m activations = record { registers = r; brackets = []; memory = m; activations = activations }

-- a formal of the running activation has a place
abbrev pub HasPlace : ℕ → List Activation → Type 0
HasPlace k activations = (p : Place) × (formal_place k activations ≡ Some p)

-- an operand may be given to a call: it is written, and a formal has a place
abbrev pub IsGivable : Operand → List Activation → Type 0
IsGivable (operand.Direct a byte x) activations = Unit {0}
IsGivable (operand.Opened n byte x) activations = Unit {0}
IsGivable (operand.Formal k) activations = HasPlace k activations
IsGivable other activations = ⊥

abbrev pub IsGivableActual : Actual → List Activation → Type 0
IsGivableActual actual.Missing activations = Unit {0}
IsGivableActual (actual.Constant c) activations = Unit {0}
IsGivableActual (actual.At o) activations = IsGivable o activations

-- the activation of a place, if there is one, exists
abbrev pub IsActivationIfGiven : Option Place → Type 0
IsActivationIfGiven None = Unit {0}
IsActivationIfGiven (Some p) = IsActivation p.area

-- places were found as their definition says, or the first fault
abbrev pub AreLocated : Result (List (Option Place)) Fault → Result Unit Fault → List (Option Place) → Type 0
AreLocated defined (Ok done) places = defined ≡ Ok places
AreLocated defined (Err f) places = defined ≡ Err f

-- a constant has the width of its formal
abbrev pub IsSmall : Width → Actual → Type 0
IsSmall w (actual.Constant c) = c < 2 ^ bits_wide w
IsSmall w other = Unit {0}

abbrev pub AreSmall : List Formal → List Actual → Type 0
AreSmall [] actuals = Unit {0}
AreSmall (f ∷ formals) [] = Unit {0}
AreSmall (f ∷ formals) (a ∷ actuals) = IsSmall f.width a × AreSmall formals actuals
