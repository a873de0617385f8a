-- States that fit: all that they hold is of the type that it is declared with. And that types are kept: a well
-- typed expression has a value of its type in such a state, and well typed statements lead from one such state
-- to others.
use Rattle.std.specs.Prelude.{◌≡◌, ℕ, true, Bool, ℤ, List, [], ◌∷◌, ◌++◌, map, slice_get, All, Contains, Option, Some, None, Ok}
use Rattle.memory_areas.specs.Access.{HoldsBytes}
use Rattle.memory_areas.specs.Areas.{Areas, IsMemoryOf}
use Rattle.s7_base.specs.declared.register.Reg.{Reg}
use Rattle.memory_areas.specs.declared.call.Call.{Call}
use Rattle.st_tree.specs.Calls.{calls_to}
use Rattle.st_tree.specs.Meaning.{Calls, Out, Normal, Exits, Continues, Returns, Faults, NoUnits, body_meaning}
use Rattle.st_tree.specs.Proper.{Proper}
use Rattle.st_tree.specs.StRun.{FitsSt, state_at_start, unit_called}
use Rattle.st_tree.specs.State.{Activation, State, type_of_register}
use Rattle.st_tree.specs.Value.{value}
use Rattle.st_tree.specs.Values.{Value, fit}
use Rattle.st_tree.specs.WellTyped.{are_well_typed, expression_type, head_of, is_call, unit_scope_in, type_inside}
use Rattle.st_tree.specs.declared.expr.Expr.{Expr}
use Rattle.st_tree.specs.declared.expr.StType.{StType}
use Rattle.st_tree.specs.declared.expr.Var.{Var}
use Rattle.st_tree.specs.declared.program.Local.{Local}
use Rattle.st_tree.specs.declared.program.Pou.{Pou}
use Rattle.st_tree.specs.declared.program.StProgram.{StProgram}
use Rattle.st_tree.specs.declared.program.Stmt.{Stmt}
use Rattle.st_tree.specs.declared.state.Reference.{Reference}
use Rattle.st_tree.specs.declared.state.Reference.TheVariants as reference

-- What fits

-- a value of a type: it says so, and the type leaves its number as it is
pub record IsOf (ty : StType) (v : Value) : Type 0 where
  pub type : v.ty ≡ ty
  pub number : fit ty v.n ≡ v.n

-- each register variable has a number of its type
abbrev pub RegistersFit : (Reg → ℤ) → Type 0
RegistersFit registers = (r : Reg) → fit (type_of_register r) (registers r) ≡ registers r

-- the locals that a unit declares; none where the unit does not exist
abbrev pub locals_declared : Option Pou → List Local
locals_declared None = []
locals_declared (Some unit) = unit.locals

-- the type of local i of unit d of those that run
abbrev pub local_type : List Pou → ℕ → ℕ → Option StType
local_type running d i = type_inside (slice_get (locals_declared (slice_get running d)) i)

-- the references that a formal of a type may have while some units wait: a register of the type, a local of the type
-- in one of them, or a place that is read in the type
abbrev pub StandsFor : List Pou → StType → Reference → Type 0
StandsFor waiting ty (reference.Register r) = type_of_register r ≡ ty
StandsFor waiting ty (reference.Local d i) = local_type waiting d i ≡ Some ty
StandsFor waiting ty (reference.Place p read_in) = read_in ≡ ty

-- two lists are equally long, and each two elements at one position have a property
abbrev pub Paired : {X Y : Type 0} → (X → Y → Type 0) → List X → List Y → Type 0
Paired R [] [] = Unit {0}
Paired R [] (y ∷ ys) = ⊥
Paired R (x ∷ xs) [] = ⊥
Paired R (x ∷ xs) (y ∷ ys) = R x y × Paired R xs ys

-- an activation fits of a unit for which some units wait: each local has a value of its type, and each formal a
-- reference of its type
pub record ActivationFits (waiting : List Pou) (unit : Pou) (a : Activation) : Type 0 where
  pub locals : Paired (λ (l : Local) v. IsOf l.ty v) unit.locals a.locals
  pub formals : Paired (λ (f : Local) r. StandsFor waiting f.ty r) unit.formals a.formals

-- the activations fit of some units, each waiting for the next, after those that wait for the first
abbrev pub ActivationsFit : List Pou → List Pou → List Activation → Type 0
ActivationsFit waiting [] [] = Unit {0}
ActivationsFit waiting [] (a ∷ rest) = ⊥
ActivationsFit waiting (unit ∷ units) [] = ⊥
ActivationsFit waiting (unit ∷ units) (a ∷ rest) =
    ActivationFits waiting unit a × ActivationsFit (waiting ++ unit ∷ []) units rest

-- a state fits in which a unit of a tree runs, and some wait for it: its registers, its memory and its activations
-- fit, one of each of these units
pub record Fits (tree : StProgram) (waiting : List Pou) (unit : Pou) (s : State) : Type 0 where
  pub units : All (Contains tree.pous) (waiting ++ unit ∷ [])
  pub registers : RegistersFit s.registers
  pub memory : HoldsBytes s.memory
  pub activations : ActivationsFit [] (waiting ++ unit ∷ []) s.activations

-- a state fits, whatever unit runs and whichever wait
abbrev pub FitsSomewhere : StProgram → State → Type 0
FitsSomewhere tree s = (waiting : List Pou) × (unit : Pou) × Fits tree waiting unit s

-- the end of statements of a unit is a state that fits: in that unit, or in one that it called where a fault or the
-- end of the units of work stops it there
abbrev pub EndsFit : StProgram → List Pou → Pou → Out → Type 0
EndsFit tree waiting unit (Normal units s) = Fits tree waiting unit s
EndsFit tree waiting unit (Exits units s) = Fits tree waiting unit s
EndsFit tree waiting unit (Continues units s) = Fits tree waiting unit s
EndsFit tree waiting unit (Returns units s) = Fits tree waiting unit s
EndsFit tree waiting unit (Faults f s) = FitsSomewhere tree s
EndsFit tree waiting unit (NoUnits s) = FitsSomewhere tree s

-- Types are kept

-- the value of a well typed expression is of its type
abbrev pub ValuesFit : Type 0
ValuesFit =
    (tree : StProgram) (waiting : List Pou) (unit : Pou) (s : State) (e : Expr) (ty : StType) (v : Value)
    → Fits tree waiting unit s → expression_type (unit_scope_in tree unit) e ≡ Some ty → value tree.globals e s ≡ Ok v
    → IsOf ty v

-- what calls do leaves states that fit, where each formal is given a variable of its type
abbrev pub CallsFit : StProgram → Calls → Type 0
CallsFit tree calls =
    (n : ℕ) (actuals : List Var) (waiting : List Pou) (unit : Pou) (units : ℕ) (s : State)
    → is_call (unit_scope_in tree unit) (slice_get (map head_of tree.pous) n) actuals ≡ true → Fits tree waiting unit s
    → EndsFit tree waiting unit (calls n actuals units s)

-- well typed statements leave states that fit, where their calls do
abbrev pub StatementsFit : Type 0
StatementsFit =
    (tree : StProgram) (calls : Calls) (waiting : List Pou) (unit : Pou) (inside : Bool) (body : List Stmt)
    (units : ℕ) (s : State)
    → CallsFit tree calls → are_well_typed (unit_scope_in tree unit) inside body ≡ true → Fits tree waiting unit s
    → EndsFit tree waiting unit (body_meaning tree.globals calls body units s)

-- the calls of a proper tree leave states that fit
abbrev pub ProperCallsFit : Type 0
ProperCallsFit = (tree : StProgram) (deep : ℕ) → Proper tree → CallsFit tree (calls_to deep tree)

-- a call from outside that fits a proper tree begins in a state that fits
abbrev pub StartFits : Type 0
StartFits =
    (tree : StProgram) (call : Call) (unit : Pou) (areas : Areas)
    → Proper tree → unit_called call.block tree.pous ≡ Some unit → FitsSt tree call → IsMemoryOf tree.dbs areas
    → Fits tree [] unit (state_at_start unit call areas)

-- each state of the run of a call that fits a proper tree fits, after some units of work
abbrev pub RunsFit : Type 0
RunsFit =
    (tree : StProgram) (call : Call) (unit : Pou) (areas : Areas) (units : ℕ)
    → Proper tree → unit_called call.block tree.pous ≡ Some unit → FitsSt tree call → IsMemoryOf tree.dbs areas
    → EndsFit tree [] unit
    (body_meaning tree.globals (calls_to units tree) unit.body units (state_at_start unit call areas))
