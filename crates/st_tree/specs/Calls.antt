-- What calls in a text do. Each takes a unit of work, then locates its actuals, then runs the called unit.
-- Held against: IEC 61131-3, 'Functions'.
use Rattle.std.specs.Prelude.{ℕ, zero, suc, pos, List, [], ◌∷◌, ◌++◌, length, map, take, slice_get, Option, Some, None, Result, Ok, Err}
use Rattle.memory_areas.specs.Access.{and_then, aim_of_place, fault_of, unless}
use Rattle.memory_areas.specs.Areas.{with_zero_activation}
use Rattle.s7_base.specs.declared.outcome.Fault.{Fault}
use Rattle.st_tree.specs.Meaning.{Out, Normal, Exits, Continues, Returns, Faults, NoUnits, Sem, Calls, body_meaning}
use Rattle.st_tree.specs.State.{Activation, State, depth, reference_of}
use Rattle.st_tree.specs.Values.{Value, width_at}
use Rattle.st_tree.specs.declared.expr.Var.{Var}
use Rattle.st_tree.specs.declared.expr.Var.TheVariants as var
use Rattle.st_tree.specs.declared.program.Local.{Local}
use Rattle.st_tree.specs.declared.program.Located.{Located}
use Rattle.st_tree.specs.declared.program.Pou.{Pou}
use Rattle.st_tree.specs.declared.program.StProgram.{StProgram}
use Rattle.st_tree.specs.declared.state.Reference.{Reference}
use Rattle.st_tree.specs.declared.state.Reference.TheVariants as reference

-- Actuals

-- the fault of an access to the place of a reference; nothing is read, and a register or a local has none
abbrev pub check_access : Reference → State → Result Reference Fault
check_access (reference.Register r) s = Ok (reference.Register r)
check_access (reference.Local d i) s = Ok (reference.Local d i)
check_access (reference.Place p ty) s = unless (fault_of (aim_of_place p) (width_at ty) s.memory) (reference.Place p ty)

-- the reference of an actual, once located; a formal passes its reference on
abbrev pub located_actual : List Located → Var → State → Result Reference Fault
located_actual globals (var.Formal i) s = reference_of globals (var.Formal i) s
located_actual globals v s = and_then (reference_of globals v s) (λ r. check_access r s)

-- the references of the actuals of a call, located in their order
abbrev pub located_actuals : List Located → List Var → State → Result (List Reference) Fault
located_actuals globals [] s = Ok []
located_actuals globals (v ∷ rest) s =
    and_then (located_actual globals v s) (λ r. and_then (located_actuals globals rest s) (λ more. Ok (r ∷ more)))

-- Units

-- locals begin as zero, FALSE for a BOOL
abbrev pub zero_of : Local → Value
zero_of local = record { ty = local.ty; n = pos 0 }

-- an activation of a unit at its start
abbrev pub activation_of : Pou → List Reference → Activation
activation_of unit formals = record { locals = map zero_of unit.locals; formals = formals }

-- the state in which a called unit begins: one more activation runs, and its local data is zero
abbrev pub state_on_entry : Pou → List Reference → State → State
state_on_entry unit formals s =
    record s {
      memory = with_zero_activation (length s.activations) s.memory;
      activations = s.activations ++ activation_of unit formals ∷ [];
    }

-- the state after a call: the last activation is removed
abbrev pub left : State → State
left s = record s { activations = take (depth s) s.activations }

-- the end of a unit; RETURN ends it, and so do EXIT and CONTINUE, which are in loops alone
abbrev pub after_unit : Out → Out
after_unit (Normal units s) = Normal units (left s)
after_unit (Exits units s) = Normal units (left s)
after_unit (Continues units s) = Normal units (left s)
after_unit (Returns units s) = Normal units (left s)
after_unit (Faults f s) = Faults f s
after_unit (NoUnits s) = NoUnits s

-- what a unit does whose formals have these references: one that exists is entered; one that does not, as in no
-- proper tree, never ends
abbrev pub unit_step : StProgram → Calls → Option Pou → List Reference → Sem
unit_step tree calls None formals units s = NoUnits s
unit_step tree calls (Some unit) formals units s =
    after_unit (body_meaning tree.globals calls unit.body units (state_on_entry unit formals s))

-- Calls

-- what is done with the references of the actuals of a call, or the fault of locating them
abbrev pub enter_with : (List Reference → Sem) → Result (List Reference) Fault → Sem
enter_with enter (Ok formals) units s = enter formals units s
enter_with enter (Err f) units s = Faults f s

-- a call of a unit takes a unit of work, then locates its actuals, then enters; the calls in the unit are
-- given
abbrev pub unit_call : StProgram → Calls → ℕ → List Var → Sem
unit_call tree calls n actuals zero s = NoUnits s
unit_call tree calls n actuals (suc units) s =
    enter_with (unit_step tree calls (slice_get tree.pous n)) (located_actuals tree.globals actuals s) units s

-- calls of the units of a text that nest at most so deep. Since each call takes a unit, calls within some units nest
-- no deeper than there are units, and a larger depth changes nothing.
abbrev pub calls_to : ℕ → StProgram → Calls
calls_to zero tree n actuals units s = NoUnits s
calls_to (suc deep) tree n actuals units s = unit_call tree (calls_to deep tree) n actuals units s
