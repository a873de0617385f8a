-- What is promised of the statements of calls: they do what entering a block does, and behind it what leaving it does.
use Rattle.std.specs.Prelude.{◌≡◌, ℕ, ◌+◌, ◌*◌, ◌≤◌, ◌<◌, ◌==◌, true, false, not, if◌then◌else◌, List, [], ◌∷◌, ◌++◌, length, map, slice_get, All, Some, Result, Ok, Err}
use Rattle.std.specs.List.{sum_by}
use Rattle.graph_rules.specs.Divisors.{IsSureDivisor, divisors_in}
use Rattle.graph_rules.specs.Plain.{AreSteps, IsGivenOn}
use Rattle.graph_rules.specs.Runs.{AreOfRun, bodies_in, written_by_more}
use Rattle.memory_areas.specs.Areas.{AreBlocks, Contents}
use Rattle.memory_areas.specs.declared.data_block.DataBlock.{DataBlock}
use Rattle.memory_areas.specs.declared.sizes.TheConstants.{ACTIVATIONS}
use Rattle.s7_base.specs.declared.outcome.Fault.{Fault}
use Rattle.s7_base.specs.declared.register.Reg.{Reg}
use Rattle.status_word.specs.StatusBits.{after_end}
use Rattle.stl_tree.specs.Accepted.{AreActuals, IsBlockOpened, LiesInInstance, Widths}
use Rattle.stl_tree.specs.Calls.{after_call, after_end_of, going_on}
use Rattle.stl_tree.specs.Jumps.{after_asking}
use Rattle.stl_tree.specs.Now.{Activation, Now, with_status}
use Rattle.stl_tree.specs.Reads.{reads_of}
use Rattle.stl_tree.specs.declared.program.BlockCall.{BlockCall}
use Rattle.stl_tree.specs.declared.program.Formal.{Formal}
use Rattle.stl_tree.specs.declared.program.Op.TheVariants as op
use Rattle.st_tree.specs.BodyParts.{calls_in, expressions_in, reads_in, statements_in}
use Rattle.st_tree.specs.Calls.{enter_with, left, located_actuals, state_on_entry}
use Rattle.st_tree.specs.Depth.{deepest}
use Rattle.st_tree.specs.Meaning.{Calls, Out, Sem, body_meaning, then_do}
use Rattle.st_tree.specs.Nesting.{body_nesting}
use Rattle.st_tree.specs.State.{State, own_of}
use Rattle.st_tree.specs.Values.{type_of_width}
use Rattle.st_tree.specs.WellTyped.{Head, UnitScope, are_well_typed, is_seen}
use Rattle.st_tree.specs.declared.expr.StType.{StType}
use Rattle.st_tree.specs.declared.expr.Var.{Var}
use Rattle.st_tree.specs.declared.program.Local.{Local}
use Rattle.st_tree.specs.declared.program.Located.{Located}
use Rattle.st_tree.specs.declared.program.Pou.{Pou}
use Rattle.st_tree.specs.declared.program.Stmt.{Stmt}
use Rattle.st_tree.specs.declared.state.Reference.{Reference}
use Rattle.call_templates.specs.Calls.{call_if_of, call_of, one_if_given, types_of_call, types_of_call_if}
use Rattle.template_parts.specs.DoesInstruction.{Leads, Stops}
use Rattle.template_parts.specs.Nodes.{nodes_in}
use Rattle.template_parts.specs.Reading.{EachRegister, IsAmong}
use Rattle.template_parts.specs.Related.{Frames, Related, Waiting}
use Rattle.template_parts.specs.Templates.{AreInOrder, AreTyped, HasFormals, IsLow}

-- Entering and leaving

-- what a unit does whose formals have these references, by its number
abbrev pub Entering : Type 0
Entering = ℕ → List Reference → Sem

-- a call locates its actuals, then enters the unit
abbrev pub calls_by : List Located → Entering → Calls
calls_by globals enter n actuals units s = enter_with (enter n) (located_actuals globals actuals s) units s

-- the frames of the calling block when it continues
abbrev pub frames_on : Frames → Frames
frames_on frames = record frames { blocks = going_on frames.blocks }

-- the frames of a block that is called, whose formals have these widths, while one more unit waits
abbrev pub frames_inside : Frames → Waiting → Widths → Activation → Frames
frames_inside frames waits formals called =
    record {
      blocks = called ∷ going_on frames.blocks;
      waiting = frames.waiting ++ waits ∷ [];
      formals = formals;
      dbs = frames.dbs;
    }

-- what follows the unit once it has ended: where the block ends too, in a related state, its formals are given back,
-- and the statements lead to a state that is related to the one in which the calling block continues
abbrev pub LeadsBehind : Sem → ℕ → Frames → Frames → State → List Formal → Activation → Type 0
LeadsBehind more used inside frames s formals called =
    (units : ℕ) (done : Now) (t : State) → Related inside done t
    → (after : Now) × (after_end_of formals called (going_on frames.blocks) done ≡ Ok after)
    × Leads (more units (left t)) units used (frames_on frames) s after

-- statements ended by entering a unit, as the program enters its block; with what follows the unit
pub record Enters (ended : Out) (enter : Entering) (units used unit : ℕ) (frames : Frames) (s : State)
    (formals : List Formal) (widths : Widths) (begun : Now) (called : Activation) : Type 0 where
  pub at : State
  pub references : List Reference
  pub more : Sem
  pub goes : ended ≡ then_do (enter unit references units at) more
  pub waits : Waiting
  pub begins : (head : Pou)
      → Related (frames_inside frames waits widths called) begun (state_on_entry head references at)
  pub behind : (to : ℕ)
      → LeadsBehind more used (frames_inside frames waits widths (record called { at = to })) frames s formals
      (record called { at = to })

-- statements did what a call does: they entered the unit, or stopped by the first fault of an actual
abbrev pub DoesCall : Out → Entering → ℕ → ℕ → ℕ → Frames → State
    → Contents → List Formal → Widths → Result Now Fault → Type 0
DoesCall ended enter units used unit frames s memory formals widths (Ok begun) =
    (called : Activation) × (begun.activations ≡ called ∷ going_on frames.blocks)
    × Enters ended enter units used unit frames s formals widths begun called
DoesCall ended enter units used unit frames s memory formals widths (Err f) = Stops ended memory f

-- What a call owes

-- the widths of the formals that a called block names: one with an instance has its formals there
abbrev pub widths_inside : BlockCall → List Formal → Widths
widths_inside call formals = if call.instance == 0 then map (λ (f : Formal). f.width) formals else []

-- a call of a block with these formals, from a block that may name formals of these widths: its actuals are ones for
-- the formals, which are at most 64; its instance, if it has one, has a number that a data block may have, and the
-- formals lie in it
pub record IsCallOf (dbs : List DataBlock) (widths : Widths) (formals : List Formal) (call : BlockCall) : Type 0 where
  pub actuals : AreActuals widths (not (call.instance == 0)) formals call.actuals
  pub number : (call.instance == 0) ≡ false → IsBlockOpened call.instance
  pub lies : (call.instance == 0) ≡ false → All (LiesInInstance dbs call.instance) formals
  pub few : length formals ≤ 64

-- a call may be made: it is one of a block with these formals, and not all activations that there may be are there
pub record MayCall (frames : Frames) (formals : List Formal) (call : BlockCall) : Type 0 where
  pub right : IsCallOf frames.dbs frames.formals formals call
  pub deep : length frames.blocks < ACTIVATIONS

-- statements do what a call does that the program makes from a state
abbrev pub DoCall : ℕ → ℕ → List StType → List Formal → BlockCall → List Stmt → (Now → Now) → Type 0
DoCall first unit types formals call body before =
    (globals : List Located) (enter : Entering) (units : ℕ) (frames : Frames) (now : Now) (s : State)
    → MayCall frames formals call → Related frames now s
    → first + length types ≤ length (own_of s.activations)
    → DoesCall (body_meaning globals (calls_by globals enter) body units s) enter units first unit frames s now.memory
    formals (widths_inside call formals) (after_call formals call (before now))

-- the unit of a number is a function that may be called by name, and its formals have the types of these widths
pub record IsUnitCalled (sight : UnitScope) (unit : ℕ) (widths : Widths) : Type 0 where
  pub head : Head
  pub there : slice_get sight.heads unit ≡ Some head
  pub function : head.program ≡ false
  pub seen : is_seen sight head.name ≡ true
  pub formals : map (λ (formal : Local). formal.ty) head.formals ≡ map type_of_width widths

-- a body, in a unit that sees these variables, is plain but for one call, that of the unit of a number, which is given
-- no register variable
pub record IsPlainCall (sight : UnitScope) (unit : ℕ) (body : List Stmt) : Type 0 where
  pub typed : are_well_typed sight false body ≡ true
  pub low : body_nesting body ≤ deepest
  pub high : All IsLow (expressions_in body)
  pub divisors : All IsSureDivisor (divisors_in body)
  pub variables : List Var
  pub calls : calls_in body ≡ (unit, variables) ∷ []
  pub given : All IsGivenOn variables

-- what the statements of a call owe
pub record ServesCall (first unit : ℕ) (formals : List Formal) (call : BlockCall) : Type 0 where
  pub does : DoCall first unit (types_of_call formals call) formals call (call_of first unit formals call)
      (with_status after_end)
  pub steps : AreSteps (call_of first unit formals call)
  pub guards : bodies_in (call_of first unit formals call) ≡ []
  pub few : length (statements_in (call_of first unit formals call)) ≤ 11 + 3 * sum_by one_if_given call.actuals
  pub small : nodes_in (call_of first unit formals call) ≤ 91 + 3 * sum_by one_if_given call.actuals
  pub reads : EachRegister (λ (r : Reg). IsAmong r (reads_of (op.Call call)))
      (reads_in (call_of first unit formals call))
  pub locals : AreInOrder first first (length (types_of_call formals call)) (call_of first unit formals call)
  pub plain : (sight : UnitScope) (dbs : List DataBlock) (widths : Widths) → AreBlocks dbs
      → IsCallOf dbs widths formals call → HasFormals sight widths
      → IsUnitCalled sight unit (widths_inside call formals) → AreTyped sight first (types_of_call formals call)
      → IsPlainCall sight unit (call_of first unit formals call)

-- what those of CC owe: where the RLO is 1 they do what a call does, else they lead behind it; they have one IF, which
-- ends the run of steps that they are in
pub record ServesCallIf (first unit : ℕ) (formals : List Formal) (call : BlockCall) : Type 0 where
  pub made : (globals : List Located) (enter : Entering) (units : ℕ) (frames : Frames) (now : Now) (s : State)
      → MayCall frames formals call → Related frames now s
      → first + length types_of_call_if ≤ length (own_of s.activations) → now.registers.status.rlo ≡ true
      → DoesCall (body_meaning globals (calls_by globals enter) (call_if_of first unit) units s) enter units first unit
      frames s now.memory formals (widths_inside call formals) (after_call formals call (with_status after_asking now))
  pub left_out : (globals : List Located) (enter : Entering) (units : ℕ) (frames : Frames) (now : Now) (s : State)
      → Related frames now s → first + length types_of_call_if ≤ length (own_of s.activations)
      → now.registers.status.rlo ≡ false
      → Leads (body_meaning globals (calls_by globals enter) (call_if_of first unit) units s) units first frames s
      (with_status after_asking now)
  pub steps : AreSteps (call_if_of first unit)
  pub guards : length (bodies_in (call_if_of first unit)) ≡ 1
  pub few : length (statements_in (call_if_of first unit)) ≤ 11
  pub small : nodes_in (call_if_of first unit) ≤ 91
  pub reads : EachRegister (λ (r : Reg). IsAmong r (reads_of (op.CallIf call))) (reads_in (call_if_of first unit))
  pub run : (written : List ℕ) → AreOfRun written (call_if_of first unit)
  pub inner : All (AreOfRun []) (bodies_in (call_if_of first unit))
  pub ends : (written : List ℕ) → written_by_more written (call_if_of first unit) ≡ []
  pub plain : (sight : UnitScope) → IsUnitCalled sight unit [] → AreTyped sight first types_of_call_if
      → IsPlainCall sight unit (call_if_of first unit)

-- the law: the statements of each call serve it
pub record CallsServe : Type 0 where
  pub call : (first unit : ℕ) (formals : List Formal) (c : BlockCall) → ServesCall first unit formals c
  pub call_if : (first unit : ℕ) (formals : List Formal) (c : BlockCall) → c.instance ≡ 0 → c.actuals ≡ []
      → ServesCallIf first unit formals c
