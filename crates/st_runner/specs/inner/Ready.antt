-- What holds where a run stands, so that each step finds what it needs reserved.
use Rattle.std.specs.Prelude.{◌≡◌, ℕ, suc, ◌+◌, ◌<◌, ◌≤◌, max, Bool, true, false, List, [], ◌∷◌, length, Some, Result, Ok, Err}
use Rattle.s7_base.specs.declared.outcome.Fault.{Fault}
use Rattle.memory_areas.specs.declared.sizes.TheConstants.{ACTIVATIONS}
use Rattle.st_runner.specs.inner.Measures.{reach, sizes, tall, units, weight, work_weight, depth_costs, stack_costs}
use Rattle.st_runner.specs.inner.Costs.{Costs, most}
use Rattle.st_runner.specs.inner.Runnable.{misfit_costs}
use Rattle.st_runner.specs.inner.Waiting.{end_at, ending}
use Rattle.st_runner.specs.inner.View.{IsSound, state_of}
use Rattle.st_runner.specs.declared.frame.At.{At}
use Rattle.st_runner.specs.declared.frame.At.TheVariants as at
use Rattle.st_runner.specs.declared.frame.Frame.{Frame}
use Rattle.st_runner.specs.declared.state.State.{State as RunnerState}
use Rattle.st_tree.specs.Calls.{calls_to}
use Rattle.st_tree.specs.Meaning.{Calls, meaning}
use Rattle.st_tree.specs.State.{State}
use Rattle.st_tree.specs.declared.program.Pou.{Pou}
use Rattle.st_tree.specs.declared.program.StProgram.{StProgram}
use Rattle.st_tree.specs.declared.program.Stmt.{Stmt}

-- the most locals that a unit of a text has, which each activation has room for
abbrev pub most_locals : List Pou → ℕ
most_locals [] = 0
most_locals (unit ∷ rest) = max (length unit.locals) (most_locals rest)

-- the most formals that a unit of a text has, which each activation has room for
abbrev pub most_formals : List Pou → ℕ
most_formals [] = 0
most_formals (unit ∷ rest) = max (length unit.formals) (most_formals rest)

-- the state is sound, a unit waits for each activation but the first, and what is left to do costs no more
-- frames and activations than there are, with calls whose actuals have room
pub record IsReady (tree : StProgram) (capacity : ℕ) (work : List Frame)
    (next : At) (state : RunnerState) : Type 0 where
  pub sound : IsSound (most_locals tree.pous) (most_formals tree.pous) state
  pub count : length state.activations.items ≡ 1 + units work
  pub frames : reach (stack_costs tree) work next ≤ capacity
  pub depth : reach (depth_costs tree) work next < ACTIVATIONS
  pub actuals : reach (misfit_costs tree) work next ≡ 0

-- a fact that is needed where the statements that wait come next
abbrev pub IfWork : At → Type 0 → Type 0
IfWork at.Work P = P
IfWork (at.Test test body place) P = Unit {0}
IfWork (at.Call n actuals) P = Unit {0}
IfWork (at.Over f) P = Unit {0}

-- something waits for a unit, or the run has ended
abbrev pub IsSettled : At → Type 0
IsSettled at.Work = ⊥
IsSettled (at.Test test body place) = Unit {0}
IsSettled (at.Call n actuals) = Unit {0}
IsSettled (at.Over f) = Unit {0}

-- what comes next where something was done, or had a fault
abbrev pub next_of : Result (Unit {0}) Fault → At
next_of (Ok done) = at.Work
next_of (Err f) = at.Over (Some f)

-- a statement was done up to where it needs a unit: what comes next means what the statement does, and
-- costs no more
pub record Done (tree : StProgram) (stmt : Stmt) (before after : List Frame) (next : At) (s t : State) : Type 0 where
  pub meaning : (c : Calls) (u : ℕ)
      → end_at tree.globals c after next u t ≡ ending tree.globals c before (meaning tree.globals c stmt u s)
  pub reach : (k : Costs) → reach k after next ≤ max (tall k before) (sizes k before + most k stmt)
  pub units : units after ≡ units before
  pub weight : IfWork next (work_weight after + 1 ≤ work_weight before + weight stmt)

-- what needs no unit was done: from the frames that waited, what comes next ends as they did, costs no
-- more, and keeps what is kept
pub record Stepped (tree : StProgram) (before after : List Frame) (next : At) (s t : RunnerState) : Type 0 where
  pub meaning : (c : Calls) (u : ℕ)
      → end_at tree.globals c after next u (state_of t) ≡ end_at tree.globals c before at.Work u (state_of s)
  pub reach : (k : Costs) → reach k after next ≤ tall k before
  pub weight : IfWork next (work_weight after + 1 ≤ work_weight before)
  pub sound : (l f : ℕ) → IsSound l f s → IsSound l f t
  pub count : length s.activations.items ≡ 1 + units before → length t.activations.items ≡ 1 + units after

-- a unit was spent: with a unit less, what comes next ends as what came next before, and is ready
pub record Spent (tree : StProgram) (capacity : ℕ) (before after : List Frame) (last next : At)
    (s t : RunnerState) : Type 0 where
  pub meaning : (u : ℕ)
      → end_at tree.globals (calls_to u tree) after next u (state_of t)
      ≡ end_at tree.globals (calls_to (suc u) tree) before last (suc u) (state_of s)
  pub ready : IsReady tree capacity after next t

-- what comes next needs a unit: it is the test of a WHILE or a call
abbrev pub NeedsUnit : At → Type 0
NeedsUnit at.Work = ⊥
NeedsUnit (at.Test test body place) = Unit {0}
NeedsUnit (at.Call n actuals) = Unit {0}
NeedsUnit (at.Over f) = ⊥

-- whether what comes next needs a unit: the test of a WHILE or a call
abbrev pub needs_unit : At → Bool
needs_unit at.Work = false
needs_unit (at.Test test body place) = true
needs_unit (at.Call n actuals) = true
needs_unit (at.Over f) = false
