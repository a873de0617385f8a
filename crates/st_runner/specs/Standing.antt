-- Where a run stands, as plain data, and how it ends from there: this is what callers see of a runner.
use Rattle.std.specs.Prelude.{◌≡◌, ℕ, ℤ, pos, get_or, List, [], ◌∷◌, Option, Result, Ok, Err}
use Rattle.memory_areas.specs.Areas.{Areas, Contents}
use Rattle.memory_areas.specs.End.{End, Ended, Going}
use Rattle.s7_base.specs.RegSet.{place}
use Rattle.s7_base.specs.declared.outcome.Fault.{Fault}
use Rattle.s7_base.specs.declared.outcome.Outcome.{Outcome}
use Rattle.s7_base.specs.declared.outcome.Outcome.TheVariants as outcome
use Rattle.st_runner.specs.declared.runner.RunnerRefusal.{RunnerRefusal}
use Rattle.st_runner.specs.declared.runner.RunnerRefusal.TheVariants.{BadCall, NoMemory}
use Rattle.st_tree.specs.Calls.{after_unit, calls_to}
use Rattle.st_tree.specs.Meaning.{Out, Normal, Calls, after_body, body_meaning, loop, then_do}
use Rattle.st_tree.specs.StRun.{FitsSt, end_seen, st_run}
use Rattle.st_tree.specs.State.{Activation, State}
use Rattle.st_tree.specs.Value.{value}
use Rattle.st_tree.specs.declared.expr.Expr.{Expr}
use Rattle.st_tree.specs.declared.expr.Var.{Var}
use Rattle.st_tree.specs.declared.program.Located.{Located}
use Rattle.st_tree.specs.declared.program.StProgram.{StProgram}
use Rattle.st_tree.specs.declared.program.Stmt.{Stmt}
use Rattle.memory_areas.specs.declared.call.Call.{Call}

-- what waits while statements run: the rest of their list, the test of a loop again, or the end of a unit
pub data Pending : Type 0 where
  rest : List Stmt → Pending
  again : Expr → List Stmt → Pending
  unit : Pending

-- what comes next: what waits; the test of a loop or a call, for which a unit is taken; or nothing, since
-- the run has ended
pub data Coming : Type 0 where
  work : Coming
  test : Expr → List Stmt → Coming
  call : ℕ → List Var → Coming
  over : Option Fault → Coming

-- a run of a text between two steps: what waits, the innermost last, what comes next, the memory, the numbers of the
-- registers in their order, and the activations
pub record Standing : Type 0 where
  pub tree : StProgram
  pub waits : List Pending
  pub next : Coming
  pub memory : Contents
  pub numbers : List ℤ
  pub activations : List Activation

-- the end of what waits, after the statements above it ended
abbrev pub resume : List Located → Calls → Pending → Out → Out
resume globals calls (rest body) o = then_do o (body_meaning globals calls body)
resume globals calls (again t body) o = after_body o (loop (value globals t) (body_meaning globals calls body))
resume globals calls unit o = after_unit o

-- the end of all that waits, after the statements above it ended
abbrev pub all_followed : List Located → Calls → List Pending → Out → Out
all_followed globals calls [] o = o
all_followed globals calls (p ∷ more) o = resume globals calls p (all_followed globals calls more o)

-- the state of a run between two steps
abbrev pub state_there : Standing → State
state_there standing =
    record {
      memory = standing.memory;
      registers = λ q. get_or standing.numbers (place q) (pos 0);
      activations = standing.activations;
    }

-- the end of a run that does this next within some units, before what waits, in a state
abbrev pub end_by : List Located → Calls → List Pending → Coming → ℕ → State → End
end_by globals calls waits work units s = end_seen (all_followed globals calls waits (Normal units s))
end_by globals calls waits (test t body) units s =
    end_seen (all_followed globals calls waits (loop (value globals t) (body_meaning globals calls body) units s))
end_by globals calls waits (call n actuals) units s =
    end_seen (all_followed globals calls waits (calls n actuals units s))
end_by globals calls waits (over f) units s = Ended s.memory.areas f

-- the end of a run from here on within some further units
abbrev pub end_within : Standing → ℕ → End
end_within standing units =
    end_by standing.tree.globals (calls_to units standing.tree) standing.waits standing.next units
    (state_there standing)

-- an outcome is what the definition shows, with the areas as they then are
abbrev pub Shows : Outcome → End → Areas → Type 0
Shows (outcome.Ended f) shown areas = shown ≡ Ended areas f
Shows outcome.Going shown areas = shown ≡ Going

-- a run that has ended stays so
abbrev pub StaysOver : Outcome → Standing → Type 0
StaysOver (outcome.Ended f) standing = (units : ℕ) → end_within standing units ≡ Ended standing.memory.areas f
StaysOver outcome.Going standing = Unit {0}

-- a new runner ends within each number of units as the run of its call does; there is none exactly
-- where the call does not fit, or where memory ran out
abbrev pub IsNew : StProgram → Call → Areas → Result Standing RunnerRefusal → Type 0
IsNew tree c areas (Ok runner) = FitsSt tree c × ((units : ℕ) → end_within runner units ≡ st_run tree c areas units)
IsNew tree c areas (Err BadCall) = FitsSt tree c → ⊥
IsNew tree c areas (Err NoMemory) = Unit {0}
