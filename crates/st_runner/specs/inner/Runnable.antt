-- What a runner needs of a tree, as costs of its statements: its chains of calls and its statements nest no
-- deeper than they may, its calls give as many actuals as there are formals, and its globals stand for areas
-- that a memory has.
use Rattle.std.specs.Prelude.{◌≡◌, ℕ, ◌≤◌, ◌==◌, if◌then◌else◌, List, [], ◌∷◌, length, Option, Some, None, slice_get}
use Rattle.memory_areas.specs.Memory.{IsActivation}
use Rattle.memory_areas.specs.declared.sizes.TheConstants.{ACTIVATIONS}
use Rattle.st_runner.specs.inner.Costs.{Costs, body_most}
use Rattle.st_tree.specs.Chains.{chain_of}
use Rattle.st_tree.specs.Depth.{deepest}
use Rattle.st_tree.specs.declared.expr.Var.{Var}
use Rattle.st_tree.specs.declared.program.Located.{Located}
use Rattle.st_tree.specs.declared.program.Pou.{Pou}
use Rattle.st_tree.specs.declared.program.StProgram.{StProgram}

-- Chains of calls

-- a unit costs one, and each call what its unit's chain has
abbrev pub chain_costs : (ℕ → ℕ) → Costs
chain_costs chain = record { rest = 0; again = 0; unit = 1; call = λ n actuals. chain n }

-- Nesting

-- how deep IF, CASE and WHILE nest
abbrev pub nesting_costs : Costs
nesting_costs = record { rest = 1; again = 0; unit = 0; call = λ n actuals. 0 }

-- Actuals

-- how many formals a unit has
abbrev pub formals_of_unit : Option Pou → ℕ
formals_of_unit None = 0
formals_of_unit (Some unit) = length unit.formals

-- whether a call has another number of actuals than its unit has formals
abbrev pub misfit : StProgram → ℕ → List Var → ℕ
misfit tree n actuals = if length actuals == formals_of_unit (slice_get tree.pous n) then 0 else 1

-- costs at which a body costs more than nothing exactly where a call in it gives too few or too many
-- actuals
abbrev pub misfit_costs : StProgram → Costs
misfit_costs tree = record { rest = 0; again = 0; unit = 0; call = misfit tree }

-- The tree

-- the areas of globals are ones that a memory has
abbrev pub AreGlobals : List Located → Type 0
AreGlobals [] = Unit {0}
AreGlobals (g ∷ rest) = IsActivation g.place.area × AreGlobals rest

-- the rules for a unit of a tree that can be run
pub record IsRunnableUnit (tree : StProgram) (n : ℕ) (unit : Pou) : Type 0 where
  pub chain : chain_of tree n ≤ ACTIVATIONS
  pub nesting : body_most nesting_costs unit.body ≤ deepest
  pub actuals : body_most (misfit_costs tree) unit.body ≡ 0

-- the rules for a tree that can be run: those of each of its units, and globals whose areas a memory has
pub record IsRunnable (tree : StProgram) : Type 0 where
  pub units : (n : ℕ) (unit : Pou) → slice_get tree.pous n ≡ Some unit → IsRunnableUnit tree n unit
  pub globals : AreGlobals tree.globals
