-- How much statements and waiting frames need of what a run has reserved.
use Rattle.std.specs.Prelude.{◌≡◌, ℕ, ◌+◌, ◌*◌, ◌≤◌, max, List, [], ◌∷◌, map, Some, slice_get}
use Rattle.st_runner.specs.declared.frame.At.{At}
use Rattle.st_runner.specs.declared.frame.At.TheVariants as at
use Rattle.st_runner.specs.declared.frame.Frame.{Frame}
use Rattle.st_runner.specs.declared.frame.Frame.TheVariants as frame
use Rattle.st_runner.specs.declared.steps.TheConstants.{UNIT_FRAMES}
use Rattle.st_runner.specs.inner.Costs.{Costs, body_most}
use Rattle.s7_base.specs.Numbers.{greatest}
use Rattle.st_runner.specs.inner.Runnable.{chain_costs}
use Rattle.st_tree.specs.Chains.{chain_of}
use Rattle.st_tree.specs.declared.expr.Var.{Var}
use Rattle.st_tree.specs.declared.program.Arm.{Arm, fold-Arm}
use Rattle.st_tree.specs.declared.program.CaseArm.{CaseArm, fold-CaseArm}
use Rattle.st_tree.specs.declared.program.Pou.{Pou}
use Rattle.st_tree.specs.declared.program.StProgram.{StProgram}
use Rattle.st_tree.specs.declared.program.Stmt.{Stmt, fold-Stmt}
use Rattle.st_tree.specs.declared.program.Stmt.TheOpen as S

-- what a frame costs by itself
abbrev pub size : Costs → Frame → ℕ
size k (frame.Rest body place) = k.rest
size k (frame.Again test body place) = k.again
size k frame.Unit = k.unit

-- the most that a frame costs while its statements run
abbrev pub frame_tall : Costs → Frame → ℕ
frame_tall k (frame.Rest body place) = k.rest + body_most k body.now
frame_tall k (frame.Again test body place) = k.again + (k.rest + body_most k body.now)
frame_tall k frame.Unit = k.unit

-- what all frames cost together
abbrev pub sizes : Costs → List Frame → ℕ
sizes k [] = 0
sizes k (f ∷ rest) = size k f + sizes k rest

-- the most that frames cost until the last of them is done, each on top of those that still wait
abbrev pub tall : Costs → List Frame → ℕ
tall k [] = 0
tall k (f ∷ rest) = max (frame_tall k f) (size k f + tall k rest)

-- the most that what comes next costs above the frames
abbrev pub next_tall : Costs → At → ℕ
next_tall k at.Work = 0
next_tall k (at.Test test body place) = k.again + (k.rest + body_most k body.now)
next_tall k (at.Call n actuals) = k.call n actuals.now
next_tall k (at.Over f) = 0

-- the most that a run costs from here on, with what waits and what comes next
abbrev pub reach : Costs → List Frame → At → ℕ
reach k work next = max (tall k work) (sizes k work + next_tall k next)

-- a call costs no less than its unit
abbrev pub Covers : Costs → StProgram → Type 0
Covers k tree =
    (n : ℕ) (actuals : List Var) (unit : Pou) → slice_get tree.pous n ≡ Some unit
    → k.unit + (k.rest + body_most k unit.body) ≤ k.call n actuals

-- the costs of a frame alone: how many units wait
abbrev pub unit_costs : Costs
unit_costs = record { rest = 0; again = 0; unit = 1; call = λ n actuals. 0 }

-- how many called units wait for their end
abbrev pub units : List Frame → ℕ
units work = sizes unit_costs work

-- the sum of some numbers
abbrev pub sum : List ℕ → ℕ
sum [] = 0
sum (n ∷ ns) = n + sum ns

-- how many steps a statement takes at most without a unit, by those of the statements in it; a WHILE
-- takes one up to its test, which needs a unit
abbrev pub weight_step : S.Stmt-F ℕ ℕ ℕ → ℕ
weight_step (S.Assign v e) = 1
weight_step (S.AreaWrite w p e) = 1
weight_step (S.Invoke n actuals) = 1
weight_step (S.If arms other) = 2 + max (greatest arms) (sum other)
weight_step (S.Case e arms other) = 2 + max (greatest arms) (sum other)
weight_step (S.While test body) = 1
weight_step S.Exit = 1
weight_step S.Continue = 1
weight_step S.Return = 1

-- how many steps a statement takes at most before a unit is needed
abbrev pub weight : Stmt → ℕ
weight = fold-Stmt ℕ ℕ ℕ weight_step (λ arm. sum arm.body) (λ arm. sum arm.body)

-- how many steps the statements of an arm of an IF take at most
abbrev pub arm_weight : Arm → ℕ
arm_weight = fold-Arm ℕ ℕ ℕ weight_step (λ arm. sum arm.body) (λ arm. sum arm.body)

-- how many steps the statements of an arm of a CASE take at most
abbrev pub case_weight : CaseArm → ℕ
case_weight = fold-CaseArm ℕ ℕ ℕ weight_step (λ arm. sum arm.body) (λ arm. sum arm.body)

-- how many steps a list of statements takes at most
abbrev pub body_weight : List Stmt → ℕ
body_weight body = sum (map weight body)

-- how many steps a frame takes at most: its statements and its own end
abbrev pub frame_weight : Frame → ℕ
frame_weight (frame.Rest body place) = 1 + body_weight body.now
frame_weight (frame.Again test body place) = 1
frame_weight frame.Unit = 1

-- how many steps all frames take at most, before a unit is needed; each step lowers it, so a run cannot
-- go on without one
abbrev pub work_weight : List Frame → ℕ
work_weight [] = 0
work_weight (f ∷ rest) = frame_weight f + work_weight rest

-- The costs of a run

-- how many units each call has
abbrev pub depth_costs : StProgram → Costs
depth_costs tree = chain_costs (chain_of tree)

-- how many frames wait at most
abbrev pub stack_costs : StProgram → Costs
stack_costs tree = record { rest = 1; again = 1; unit = 1; call = λ n actuals. UNIT_FRAMES * chain_of tree n }
