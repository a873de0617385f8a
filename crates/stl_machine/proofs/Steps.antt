-- Steps, one after another.
use Rattle.std.proofs.Common.{◌≡◌, ℕ, zero, suc, ◌+◌, ◌-◌, ◌≤◌, Option, Some, None, refl, sym, ap, ◌∙◌, arith}
use Rattle.stl_machine.specs.declared.machine.Progress.{Progress}
use Rattle.stl_machine.specs.declared.machine.Progress.TheVariants as progress
use Rattle.stl_machine.specs.declared.state.State.{State}
use Rattle.stl_machine.specs.inner.Effects.{next_of}
use Rattle.stl_machine.specs.inner.Views.{now_of, standing}
use Rattle.stl_tree.proofs.Runs.{steps_on-add}
use Rattle.stl_tree.specs.StlRun.{Standing, running, over, step, step_by, steps_on}
use Rattle.stl_tree.specs.declared.program.Instr.{Instr}
use Rattle.stl_tree.specs.declared.program.Program.{Program}

-- one more step
pub one_more : (n : ℕ) (s t : Standing) → t ≡ steps_on n s → step t ≡ steps_on (n + 1) s
one_more n s t e = ap step e ∙ sym (steps_on-add n 1 s)

-- where a step changes nothing, no number of steps does
still_on : (k : ℕ) (s : Standing) → step s ≡ s → steps_on k s ≡ s
still_on zero s e = refl
still_on (suc k) s e = ap (steps_on k) e ∙ still_on k s e

step_still : (s : Standing) → next_of s ≡ None → step s ≡ s
step_still (running program now) e = ap (λ (o : Option Instr). step_by o program now) e
step_still (over memory f) e = refl

-- the step of the instruction that a run stands before
pub known_step : (program : Program) (p : Progress) (s : State) (i : Instr)
    → next_of (standing program p s) ≡ Some i → step_by (Some i) program (now_of s) ≡ step (standing program p s)
known_step program progress.Running s i e = ap (λ (o : Option Instr). step_by o program (now_of s)) (sym e)
known_step program (progress.Over f) s i e = cc

-- a run that stays where it is before its bound stands there at the bound
pub still_early : (n all : ℕ) (s t : Standing) → n ≤ all → t ≡ steps_on n s → next_of t ≡ None → t ≡ steps_on all s
still_early n all s t h e o =
    let whole : n + (all - n) ≡ all = omega arith in
    sym (still_on (all - n) t (step_still t o))
    ∙ ap (steps_on (all - n)) e
    ∙ sym (steps_on-add n (all - n) s)
    ∙ ap (λ k. steps_on k s) whole
