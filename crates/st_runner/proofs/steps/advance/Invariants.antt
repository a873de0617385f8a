use Rattle.st_tree.proofs.Common.{◌≡◌, ℕ, suc, vec_capacity, Calls}
use Rattle.st_runner.proofs.Common.{work_weight, IsReady, end_at, state_of, At}
use Rattle.st_runner.specs.inner.Plan.{IsPlanned}
use Rattle.st_runner.specs.declared.frame.At.TheVariants as at
use Rattle.st_runner.proofs.steps.advance.Given as goal

-- how many steps follow at most
abbrev pub left : At → ℕ → ℕ
left at.Work n = suc n
left (at.Test test body place) n = 0
left (at.Call k actuals) n = 0
left (at.Over f) n = 0

abbrev pub decreases-loop-at : goal.decreases-loop-at
decreases-loop-at l = left l.at (work_weight l.work.items)

abbrev pub invariant-loop-at : goal.invariant-loop-at
invariant-loop-at l =
    ((c : Calls) (u : ℕ)
    → end_at l.tree.globals c l.work.items l.at u (state_of l.state) ≡ end_at l.tree.globals c l.fn.work.items at.Work u (state_of l.fn.state))
    × IsReady l.tree (vec_capacity l.work) l.work.items l.at l.state
    × (vec_capacity l.work ≡ vec_capacity l.fn.work)
    × IsPlanned l.plan.parts.items l.work.items l.at
