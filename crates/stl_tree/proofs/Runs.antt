-- How runs go on: steps add up, and a run that has ended stays so.
use Rattle.std.proofs.Common.{◌≡◌, ℕ, zero, suc, ◌+◌, ◌-◌, ◌≤◌, Option, refl, sym, ap, ◌∙◌, arith}
use Rattle.memory_areas.specs.Areas.{Areas, Contents}
use Rattle.memory_areas.specs.End.{Ended}
use Rattle.s7_base.specs.declared.outcome.Fault.{Fault}
use Rattle.stl_tree.specs.StlRun.{Standing, running, over, step, steps_on, end_of, at_run_start}
use Rattle.stl_tree.specs.RunLaws.{EndStays, StepsAdd}

pub over_stays : (n : ℕ) (memory : Contents) (f : Option Fault) → steps_on n (over memory f) ≡ over memory f
over_stays zero memory f = refl
over_stays (suc n) memory f = over_stays n memory f

pub steps_on-add : (n j : ℕ) (s : Standing) → steps_on (n + j) s ≡ steps_on j (steps_on n s)
steps_on-add zero j s = let e : zero + j ≡ j = omega arith in ap (λ k. steps_on k s) e
steps_on-add (suc n) j s = let e : suc n + j ≡ suc (n + j) = omega arith in ap (λ k. steps_on k s) e ∙ steps_on-add n j (step s)

-- what is seen to have ended is seen so ever after
stays_ended : (s : Standing) (k : ℕ) (memory : Areas) (f : Option Fault) → end_of s ≡ Ended memory f → end_of (steps_on k s) ≡ Ended memory f
stays_ended (running program now) k memory f e = cc
stays_ended (over m g) k memory f e = ap end_of (over_stays k m g) ∙ e

pub end_kept : (s : Standing) (n more : ℕ) (memory : Areas) (f : Option Fault) → n ≤ more
    → end_of (steps_on n s) ≡ Ended memory f → end_of (steps_on more s) ≡ Ended memory f
end_kept s n more memory f h e =
    let all : n + (more - n) ≡ more = omega arith in
    ap (λ k. end_of (steps_on k s)) (sym all)
    ∙ ap end_of (steps_on-add n (more - n) s)
    ∙ stays_ended (steps_on n s) (more - n) memory f e

pub runs_end_stays : EndStays
runs_end_stays program call memory n more after f h e = end_kept (at_run_start program call memory) n more after f h e

pub runs_steps_add : StepsAdd
runs_steps_add program call memory n j = ap end_of (steps_on-add n j (at_run_start program call memory))
