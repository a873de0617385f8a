use Rattle.st_tree.proofs.Common.{◌≡◌, List, Ok, Err, sym, subst, ◌∙◌, value}
use Rattle.st_runner.proofs.Common.{state_of, Located}
use Rattle.st_runner.proofs.Dones.{case_done, case_fault}
use Rattle.st_runner.proofs.Plans.{goes_on, pushed}
use Rattle.st_runner.proofs.steps.choose_labelled.Goals as goal

pub returns-in-Ok-clause-done : goal.returns-in-Ok-clause-done
returns-in-Ok-clause-done c =
    let s = state_of c.args.state.now in
    case_done c.args.tree.now c.args.work.now.items c.case_body-place.result.1 c.args.e.now
    c.args.arms.now c.args.other.now c.push_reserved.new.self.items c.case_body-place.result.0 c.in-Ok.v s
    (subst (λ (g : List Located). value g c.args.e.now s ≡ Ok c.in-Ok.v) c.as_slice.ensures (sym c.value.ensures ∙ c.in-Ok.is))
    c.case_body-place.ensures.body c.push_reserved.ensures.items

pub returns-in-Err-clause-done : goal.returns-in-Err-clause-done
returns-in-Err-clause-done c =
    let s = state_of c.args.state.now in
    case_fault c.args.tree.now c.args.work.now.items c.args.e.now c.args.arms.now c.args.other.now s c.in-Err.fault
    (subst (λ (g : List Located). value g c.args.e.now s ≡ Err c.in-Err.fault) c.as_slice.ensures (sym c.value.ensures ∙ c.in-Err.is))

pub returns-in-Ok-clause-planned : goal.returns-in-Ok-clause-planned
returns-in-Ok-clause-planned c =
    goes_on c.args.plan.now _
    (pushed c.args.plan.now c.args.work.now.items _ _ c.push_reserved.ensures.items c.requires.frames c.case_body-place.ensures.planned)
