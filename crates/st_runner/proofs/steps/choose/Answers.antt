use Rattle.std.proofs.Common.{◌≡◌, ◌++◌, List, length, Ok, Err, sym, subst}
use Rattle.st_runner.proofs.Common.{if_body, state_of, Located}
use Rattle.st_runner.proofs.Dones.{if_done, if_fault}
use Rattle.st_runner.proofs.Plans.{at_stands, goes_on, inside_stands, pushed}
use Rattle.st_runner.specs.inner.Plan.{arms_parts, body_parts}
use Rattle.st_runner.specs.declared.plan.Part.TheVariants as part
use Rattle.st_runner.proofs.steps.choose.Goals as goal

pub returns-in-Ok-clause-done : goal.returns-in-Ok-clause-done
returns-in-Ok-clause-done c =
    let s = state_of c.args.state.now in
    if_done c.args.tree.now c.args.work.now.items c.in-Ok.place c.args.arms.now c.args.other.now c.push_reserved.new.self.items c.in-Ok.body s
    (subst (λ (g : List Located). if_body g c.args.arms.now c.args.other.now s ≡ Ok c.in-Ok.body.now)
    c.as_slice.ensures c.in-Ok.ensures.0) c.push_reserved.ensures.items

pub returns-in-Err-clause-done : goal.returns-in-Err-clause-done
returns-in-Err-clause-done c =
    let s = state_of c.args.state.now in
    if_fault c.args.tree.now c.args.work.now.items c.args.arms.now c.args.other.now s c.in-Err.fault
    (subst (λ (g : List Located). if_body g c.args.arms.now c.args.other.now s ≡ Err c.in-Err.fault) c.as_slice.ensures c.in-Err.ensures)

pub if_body-requires-clause-planned : goal.if_body-requires-clause-planned
if_body-requires-clause-planned c =
    let inside = arms_parts c.args.arms.now ++ body_parts c.args.other.now in
    at_stands c.args.plan.now _ c.further.result inside (sym c.further.ensures)
    (inside_stands c.args.plan.now c.args.at (part.Inside (length inside)) inside c.requires.planned)

pub returns-in-Ok-clause-planned : goal.returns-in-Ok-clause-planned
returns-in-Ok-clause-planned c =
    goes_on c.args.plan.now _ (pushed c.args.plan.now c.args.work.now.items _ _ c.push_reserved.ensures.items c.requires.frames c.in-Ok.ensures.1)
