use Rattle.st_tree.proofs.Common.{◌≡◌, ℕ, [], ◌∷◌, ◌++◌, List, sym, ap, subst, ◌∙◌, vec_capacity, Calls, Faults, body_meaning}
use Rattle.st_runner.proofs.Common.{IsReady, Located, most_formals, most_locals, state_of}
use Rattle.st_runner.proofs.Begun.{fault_on, ready_on, stepped_on}
use Rattle.st_runner.proofs.Stepping.{loop_again, may_leave, unit_ended}
use Rattle.st_runner.proofs.Plans.{goes_on, popped}
use Rattle.st_runner.specs.inner.Begun.{HasBegun}
use Rattle.st_runner.specs.declared.frame.At.TheVariants as at
use Rattle.st_runner.specs.declared.frame.Frame.TheVariants as frame
use Rattle.st_runner.proofs.steps.step.Goals as goal

pub assign_first-requires-clause-sound : goal.assign_first-requires-clause-sound
assign_first-requires-clause-sound c =
    (most_locals c.args.tree.now.pous, most_formals c.args.tree.now.pous, c.requires.ready.sound)

pub first_statement-requires-clause-ready : goal.first_statement-requires-clause-ready
first_statement-requires-clause-ready c =
    let tree = c.args.tree.now in
    let fs = c.pop.new.self.items in
    let s = c.args.state.now in
    let t = c.assign_first.new.self in
    let body = c.in-Some-Rest.body in
    let place = c.in-Some-Rest.at in
    subst (λ (n : ℕ). IsReady tree n (fs ++ frame.Rest c.in-Ok.rest place ∷ []) at.Work t) (sym c.in-Some-Rest.ensures.capacity)
    (ready_on tree c.args.work.now.items fs place body c.in-Ok.rest s t (c.in-Some-Rest.ensures.items ∙ ap (λ f. fs ++ f ∷ []) c.in-Some-Rest.field-0-is)
    (vec_capacity c.args.work.now)
    (subst (λ (g : List Located). HasBegun g body.now c.in-Ok.rest.now (state_of s) (state_of t)) c.as_slice.ensures c.in-Ok.ensures.begun)
    c.assign_first.ensures.sound c.assign_first.ensures.same c.requires.ready)

pub first_statement-requires-clause-frames : goal.first_statement-requires-clause-frames
first_statement-requires-clause-frames c =
    let fs = c.pop.new.self.items in
    (popped c.args.plan.now c.args.work.now.items fs (frame.Rest c.in-Some-Rest.body c.in-Some-Rest.at)
    (c.in-Some-Rest.ensures.items ∙ ap (λ f. fs ++ f ∷ []) c.in-Some-Rest.field-0-is) c.requires.planned).0

pub first_statement-requires-clause-planned : goal.first_statement-requires-clause-planned
first_statement-requires-clause-planned c =
    let fs = c.pop.new.self.items in
    c.in-Ok.ensures.begun.planned c.args.plan.now c.in-Some-Rest.at
    (popped c.args.plan.now c.args.work.now.items fs (frame.Rest c.in-Some-Rest.body c.in-Some-Rest.at)
    (c.in-Some-Rest.ensures.items ∙ ap (λ f. fs ++ f ∷ []) c.in-Some-Rest.field-0-is) c.requires.planned).1

pub returns-in-Ok-clause-stepped : goal.returns-in-Ok-clause-stepped
returns-in-Ok-clause-stepped c =
    let tree = c.args.tree.now in
    let fs = c.pop.new.self.items in
    let s = c.args.state.now in
    let t = c.assign_first.new.self in
    let body = c.in-Some-Rest.body in
    stepped_on tree c.args.work.now.items fs c.in-Some-Rest.at body c.in-Ok.rest s t
    (c.in-Some-Rest.ensures.items ∙ ap (λ f. fs ++ f ∷ []) c.in-Some-Rest.field-0-is)
    c.first_statement.new.work.items c.first_statement.result c.first_statement.new.state
    (subst (λ (g : List Located). HasBegun g body.now c.in-Ok.rest.now (state_of s) (state_of t)) c.as_slice.ensures c.in-Ok.ensures.begun)
    c.assign_first.ensures.sound c.assign_first.ensures.same c.first_statement.ensures.stepped

pub returns-in-Err-clause-stepped : goal.returns-in-Err-clause-stepped
returns-in-Err-clause-stepped c =
    let tree = c.args.tree.now in
    let fs = c.pop.new.self.items in
    let s = c.args.state.now in
    let t = c.assign_first.new.self in
    let body = c.in-Some-Rest.body in
    fault_on tree c.args.work.now.items fs c.in-Some-Rest.at body body s t
    (c.in-Some-Rest.ensures.items ∙ ap (λ f. fs ++ f ∷ []) c.in-Some-Rest.field-0-is) c.in-Err.fault
    (subst (λ (g : List Located). (calls : Calls) (u : ℕ) → body_meaning g calls body.now u (state_of s) ≡ Faults c.in-Err.fault (state_of t))
    c.as_slice.ensures c.in-Err.ensures.begun)
    c.assign_first.ensures.sound c.assign_first.ensures.same

pub returns-in-Err-clause-planned : goal.returns-in-Err-clause-planned
returns-in-Err-clause-planned c =
    let fs = c.pop.new.self.items in
    record {
      frames =
          (popped c.args.plan.now c.args.work.now.items fs (frame.Rest c.in-Some-Rest.body c.in-Some-Rest.at)
          (c.in-Some-Rest.ensures.items ∙ ap (λ f. fs ++ f ∷ []) c.in-Some-Rest.field-0-is) c.requires.planned).0;
      coming = tt;
    }

pub leave-requires : goal.leave-requires
leave-requires c =
    let fs = c.pop.new.self.items in
    may_leave c.args.tree.now _ c.args.work.now.items fs c.args.state.now c.requires.ready
    (c.in-Some-Unit.ensures.items ∙ ap (λ f. fs ++ f ∷ []) c.in-Some-Unit.field-0-is)

pub returns-in-Some-Again-clause-stepped : goal.returns-in-Some-Again-clause-stepped
returns-in-Some-Again-clause-stepped c =
    let fs = c.pop.new.self.items in
    loop_again c.args.tree.now c.args.work.now.items c.args.state.now c.in-Some-Again.at fs c.in-Some-Again.test c.in-Some-Again.body
    (c.in-Some-Again.ensures.items ∙ ap (λ f. fs ++ f ∷ []) c.in-Some-Again.field-0-is)

pub returns-in-Some-Unit-clause-stepped : goal.returns-in-Some-Unit-clause-stepped
returns-in-Some-Unit-clause-stepped c =
    let fs = c.pop.new.self.items in
    unit_ended c.args.tree.now c.args.work.now.items c.args.state.now fs c.leave.new.self
    (c.in-Some-Unit.ensures.items ∙ ap (λ f. fs ++ f ∷ []) c.in-Some-Unit.field-0-is) c.leave.ensures.change c.leave.ensures.sound c.leave.ensures.less

pub returns-in-Some-Again-clause-planned : goal.returns-in-Some-Again-clause-planned
returns-in-Some-Again-clause-planned c =
    let fs = c.pop.new.self.items in
    let below =
    popped c.args.plan.now c.args.work.now.items fs (frame.Again c.in-Some-Again.test c.in-Some-Again.body c.in-Some-Again.at)
    (c.in-Some-Again.ensures.items ∙ ap (λ f. fs ++ f ∷ []) c.in-Some-Again.field-0-is) c.requires.planned in
    record { frames = below.0; coming = below.1 }

pub returns-in-Some-Unit-clause-planned : goal.returns-in-Some-Unit-clause-planned
returns-in-Some-Unit-clause-planned c =
    let fs = c.pop.new.self.items in
    goes_on c.args.plan.now fs
    (popped c.args.plan.now c.args.work.now.items fs frame.Unit (c.in-Some-Unit.ensures.items ∙ ap (λ f. fs ++ f ∷ []) c.in-Some-Unit.field-0-is)
    c.requires.planned).0
