use Rattle.st_tree.proofs.Common.{List, sym, ap, subst, ◌∙◌, vec_capacity}
use Rattle.st_runner.proofs.Common.{IsReady, end_at, state_of, At}
use Rattle.st_runner.proofs.Stepping.{stepped_ready}
use Rattle.st_runner.specs.inner.Plan.{ArePlanned, IsPlanned}
use Rattle.st_runner.specs.declared.plan.Part.{Part}
use Rattle.st_runner.proofs.steps.advance.Goals as goal

pub loop-at-preserved : goal.loop-at-preserved
loop-at-preserved c =
    let tree = c.args.tree.now in
    let work = c.loop-at.work in
    let ready = subst (λ (a : At). IsReady tree (vec_capacity work) work.items a c.loop-at.state) c.in-Work.is c.loop-at.invariant.1 in (
      (λ d u. c.step-at.ensures.stepped.meaning d u
          ∙ ap (λ (a : At). end_at tree.globals d work.items a u (state_of c.loop-at.state)) (sym c.in-Work.is) ∙ c.loop-at.invariant.0 d u),
      subst (λ n. IsReady tree n c.step-at.new.work.items c.step-at.result c.step-at.new.state) (sym c.step-at.ensures.capacity)
          (stepped_ready tree (vec_capacity work) work.items c.step-at.new.work.items
          c.step-at.result c.loop-at.state c.step-at.new.state c.step-at.ensures.stepped ready),
      c.step-at.ensures.capacity ∙ c.loop-at.invariant.2,
      subst (λ (plan : List Part). IsPlanned plan c.step-at.new.work.items c.step-at.result) c.as_slice.ensures.value c.step-at.ensures.planned,
    )

pub step-at-requires-clause-planned : goal.step-at-requires-clause-planned
step-at-requires-clause-planned c =
    subst (λ (plan : List Part). ArePlanned plan c.loop-at.work.items) (sym c.as_slice.ensures.value) c.loop-at.invariant.3.frames
