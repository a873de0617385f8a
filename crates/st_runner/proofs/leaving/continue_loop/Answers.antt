use Rattle.st_tree.proofs.Common.{[], ◌∷◌, ◌++◌, ap, sym, ◌∙◌, Continues, Normal}
use Rattle.st_runner.proofs.Common.{size, unit_costs, resume_frame}
use Rattle.st_runner.proofs.Stack.{passed, stopped}
use Rattle.st_runner.proofs.leaving.continue_loop.Goals as goal

pub loop-frame-preserved : goal.loop-frame-preserved
loop-frame-preserved c = (
  passed Continues Continues _ c.loop-frame.work.items c.pop.new.self.items c.in-Some.frame (ap (size unit_costs) c.in-Rest.is)
      (λ g d u s. ap (λ f. resume_frame g d f (Continues u s)) c.in-Rest.is) c.in-Some.ensures.items c.loop-frame.invariant.0,
  c.in-Some.ensures.capacity ∙ c.loop-frame.invariant.1,
)

pub returns-in-Again-clause-leaves : goal.returns-in-Again-clause-leaves
returns-in-Again-clause-leaves c =
    stopped Continues c.args.work.now.items c.loop-frame.work.items c.pop.new.self.items c.push_reserved.new.self.items c.in-Some.frame
    (λ g d u s. ap (λ f. resume_frame g d f (Continues u s)) c.in-Again.is ∙ ap (λ f. resume_frame g d f (Normal u s)) (sym c.in-Again.is))
    c.in-Some.ensures.items (c.push_reserved.ensures.items ∙ ap (λ f. c.pop.new.self.items ++ f ∷ []) (sym c.in-Again.is)) c.loop-frame.invariant.0

pub returns-in-Unit-clause-leaves : goal.returns-in-Unit-clause-leaves
returns-in-Unit-clause-leaves c =
    stopped Continues c.args.work.now.items c.loop-frame.work.items c.pop.new.self.items c.push_reserved-in-Unit.new.self.items c.in-Some.frame
    (λ g d u s. ap (λ f. resume_frame g d f (Continues u s)) c.in-Unit.is ∙ ap (λ f. resume_frame g d f (Normal u s)) (sym c.in-Unit.is))
    c.in-Some.ensures.items (c.push_reserved-in-Unit.ensures.items ∙ ap (λ f. c.pop.new.self.items ++ f ∷ []) (sym c.in-Unit.is)) c.loop-frame.invariant.0
