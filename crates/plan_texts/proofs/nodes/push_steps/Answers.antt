use Rattle.plan_texts.proofs.Texts.{first_taken, none_taken}
use Rattle.plan_texts.proofs.nodes.push_steps.Goals as goal

pub returns-in_default : goal.returns-in_default
returns-in_default c = none_taken c.args.nodes.now.items c.pop_front.new.self.items c.args.out.now c.in_default.ensures.items c.in_default.ensures.rest

pub returns : goal.returns
returns c =
    first_taken c.args.nodes.now.items c.pop_front.new.self.items c.in-Some.node c.args.out.now c.push_all.new.out c.in-Some.ensures.items
    c.in_ok-push_all.ensures
