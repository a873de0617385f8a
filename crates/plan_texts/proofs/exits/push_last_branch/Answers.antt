use Rattle.plan_texts.proofs.Exiting.{last_branch}
use Rattle.plan_texts.proofs.exits.push_last_branch.Goals as goal

pub returns : goal.returns
returns c = λ to e.
    last_branch c.args.context.blocks.now c.args.context.ending.now c.args.out.now c.push.new.self c.new-other.result c.push_tail.new.out c.new.result
    c.args.context.tail c.args.part c.args.at to c.args.test c.in_ok-choice.field-0 c.in_ok-push_tail.field-0 c.requires.low c.new-other.ensures
    c.new.ensures e
    c.in_ok-push_tail.ensures c.in_ok-choice.ensures c.in_ok-push.ensures.ok
