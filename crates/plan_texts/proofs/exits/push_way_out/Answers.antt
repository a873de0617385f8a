use Rattle.std.proofs.lemmas.Result.{IfOk-weaker}
use Rattle.plan_texts.proofs.Exiting.{out_branch}
use Rattle.plan_texts.proofs.exits.push_way_out.Goals as goal

pub returns : goal.returns
returns c =
    IfOk-weaker c.push_tail.result _ _
    (λ to x. out_branch c.args.context.blocks.now c.args.context.ending.now c.args.out.now c.new-body.result c.push_way.new.out c.new.result c.push.new.self
    c.push_tail.new.out c.args.context.tail c.args.part c.args.at c.args.to c.args.test c.in_ok-choice.field-0 c.in_ok-push_way.field-0 to c.requires.low
    c.new-body.ensures c.new.ensures c.in_ok-push_way.ensures c.in_ok-choice.ensures c.in_ok-push.ensures.ok x)
    c.push_tail.ensures
