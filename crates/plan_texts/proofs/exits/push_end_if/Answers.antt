use Rattle.std.proofs.lemmas.Result.{IfOk-weaker}
use Rattle.plan_texts.proofs.Exiting.{end_if}
use Rattle.plan_texts.proofs.exits.push_end_if.Goals as goal

pub returns : goal.returns
returns c =
    IfOk-weaker c.push_tail.result _ _
    (λ to x. end_if c.args.context.blocks.now c.args.context.ending.now c.args.out.now c.in_ok-body.body c.new.result c.push.new.self c.push_tail.new.out
    c.args.context.tail
    c.args.part c.args.at c.args.test c.in_ok-choice.field-0 to c.in_ok-body.ensures c.new.ensures c.in_ok-choice.ensures c.in_ok-push.ensures.ok x)
    c.push_tail.ensures
