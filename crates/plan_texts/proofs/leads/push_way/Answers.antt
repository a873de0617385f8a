use Rattle.std.proofs.lemmas.Result.{IfOk-weaker}
use Rattle.segment_plans.specs.declared.planning.Around.TheVariants as around
use Rattle.plan_texts.proofs.Exiting.{way_at}
use Rattle.plan_texts.proofs.leads.push_way.Goals as goal

pub returns-in-NoLoop : goal.returns-in-NoLoop
returns-in-NoLoop c =
    IfOk-weaker c.push_ending.result _ _
    (λ to x. way_at c.args.context.blocks.now c.args.context.ending.now c.args.out.now c.push_ending.new.out c.args.to c.args.around around.NoLoop to
    c.in-NoLoop.is x)
    c.push_ending.ensures

pub returns-in-Inside : goal.returns-in-Inside
returns-in-Inside c =
    IfOk-weaker c.push_loop_way.result _ _
    (λ to x. way_at c.args.context.blocks.now c.args.context.ending.now c.args.out.now c.push_loop_way.new.out c.args.to c.args.around
    (around.Inside c.in-Inside.head c.in-Inside.last c.in-Inside.left) to c.in-Inside.is x)
    c.push_loop_way.ensures
