use Rattle.std.proofs.Common.{sym, ◌∙◌}
use Rattle.std.proofs.lemmas.Result.{IfOk-weaker}
use Rattle.plan_texts.proofs.Exiting.{way_to_behind, way_to_end, way_to_head}
use Rattle.plan_texts.proofs.leads.push_loop_way.Goals as goal

pub returns-then-to-head : goal.returns-then-to-head
returns-then-to-head c =
    IfOk-weaker c.push_out.result _ _
    (λ to x. way_to_head c.args.context.blocks.now c.args.context.ending.now c.args.out.now c.push_out.new.out c.args.left c.args.head
    c.args.last c.args.to to
    c.if-to-head.true x)
    c.push_out.ensures

pub returns-then-leaves : goal.returns-then-leaves
returns-then-leaves c =
    IfOk-weaker c.push_out-then-leaves.result _ _
    (λ to x. way_to_behind c.args.context.blocks.now c.args.context.ending.now c.args.out.now c.push_out-then-leaves.new.out c.args.left c.args.head
    c.args.last c.args.to to
    c.if-to-head.false (sym c.leaves.ensures ∙ c.if-leaves.true) x)
    c.push_out-then-leaves.ensures

pub returns : goal.returns
returns c =
    IfOk-weaker c.push_ending.result _ _
    (λ to x. way_to_end c.args.context.blocks.now c.args.context.ending.now c.args.out.now c.push_ending.new.out c.args.left c.args.head
    c.args.last c.args.to to
    c.if-to-head.false (sym c.leaves.ensures ∙ c.if-leaves.false) x)
    c.push_ending.ensures
