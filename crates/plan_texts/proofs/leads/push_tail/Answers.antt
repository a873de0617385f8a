use Rattle.std.proofs.Common.{sym, ◌∙◌}
use Rattle.std.proofs.lemmas.Result.{IfOk-weaker}
use Rattle.plan_texts.proofs.Exiting.{tail_falls_off, tail_goes_on, tail_leaves}
use Rattle.plan_texts.proofs.leads.push_tail.Goals as goal

pub returns-then-is_next : goal.returns-then-is_next
returns-then-is_next c =
    tail_goes_on c.args.context.blocks.now c.args.context.ending.now c.args.out.now c.args.context.tail c.args.part c.args.at c.args.to c.requires.low
    (sym c.is_next.ensures ∙ c.if-is_next.true)

pub returns-then-falls_to : goal.returns-then-falls_to
returns-then-falls_to c =
    tail_falls_off c.args.context.blocks.now c.args.context.ending.now c.args.out.now c.args.context.tail c.args.part c.args.at c.args.to c.requires.low
    (sym c.is_next.ensures ∙ c.if-is_next.false) (sym c.falls_to.ensures ∙ c.if-falls_to.true)

pub returns : goal.returns
returns c =
    IfOk-weaker c.push_way.result _ _
    (λ to x. tail_leaves c.args.context.blocks.now c.args.context.ending.now c.args.out.now c.push_way.new.out c.args.context.tail c.args.part c.args.at
    c.args.to to
    c.requires.low (sym c.is_next.ensures ∙ c.if-is_next.false) (sym c.falls_to.ensures ∙ c.if-falls_to.false) x)
    c.push_way.ensures
