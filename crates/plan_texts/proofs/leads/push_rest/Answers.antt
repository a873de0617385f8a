use Rattle.std.proofs.Common.{sym, ◌∙◌, arith}
use Rattle.std.proofs.lemmas.Result.{IfOk-weaker}
use Rattle.plan_texts.proofs.Exiting.{rest_falls_off, rest_goes_on, rest_leaves}
use Rattle.plan_texts.proofs.leads.push_rest.Goals as goal

pub returns-then-end-part : goal.returns-then-end-part
returns-then-end-part c =
    rest_goes_on c.args.context.blocks.now c.args.context.ending.now c.args.out.now c.args.context.tail c.args.part c.args.end c.if-end-part.true

pub returns-then-falls_at : goal.returns-then-falls_at
returns-then-falls_at c =
    rest_falls_off c.args.context.blocks.now c.args.context.ending.now c.args.out.now c.args.context.tail c.args.part c.args.end
    (omega (arith, c.if-end-part.false)) (sym c.falls_at.ensures ∙ c.if-falls_at.true)

pub returns : goal.returns
returns c =
    IfOk-weaker c.push_way.result _ _
    (λ to x. rest_leaves c.args.context.blocks.now c.args.context.ending.now c.args.out.now c.push_way.new.out c.args.context.tail c.args.part c.args.end to
    (omega (arith, c.if-end-part.false)) (sym c.falls_at.ensures ∙ c.if-falls_at.false) x)
    c.push_way.ensures
