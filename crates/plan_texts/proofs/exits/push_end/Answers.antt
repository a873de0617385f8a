use Rattle.std.proofs.Common.{sym, ◌∙◌}
use Rattle.std.proofs.lemmas.Result.{IfOk-weaker}
use Rattle.plan_texts.proofs.Exiting.{end_off, end_out}
use Rattle.plan_texts.proofs.exits.push_end.Goals as goal

pub returns-then-ends_last : goal.returns-then-ends_last
returns-then-ends_last c =
    end_off c.args.context.blocks.now c.args.context.ending.now c.args.out.now c.args.context.tail c.args.part c.args.at c.requires.low
    (sym c.ends_last.ensures ∙ c.if-ends_last.true)

pub returns-else-ends_last : goal.returns-else-ends_last
returns-else-ends_last c =
    IfOk-weaker c.push_out.result _ _
    (λ to x. end_out c.args.context.blocks.now c.args.context.ending.now c.args.out.now c.push_out.new.out c.args.context.tail c.args.part c.args.at to
    c.requires.low
    (sym c.ends_last.ensures ∙ c.if-ends_last.false) x)
    c.push_out.ensures
