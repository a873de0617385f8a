use Rattle.std.proofs.Common.{sym, ◌∙◌}
use Rattle.std.proofs.lemmas.Result.{IfOk-weaker}
use Rattle.plan_texts.proofs.Exiting.{ending_off, ending_out}
use Rattle.plan_texts.proofs.leads.push_ending.Goals as goal

pub returns-then-not-is_end : goal.returns-then-not-is_end
returns-then-not-is_end c =
    ending_off c.args.context.blocks.now c.args.context.ending.now c.args.out.now c.args.to (sym c.is_end.ensures ∙ c.if-not-is_end.true)

pub returns : goal.returns
returns c =
    IfOk-weaker c.push_out.result _ _
    (λ to x. ending_out c.args.context.blocks.now c.args.context.ending.now c.in_ok-settings.field-0 c.args.out.now c.push_all.new.out c.push_out.new.out
    c.args.to to
    (sym c.is_end.ensures ∙ c.if-not-is_end.false) c.in_ok-settings.ensures c.in_ok-push_all.ensures x)
    c.push_out.ensures
