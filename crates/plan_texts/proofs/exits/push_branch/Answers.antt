use Rattle.std.proofs.Common.{sym, ◌∙◌}
use Rattle.std.proofs.lemmas.Result.{IfOk-weaker}
use Rattle.plan_texts.proofs.exits.push_branch.Goals as goal

pub returns-then-falls_to : goal.returns-then-falls_to
returns-then-falls_to c =
    IfOk-weaker c.push_last_branch.result _ _ (λ to x. x c.args.to (sym c.falls_to.ensures ∙ c.if-falls_to.true)) c.push_last_branch.ensures

pub returns-else-falls_to : goal.returns-else-falls_to
returns-else-falls_to c =
    IfOk-weaker c.push_way_out.result _ _ (λ to x. x (sym c.falls_to.ensures ∙ c.if-falls_to.false)) c.push_way_out.ensures
