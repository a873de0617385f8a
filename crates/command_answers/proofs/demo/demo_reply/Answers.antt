use Rattle.std.proofs.Common.{◌≡◌, List, ℕ, Err, sym, ap, ◌∙◌}
use Rattle.s7_base.specs.declared.reason.Rejection.TheVariants as rejection
use Rattle.stl_rules.specs.Verdict.{verdict}
use Rattle.command_answers.proofs.DemoRuns.{answers_read, answers_refused}
use Rattle.command_answers.specs.declared.status.Status.TheVariants.{Refused}
use Rattle.command_answers.proofs.demo.demo_reply.Goals as goal

pub returns-in-Ok-clause-answer : goal.returns-in-Ok-clause-answer
returns-in-Ok-clause-answer c =
    answers_read c.args.networks c.in_ok-source.source.items c.requires c.in_ok-source.ensures.source c.in_ok-source.ensures.within
    c.in-Ok.program c.runs_reply-reply.result (ap verdict (sym c.as_slice.ensures.value) ∙ c.in-Ok.ensures.verdict)
    c.runs_reply-reply.ensures.answer

pub returns-in-Err-Refused-clause-answer : goal.returns-in-Err-Refused-clause-answer
returns-in-Err-Refused-clause-answer c =
    let judged : verdict c.as_slice.result.now ≡ Err (rejection.Refused c.in-Err-Refused.line c.in-Err-Refused.reason) =
    rw c.in-Err-Refused.field-0-is at c.in-Err-Refused.ensures.verdict in
    answers_refused c.args.networks c.in_ok-source.source.items c.requires c.in_ok-source.ensures.source c.in_ok-source.ensures.within
    c.in-Err-Refused.line c.in-Err-Refused.reason c.reply_of_text.result (ap verdict (sym c.as_slice.ensures.value) ∙ judged)
    (c.reply_of_text.ensures ∙ ap (λ (text : List ℕ). (Refused, text)) c.in_ok-refusal_line-in-Err-Refused.ensures)
