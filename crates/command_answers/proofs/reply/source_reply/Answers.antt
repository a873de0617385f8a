use Rattle.std.proofs.Common.{◌≡◌, ◌∙◌, List, ℕ, Err, refl, sym, ap}
use Rattle.s7_base.specs.declared.reason.Rejection.TheVariants as rejection
use Rattle.stl_rules.specs.Verdict.{verdict}
use Rattle.command_answers.proofs.Answering.{source_long, source_read, source_refused}
use Rattle.command_answers.proofs.InputsRead.{not_none, refused_alone, refused_wants_none, work_reads}
use Rattle.command_answers.specs.Answer.{AnswersWork, IsAcceptedAs, IsRefusedSource, WantsRow, stl}
use Rattle.command_answers.specs.declared.status.Status.TheVariants.{Refused}
use Rattle.command_answers.specs.inner.Replies.{work_of}
use Rattle.command_answers.proofs.reply.source_reply.Goals as goal

pub returns-in-Ok-None-clause-answer : goal.returns-in-Ok-None-clause-answer
returns-in-Ok-None-clause-answer g c =
    source_long IsAcceptedAs IsRefusedSource (AnswersWork (work_of c.args.job.now)) _ _ c.reply_of_line.result
    (rw c.in-Ok-None.field-0-is at c.in-Ok-None.ensures.found) c.reply_of_line.ensures

pub returns-in-Ok-clause-answer : goal.returns-in-Ok-clause-answer
returns-in-Ok-clause-answer g c =
    let found = rw c.in-Ok-Some.field-0-is at c.in-Ok-Some.ensures.found in
    source_read IsAcceptedAs IsRefusedSource (AnswersWork (work_of c.args.job.now)) _
    _ c.in-Ok-Some.source.items c.in-Ok.program c.program_reply-reply.result found.0 found.1
    (ap verdict (sym c.as_slice.ensures.value) ∙ c.in-Ok.ensures.verdict) c.program_reply-reply.ensures.answer

pub returns-in-Ok-clause-reads : goal.returns-in-Ok-clause-reads
returns-in-Ok-clause-reads g c =
    let found = rw c.in-Ok-Some.field-0-is at c.in-Ok-Some.ensures.found in
    work_reads IsAcceptedAs (work_of c.args.job.now) _ _ c.in-Ok-Some.source.items c.in-Ok.program _ found.0 found.1
    (c.read_input.ensures.within (not_none c.in-Ok-Some.field-0 c.in-Ok-Some.source c.in-Ok-Some.field-0-is c.read_input.result c.in-Ok-Some.is))
    (ap verdict (sym c.as_slice.ensures.value) ∙ c.in-Ok.ensures.verdict) c.program_reply-reply.ensures.reads

pub returns-in-Err-Refused-clause-answer : goal.returns-in-Err-Refused-clause-answer
returns-in-Err-Refused-clause-answer g c =
    let found = rw c.in-Ok-Some.field-0-is at c.in-Ok-Some.ensures.found in
    let refused : verdict c.as_slice.result.now ≡ Err (rejection.Refused c.in-Err-Refused.line c.in-Err-Refused.reason) =
    rw c.in-Err-Refused.field-0-is at c.in-Err-Refused.ensures.verdict in
    source_refused IsAcceptedAs IsRefusedSource (AnswersWork (work_of c.args.job.now)) _ _
    c.in-Ok-Some.source.items c.in-Err-Refused.line c.in-Err-Refused.reason c.reply_of_text.result found.0 found.1
    (ap verdict (sym c.as_slice.ensures.value) ∙ refused)
    (c.reply_of_text.ensures ∙ ap (λ (text : List ℕ). (Refused, text)) c.in_ok-refusal_line-in-Err-Refused.ensures)

pub returns-in-Err-Refused-clause-reads : goal.returns-in-Err-Refused-clause-reads
returns-in-Err-Refused-clause-reads g c =
    let found = rw c.in-Ok-Some.field-0-is at c.in-Ok-Some.ensures.found in
    let refused : verdict c.as_slice.result.now ≡ Err (rejection.Refused c.in-Err-Refused.line c.in-Err-Refused.reason) =
    rw c.in-Err-Refused.field-0-is at c.in-Err-Refused.ensures.verdict in
    refused_alone (WantsRow (stl (work_of c.args.job.now))) _ _ c.in-Ok-Some.source.items c.reply_of_text.result _ c.reply_of_text.ensures found.0
    (refused_wants_none (work_of c.args.job.now) c.in-Ok-Some.source.items c.in-Err-Refused.line c.in-Err-Refused.reason
    (ap verdict (sym c.as_slice.ensures.value) ∙ refused))
    (record { left = refl; faults = refl })
