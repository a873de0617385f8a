use Rattle.std.proofs.Common.{◌∙◌, List, ℕ, refl, ap, subst}
use Rattle.st_parser.specs.Texts.{IsTextOf, IsRefusedText}
use Rattle.command_answers.proofs.Answering.{source_long, source_read, source_refused}
use Rattle.command_answers.proofs.InputsRead.{not_none, refused_alone, refused_text_wants_none, work_reads}
use Rattle.command_answers.specs.Answer.{AnswersWork, WantsRow, st}
use Rattle.command_answers.specs.declared.status.Status.TheVariants.{Refused}
use Rattle.command_answers.specs.inner.Replies.{text_work_of}
use Rattle.command_answers.proofs.reply.text_reply.Goals as goal

pub returns-in-Ok-None-clause-answer : goal.returns-in-Ok-None-clause-answer
returns-in-Ok-None-clause-answer g c =
    source_long IsTextOf IsRefusedText (AnswersWork (text_work_of c.args.job.now)) _ _ c.reply_of_line.result
    (rw c.in-Ok-None.field-0-is at c.in-Ok-None.ensures.found) c.reply_of_line.ensures

pub returns-in-Ok-clause-answer : goal.returns-in-Ok-clause-answer
returns-in-Ok-clause-answer g c =
    let found = rw c.in-Ok-Some.field-0-is at c.in-Ok-Some.ensures.found in
    source_read IsTextOf IsRefusedText (AnswersWork (text_work_of c.args.job.now))
    _ _ c.in-Ok-Some.source.items c.in-Ok.tree c.read_reply.result found.0 found.1
    (subst (λ (bytes : List ℕ). IsTextOf bytes c.in-Ok.tree) c.as_slice.ensures.value c.in-Ok.ensures.tree) c.read_reply.ensures.answer

pub returns-in-Ok-clause-reads : goal.returns-in-Ok-clause-reads
returns-in-Ok-clause-reads g c =
    let found = rw c.in-Ok-Some.field-0-is at c.in-Ok-Some.ensures.found in
    work_reads IsTextOf (text_work_of c.args.job.now) _ _ c.in-Ok-Some.source.items c.in-Ok.tree _ found.0 found.1
    (c.read_input.ensures.within (not_none c.in-Ok-Some.field-0 c.in-Ok-Some.source c.in-Ok-Some.field-0-is c.read_input.result c.in-Ok-Some.is))
    (subst (λ (bytes : List ℕ). IsTextOf bytes c.in-Ok.tree) c.as_slice.ensures.value c.in-Ok.ensures.tree) c.read_reply.ensures.reads

pub returns-in-Err-Refused-clause-answer : goal.returns-in-Err-Refused-clause-answer
returns-in-Err-Refused-clause-answer g c =
    let found = rw c.in-Ok-Some.field-0-is at c.in-Ok-Some.ensures.found in
    let refused : IsRefusedText c.as_slice.result.now c.in-Err-Refused.line c.in-Err-Refused.reason =
    rw c.in-Err-Refused.field-0-is at c.in-Err-Refused.ensures.refused in
    source_refused IsTextOf IsRefusedText (AnswersWork (text_work_of c.args.job.now)) _ _
    c.in-Ok-Some.source.items c.in-Err-Refused.line c.in-Err-Refused.reason c.reply_of_text.result found.0 found.1
    (subst (λ (bytes : List ℕ). IsRefusedText bytes c.in-Err-Refused.line c.in-Err-Refused.reason) c.as_slice.ensures.value refused)
    (c.reply_of_text.ensures ∙ ap (λ (text : List ℕ). (Refused, text)) c.in_ok-written-in-Err-Refused.ensures)

pub returns-in-Err-Refused-clause-reads : goal.returns-in-Err-Refused-clause-reads
returns-in-Err-Refused-clause-reads g c =
    let found = rw c.in-Ok-Some.field-0-is at c.in-Ok-Some.ensures.found in
    let refused : IsRefusedText c.as_slice.result.now c.in-Err-Refused.line c.in-Err-Refused.reason =
    rw c.in-Err-Refused.field-0-is at c.in-Err-Refused.ensures.refused in
    refused_alone (WantsRow (st (text_work_of c.args.job.now))) _ _ c.in-Ok-Some.source.items c.reply_of_text.result _ c.reply_of_text.ensures found.0
    (refused_text_wants_none (text_work_of c.args.job.now) c.in-Ok-Some.source.items c.in-Err-Refused.line c.in-Err-Refused.reason
    (subst (λ (bytes : List ℕ). IsRefusedText bytes c.in-Err-Refused.line c.in-Err-Refused.reason) c.as_slice.ensures.value refused))
    (record { left = refl; faults = refl })
