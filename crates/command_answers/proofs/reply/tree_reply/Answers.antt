use Rattle.std.proofs.Common.{List, ℕ, Err, ap, sym, subst, ◌∙◌}
use Rattle.image_text.specs.Image.{image_of}
use Rattle.image_text.specs.Reading.{Reads}
use Rattle.memory_areas.specs.declared.data_block.DataBlock.{DataBlock}
use Rattle.st_tree.specs.StRun.{FitsSt, st_run}
use Rattle.command_answers.proofs.Answering.{run_from, run_refused, run_too_long}
use Rattle.command_answers.specs.inner.Replies.{whole}
use Rattle.command_answers.proofs.reply.tree_reply.Goals as goal

pub returns-in-Ok-None-clause-answer : goal.returns-in-Ok-None-clause-answer
returns-in-Ok-None-clause-answer g c =
    run_too_long c.args.tree.now.dbs (FitsSt c.args.tree.now c.args.call.now)
    (λ memory. st_run c.args.tree.now c.args.call.now memory c.args.units) _ c.reply_of_line.result
    (rw c.in-Ok-None.field-0-is at c.in-Ok-None.ensures.found) c.reply_of_line.ensures

pub returns-in-Ok-clause-answer : goal.returns-in-Ok-clause-answer
returns-in-Ok-clause-answer g c =
    let found = rw c.in-Ok-Some.field-0-is at c.in-Ok-Some.ensures.found in
    run_from c.args.tree.now.dbs (FitsSt c.args.tree.now c.args.call.now)
    (λ memory. st_run c.args.tree.now c.args.call.now memory c.args.units) _ _ c.in-Ok-Some.text.items c.in-Ok.memory found.0 found.1
    (ap (λ (bytes : List ℕ). image_of bytes c.args.tree.now.dbs) (sym c.as_slice.ensures.value)
    ∙ ap (λ (dbs : List DataBlock). image_of c.as_slice.result.now dbs) (sym c.as_slice-2.ensures) ∙ c.in-Ok.ensures.reads)
    c.in_ok-text_call_reply-in-Ok.ensures.answer c.in_ok-text_call_reply-in-Ok.ensures.status.0

pub returns-in-Ok-clause-reads : goal.returns-in-Ok-clause-reads
returns-in-Ok-clause-reads g c =
    let found = rw c.in-Ok-Some.field-0-is at c.in-Ok-Some.ensures.found in
    whole c.in-Ok-Some.text.items c.in_ok-text_call_reply-in-Ok.ensures.status.1 found.0

pub returns-clause-answer : goal.returns-clause-answer
returns-clause-answer g c =
    let found = rw c.in-Ok-Some.field-0-is at c.in-Ok-Some.ensures.found in
    let judged : Reads (Err c.in-Err-read_image.refusal) (image_of c.in-Ok-Some.text.items c.args.tree.now.dbs) =
    subst (λ (bytes : List ℕ). Reads (Err c.in-Err-read_image.refusal) (image_of bytes c.args.tree.now.dbs)) c.as_slice.ensures.value
    (subst (λ (dbs : List DataBlock). Reads (Err c.in-Err-read_image.refusal) (image_of c.as_slice.result.now dbs))
    c.as_slice-2.ensures c.in-Err-read_image.ensures.reads) in
    run_refused c.args.tree.now.dbs (FitsSt c.args.tree.now c.args.call.now)
    (λ memory. st_run c.args.tree.now c.args.call.now memory c.args.units) _ _ c.in-Ok-Some.text.items c.in-Err-read_image.refusal found.0 found.1 judged
    c.in_ok-image_reply-in-Err-read_image.ensures.value c.in_ok-image_reply-in-Err-read_image.ensures.status.0

pub returns-clause-reads : goal.returns-clause-reads
returns-clause-reads g c =
    let found = rw c.in-Ok-Some.field-0-is at c.in-Ok-Some.ensures.found in
    whole c.in-Ok-Some.text.items c.in_ok-image_reply-in-Err-read_image.ensures.status.1 found.0
