use denote.Enum.Bare.{differs_false, differs_true}
use Rattle.std.proofs.Common.{◌≡◌, ◌≢◌, List, ℕ, true, false, sym, ap, ◌∙◌}
use Rattle.memory_areas.specs.Areas.{fresh}
use Rattle.memory_areas.specs.declared.data_block.DataBlock.{DataBlock}
use Rattle.std.proofs.lemmas.Slice.Eq.{bytes_eq-Decides}
use Rattle.command_answers.proofs.DemoRuns.{answers_run, answers_summary, same_reports}
use Rattle.command_answers.specs.contracts.status.Status.{the_type}
use Rattle.command_answers.specs.declared.status.Status.TheVariants.{Done}
use Rattle.command_answers.proofs.demo.runs_reply.Goals as goal

pub returns-then-ne-clause-answer : goal.returns-then-ne-clause-answer
returns-then-ne-clause-answer c =
    let new : c.in_ok-memory.memory ≡ fresh c.args.program.now.dbs =
    c.in_ok-memory.ensures.fresh ∙ ap (λ (dbs : List DataBlock). fresh dbs) c.as_slice.ensures in
    let other : c.in_ok-reply.reply.status ≢ Done = differs_true the_type _ _ (sym c.ne.ensures ∙ c.if-ne.true) in
    answers_run c.args.networks c.args.program.now c.demo_call-call.result c.in_ok-memory.memory c.demo_call-call.ensures new
    c.in_ok-reply.reply other c.in_ok-reply.ensures.answer

pub unreachable-requires : goal.unreachable-requires
unreachable-requires c =
    let new : c.in_ok-memory.memory ≡ fresh c.args.program.now.dbs =
    c.in_ok-memory.ensures.fresh ∙ ap (λ (dbs : List DataBlock). fresh dbs) c.as_slice.ensures in
    let done : c.in_ok-reply.reply.status ≡ Done = differs_false the_type tt _ _ (sym c.ne.ensures ∙ c.if-ne.false) in
    let same : c.as_bytes.result.now ≡ c.as_bytes-2.result.now =
    c.as_bytes.ensures
    ∙ same_reports c.args.networks c.args.program.now c.demo_call-call.result c.in_ok-memory.memory c.demo_call-call.ensures new
    c.in_ok-reply.reply c.in_ok-translated.translated done c.in_ok-reply.ensures.answer c.in_ok-translated.ensures
    ∙ sym c.as_bytes-2.ensures in
    let equal : c.eq.result ≡ true = c.eq.ensures ∙ (bytes_eq-Decides c.as_bytes.result.now c.as_bytes-2.result.now).1 same in
    let unequal : c.eq.result ≡ false = c.if-eq.false in
    absurd cc

pub returns-clause-answer : goal.returns-clause-answer
returns-clause-answer c =
    let new : c.in_ok-memory.memory ≡ fresh c.args.program.now.dbs =
    c.in_ok-memory.ensures.fresh ∙ ap (λ (dbs : List DataBlock). fresh dbs) c.as_slice.ensures in
    let done : c.in_ok-reply.reply.status ≡ Done = differs_false the_type tt _ _ (sym c.ne.ensures ∙ c.if-ne.false) in
    answers_summary c.args.networks c.args.program.now c.demo_call-call.result c.in_ok-memory.memory c.demo_call-call.ensures new
    c.in_ok-reply.reply _ done c.in_ok-reply.ensures.answer
    (c.reply_of_text.ensures ∙ ap (λ (text : List ℕ). (Done, text)) c.in_ok-summary.ensures)
