use Rattle.std.proofs.Common.{refl, ap}
use Rattle.command_answers.proofs.Answering.{done_alone, translates}
use Rattle.command_answers.proofs.InputsRead.{image_reads}
use Rattle.command_answers.specs.Answer.{AnswersCheck, AnswersRunStl, AnswersTranslate, accepted_line}
use Rattle.command_answers.specs.inner.Replies.{work_of}
use Rattle.command_answers.proofs.reply.program_reply.Goals as goal

pub returns-in_ok-text-in-Translate-clause-answer : goal.returns-in_ok-text-in-Translate-clause-answer
returns-in_ok-text-in-Translate-clause-answer g c =
    done_alone (work_of c.args.job.now) AnswersTranslate c.args.program.now _ c.reply_of_text.result
    c.in_ok-text-in-Translate.text.items (ap work_of c.in-Translate.is) c.reply_of_text.ensures (
      refl,
      translates c.args.program.now c.in_ok-tree-in-Translate.tree c.in_ok-text-in-Translate.text.items
          c.in_ok-tree-in-Translate.ensures.proper c.in_ok-tree-in-Translate.ensures.same c.in_ok-tree-in-Translate.ensures.named
          c.in_ok-tree-in-Translate.ensures.shape c.in_ok-text-in-Translate.ensures,
    )

pub returns-in-Check-clause-answer : goal.returns-in-Check-clause-answer
returns-in-Check-clause-answer g c =
    done_alone (work_of c.args.job.now) AnswersCheck c.args.program.now _ c.reply_of_line.result accepted_line
    (ap work_of c.in-Check.is) c.reply_of_line.ensures refl

pub returns-in-Run-clause-reads : goal.returns-in-Run-clause-reads
returns-in-Run-clause-reads g c =
    image_reads (work_of c.args.job.now) (AnswersRunStl c.in-Run.steps c.in-Run.call) _ _ (ap work_of c.in-Run.is) c.run_reply.ensures.reads
