use Rattle.std.proofs.Common.{sym, ◌∙◌}
use Rattle.command_answers.proofs.Answering.{demo_answered, usage_asked}
use Rattle.command_answers.proofs.InputsRead.{few_networks, reads_asked}
use Rattle.command_answers.specs.declared.reply.Task.TheVariants as task
use Rattle.command_answers.proofs.reply.reply_to.Goals as goal

pub demo_reply-requires : goal.demo_reply-requires
demo_reply-requires g c = few_networks c.in-Ok.command c.in-Demo.networks c.in-Ok.ensures.within (sym c.in-Demo.is ∙ c.task_of.ensures)

pub returns-in-Stl-clause-reads : goal.returns-in-Stl-clause-reads
returns-in-Stl-clause-reads g c =
    reads_asked _ c.in-Ok.command (task.Stl c.in-Stl.job) _ _ _ c.in-Ok.ensures.meant (sym c.in-Stl.is ∙ c.task_of.ensures) c.source_reply.ensures.reads

pub returns-in-St-clause-reads : goal.returns-in-St-clause-reads
returns-in-St-clause-reads g c =
    reads_asked _ c.in-Ok.command (task.St c.in-St.job) _ _ _ c.in-Ok.ensures.meant (sym c.in-St.is ∙ c.task_of.ensures) c.text_reply.ensures.reads

pub returns-in_ok-demo_reply-in-Demo-clause-answer : goal.returns-in_ok-demo_reply-in-Demo-clause-answer
returns-in_ok-demo_reply-in-Demo-clause-answer g c =
    demo_answered _ c.in-Ok.command c.in-Demo.networks _ _ _ c.in-Ok.ensures.meant (sym c.in-Demo.is ∙ c.task_of.ensures)
    c.in_ok-demo_reply-in-Demo.ensures.answer c.in_ok-demo_reply-in-Demo.ensures.status.0

pub returns-in-Err-Usage-clause-answer : goal.returns-in-Err-Usage-clause-answer
returns-in-Err-Usage-clause-answer g c =
    usage_asked _ _ _ c.reply_of_line.result (rw c.in-Err-Usage.field-0-is at c.in-Err-Usage.ensures.meant) c.reply_of_line.ensures
