use Rattle.command_answers.proofs.DemoRuns.{translated_reply}
use Rattle.command_answers.proofs.demo.translation_reply.Goals as goal

pub returns : goal.returns
returns c =
    translated_reply c.args.program.now c.args.call.now c.in_ok-tree.tree c.as_slice.result.now c.in_ok-memory.memory
    c.text_call_reply-reply.result c.in_ok-tree.ensures.same c.as_slice.ensures c.in_ok-memory.ensures.fresh
    c.in_ok-memory.ensures.memory c.text_call_reply-reply.ensures.answer
