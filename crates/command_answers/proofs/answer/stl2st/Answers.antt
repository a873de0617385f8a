use Rattle.std.proofs.Common.{refl}
use Rattle.command_answers.proofs.Finishing.{complete, no_memory, nothing_read, translated, write_cause, written}
use Rattle.command_answers.proofs.InputsRead.{inputs_read, read_cause}
use Rattle.command_answers.specs.declared.status.Status.TheVariants.{ReadFault}
use Rattle.command_answers.proofs.answer.stl2st.Goals as goal

pub returns-in-Ok-clause-reads : goal.returns-in-Ok-clause-reads
returns-in-Ok-clause-reads g c =
    inputs_read _ _ _ _ _ c.in-Ok.reply.status c.finish.result c.as_bytes.result.now c.in-Ok.ensures.answer.written c.finish.ensures.ends c.in-Ok.ensures.reads

pub returns-in-Ok-clause-translated : goal.returns-in-Ok-clause-translated
returns-in-Ok-clause-translated g c =
    translated _ c.finish.result _
    (written _ _ c.in-Ok.reply c.finish.result c.as_bytes.result.now c.in-Ok.ensures.answer c.as_bytes.ensures c.finish.ensures.ends)

pub returns-in-Ok-clause-complete : goal.returns-in-Ok-clause-complete
returns-in-Ok-clause-complete g c =
    complete _ c.finish.result _
    (written _ _ c.in-Ok.reply c.finish.result c.as_bytes.result.now c.in-Ok.ensures.answer c.as_bytes.ensures c.finish.ensures.ends)
    (record {
      read_fault = read_cause _ _ _ c.finish.result
          (inputs_read _ _ _ _ _ c.in-Ok.reply.status c.finish.result c.as_bytes.result.now
          c.in-Ok.ensures.answer.written c.finish.ensures.ends c.in-Ok.ensures.reads);
      write_fault = write_cause _ c.in-Ok.reply.status c.finish.result c.in-Ok.ensures.answer.written c.finish.ensures.cause;
    })

pub returns-in-Err-ReadFault-clause-writes : goal.returns-in-Err-ReadFault-clause-writes
returns-in-Err-ReadFault-clause-writes g c = nothing_read _ _ refl

pub returns-in-Err-NoMemory-clause-writes : goal.returns-in-Err-NoMemory-clause-writes
returns-in-Err-NoMemory-clause-writes g c = no_memory _ _ refl

pub returns-in-Err-ReadFault-clause-cause : goal.returns-in-Err-ReadFault-clause-cause
returns-in-Err-ReadFault-clause-cause g c =
    record {
      read_fault = read_cause _ _ _ ReadFault (rw c.in-Err-ReadFault.field-0-is at c.in-Err-ReadFault.ensures.reads);
      write_fault = λ e. absurd cc;
    }
