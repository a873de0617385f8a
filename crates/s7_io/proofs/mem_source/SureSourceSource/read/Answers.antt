use Rattle.std.proofs.Common.{arith}
use Rattle.std.proofs.lemmas.List.{length-take}
use Rattle.s7_io.proofs.SourceLaws.{copied-front}
use Rattle.s7_io.proofs.mem_source.SureSourceSource.read.Goals as goal

pub returns-clause-bytes : goal.returns-clause-bytes
returns-clause-bytes c =
    rw (← c.self.view_is)
    (copied-front _ _ _ _ _ _ c.deref.ensures.value c.copy_from_slice.ensures.after
    (omega (arith, c.copy_from_slice.ensures.len, length-take c.min-count.result c.args.buf.now)))
