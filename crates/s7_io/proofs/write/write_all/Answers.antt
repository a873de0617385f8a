use Rattle.std.proofs.Common.{arith}
use Rattle.std.proofs.Math.Seq.{take-add}
use Rattle.std.proofs.lemmas.List.{take_rest}
use Rattle.s7_io.proofs.SinkLaws.{Took-more}
use Rattle.s7_io.proofs.write.write_all.Goals as goal

pub loop-done-preserved : goal.loop-done-preserved
loop-done-preserved g c = record {
  within = omega (arith, c.in-Ok.ensures.within);
  took =
      rw take-add
      (Took-more _ _ _ _ _ c.loop-done.invariant.took (rw take_rest at c.in-Ok.ensures.bytes));
  later = omega (arith, c.in-Ok.ensures.later);
}
