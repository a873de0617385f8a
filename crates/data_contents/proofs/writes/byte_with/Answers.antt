use Rattle.std.proofs.Common.{arith}
use Rattle.data_contents.proofs.Bits.{is_byte}
use Rattle.data_contents.proofs.writes.byte_with.Goals as goal

pub overflow_cast-result : goal.overflow_cast-result
overflow_cast-result c =
    omega (
      arith,
      is_byte c.from-all.result c.args.bit c.weight_of-weight.result c.from_bit.result c.worth_of.result c.requires (omega arith)
          c.weight_of-weight.ensures.same c.from_bit.ensures.same c.worth_of.ensures.few,
    )
