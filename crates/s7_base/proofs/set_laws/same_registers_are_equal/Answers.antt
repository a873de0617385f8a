use Rattle.s7_base.proofs.Sets.{same_sets}
use Rattle.s7_base.proofs.set_laws.same_registers_are_equal.Goals as goal

pub returns : goal.returns
returns c = same_sets
