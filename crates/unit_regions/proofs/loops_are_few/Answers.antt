use Rattle.unit_regions.proofs.Counting.{loops_are_few}
use Rattle.unit_regions.proofs.loops_are_few.Goals as goal

pub returns : goal.returns
returns c = loops_are_few
