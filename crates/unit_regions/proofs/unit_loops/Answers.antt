use Rattle.unit_regions.proofs.Counting.{unit_loops}
use Rattle.unit_regions.proofs.unit_loops.Goals as goal

pub returns : goal.returns
returns c = unit_loops
