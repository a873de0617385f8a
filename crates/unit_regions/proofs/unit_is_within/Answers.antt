use Rattle.unit_regions.proofs.Weighing.{unit_is_within}
use Rattle.unit_regions.proofs.unit_is_within.Goals as goal

pub returns : goal.returns
returns c = unit_is_within
