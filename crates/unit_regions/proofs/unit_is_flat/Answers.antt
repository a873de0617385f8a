use Rattle.unit_regions.proofs.Weighing.{unit_is_flat}
use Rattle.unit_regions.proofs.unit_is_flat.Goals as goal

pub returns : goal.returns
returns c = unit_is_flat
