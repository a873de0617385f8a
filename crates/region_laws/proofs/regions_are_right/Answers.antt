use Rattle.region_laws.proofs.Whole.{regions_right}
use Rattle.region_laws.proofs.regions_are_right.Goals as goal

pub returns : goal.returns
returns c = regions_right
