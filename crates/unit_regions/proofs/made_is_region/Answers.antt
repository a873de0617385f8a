use Rattle.unit_regions.proofs.WholeUnit.{made_is_region}
use Rattle.unit_regions.proofs.made_is_region.Goals as goal

pub returns : goal.returns
returns c = made_is_region
