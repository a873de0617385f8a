use Rattle.unit_regions.proofs.Shorts.{unit_is_short}
use Rattle.unit_regions.proofs.unit_is_short.Goals as goal

pub returns : goal.returns
returns c = unit_is_short
