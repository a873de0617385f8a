use Rattle.region_plans.proofs.Counting.{part_is_flat}
use Rattle.region_plans.proofs.part_is_flat.Goals as goal

pub returns : goal.returns
returns c = part_is_flat
