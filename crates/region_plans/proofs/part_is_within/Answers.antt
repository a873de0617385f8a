use Rattle.region_plans.proofs.Counting.{part_is_within}
use Rattle.region_plans.proofs.part_is_within.Goals as goal

pub returns : goal.returns
returns c = part_is_within
