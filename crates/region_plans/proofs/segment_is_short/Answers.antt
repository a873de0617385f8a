use Rattle.region_plans.proofs.Shorts.{segment_is_short}
use Rattle.region_plans.proofs.segment_is_short.Goals as goal

pub returns : goal.returns
returns c = segment_is_short
