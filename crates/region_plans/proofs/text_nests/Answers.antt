use Rattle.region_plans.proofs.Levels.{text_nests}
use Rattle.region_plans.proofs.text_nests.Goals as goal

pub returns : goal.returns
returns c = text_nests
