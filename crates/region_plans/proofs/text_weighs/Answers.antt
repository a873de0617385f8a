use Rattle.region_plans.proofs.Texts.{text_weighs}
use Rattle.region_plans.proofs.text_weighs.Goals as goal

pub returns : goal.returns
returns c = text_weighs
