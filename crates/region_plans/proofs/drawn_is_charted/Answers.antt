use Rattle.region_plans.proofs.Drawn.{drawn_is_charted}
use Rattle.region_plans.proofs.drawn_is_charted.Goals as goal

pub returns : goal.returns
returns c = drawn_is_charted
