use Rattle.region_plans.proofs.Fitting.{empty_is_off}
use Rattle.region_plans.proofs.empty_is_off.Goals as goal

pub returns : goal.returns
returns c = empty_is_off
