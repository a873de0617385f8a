use Rattle.nesting_laws.proofs.OnePlan.{plan_is_low}
use Rattle.nesting_laws.proofs.plan_is_low.Goals as goal

pub returns : goal.returns
returns c = plan_is_low
