use Rattle.nesting_laws.proofs.OnePlan.{one_plan}
use Rattle.nesting_laws.proofs.one_plan.Goals as goal

pub returns : goal.returns
returns c = one_plan
