use Rattle.condition_laws.proofs.Whole.{runs_alike}
use Rattle.condition_laws.proofs.made_runs_alike.Goals as goal

pub returns : goal.returns
returns c = runs_alike
