use Rattle.condition_laws.proofs.Whole.{stays_proper}
use Rattle.condition_laws.proofs.made_is_proper.Goals as goal

pub returns : goal.returns
returns c = stays_proper
