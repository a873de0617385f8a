use Rattle.shape_laws.proofs.Once.{made_has_each_once}
use Rattle.shape_laws.proofs.made_has_each_once.Goals as goal

pub returns : goal.returns
returns c = made_has_each_once
