use Rattle.shape_laws.proofs.Shortness.{made_is_short}
use Rattle.shape_laws.proofs.made_is_short.Goals as goal

pub returns : goal.returns
returns c = made_is_short
