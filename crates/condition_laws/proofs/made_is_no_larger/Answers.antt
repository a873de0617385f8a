use Rattle.condition_laws.proofs.Shapes.{no_larger}
use Rattle.condition_laws.proofs.made_is_no_larger.Goals as goal

pub returns : goal.returns
returns c = no_larger
