use Rattle.condition_laws.proofs.Whole.{keeps_heads}
use Rattle.condition_laws.proofs.made_is_kept.Goals as goal

pub returns : goal.returns
returns c = keeps_heads
