use Rattle.symbol_layout.proofs.Places.{at_least}
use Rattle.symbol_layout.proofs.layout_laws.components_stand_at_the_least.Goals as goal

pub returns : goal.returns
returns c = at_least
