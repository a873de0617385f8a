use Rattle.condition_laws.proofs.Shapes.{shape_stays}
use Rattle.condition_laws.proofs.no_larger_is_shaped.Goals as goal

pub returns : goal.returns
returns c = shape_stays
