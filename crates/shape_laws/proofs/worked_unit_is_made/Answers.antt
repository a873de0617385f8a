use Rattle.shape_laws.proofs.ShapeCases.{worked_unit_is_made}
use Rattle.shape_laws.proofs.worked_unit_is_made.Goals as goal

pub returns : goal.returns
returns c = worked_unit_is_made
