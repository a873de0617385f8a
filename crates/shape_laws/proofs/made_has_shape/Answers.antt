use Rattle.shape_laws.proofs.Shapes.{made_has_shape}
use Rattle.shape_laws.proofs.made_has_shape.Goals as goal

pub returns : goal.returns
returns c = made_has_shape
