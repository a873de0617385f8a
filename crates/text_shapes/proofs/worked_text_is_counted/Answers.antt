use Rattle.text_shapes.proofs.ShapeCases.{worked_text_is_counted}
use Rattle.text_shapes.proofs.worked_text_is_counted.Goals as goal

pub returns : goal.returns
returns c = worked_text_is_counted
