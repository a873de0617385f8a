use Rattle.text_shapes.proofs.ShapeCases.{all_are_among}
use Rattle.text_shapes.proofs.all_are_among.Goals as goal

pub returns : goal.returns
returns c = all_are_among
