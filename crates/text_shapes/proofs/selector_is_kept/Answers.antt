use Rattle.text_shapes.proofs.ShapeCases.{selector_is_kept}
use Rattle.text_shapes.proofs.selector_is_kept.Goals as goal

pub returns : goal.returns
returns c = selector_is_kept
