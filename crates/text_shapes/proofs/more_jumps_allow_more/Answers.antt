use Rattle.text_shapes.proofs.ShapeCases.{more_jumps_allow_more}
use Rattle.text_shapes.proofs.more_jumps_allow_more.Goals as goal

pub returns : goal.returns
returns c = more_jumps_allow_more
