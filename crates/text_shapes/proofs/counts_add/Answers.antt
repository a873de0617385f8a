use Rattle.text_shapes.proofs.Counting.{counts_add}
use Rattle.text_shapes.proofs.counts_add.Goals as goal

pub returns : goal.returns
returns c = counts_add
