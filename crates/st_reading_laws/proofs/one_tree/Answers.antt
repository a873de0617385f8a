use Rattle.st_reading_laws.proofs.OneAnswer.{one_tree}
use Rattle.st_reading_laws.proofs.one_tree.Goals as goal

pub returns : goal.returns
returns c = one_tree
