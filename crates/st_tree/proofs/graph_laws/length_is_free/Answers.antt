use Rattle.st_tree.proofs.Units.{longer_is_same}
use Rattle.st_tree.proofs.graph_laws.length_is_free.Goals as goal

pub returns : goal.returns
returns c = longer_is_same
