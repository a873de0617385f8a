use Rattle.st_tree.proofs.Units.{graph_end_stays}
use Rattle.st_tree.proofs.graph_laws.graph_end_stays.Goals as goal

pub returns : goal.returns
returns c = graph_end_stays
