use Rattle.st_tree.proofs.Units.{deeper_is_same}
use Rattle.st_tree.proofs.run_laws.depth_is_free.Goals as goal

pub returns : goal.returns
returns c = deeper_is_same
