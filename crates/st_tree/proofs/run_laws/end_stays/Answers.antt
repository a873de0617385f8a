use Rattle.st_tree.proofs.Units.{runs_end_stays}
use Rattle.st_tree.proofs.run_laws.end_stays.Goals as goal

pub returns : goal.returns
returns c = runs_end_stays
