use Rattle.stl_tree.proofs.Runs.{runs_end_stays}
use Rattle.stl_tree.proofs.run_laws.end_stays.Goals as goal

pub returns : goal.returns
returns c = runs_end_stays
