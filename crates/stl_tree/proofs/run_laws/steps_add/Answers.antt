use Rattle.stl_tree.proofs.Runs.{runs_steps_add}
use Rattle.stl_tree.proofs.run_laws.steps_add.Goals as goal

pub returns : goal.returns
returns c = runs_steps_add
