use Rattle.st_tree.proofs.FittingStart.{run_fits}
use Rattle.st_tree.proofs.type_laws.runs_fit.Goals as goal

pub returns : goal.returns
returns c = λ tree call unit areas units proper there fits memory.
    run_fits tree call unit areas proper there fits memory units
