use Rattle.st_tree.proofs.FittingStart.{start_fits}
use Rattle.st_tree.proofs.type_laws.start_fits.Goals as goal

pub returns : goal.returns
returns c = λ tree call unit areas proper there fits memory. start_fits tree call unit areas proper there fits memory
