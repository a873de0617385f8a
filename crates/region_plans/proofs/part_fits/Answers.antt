use Rattle.region_plans.proofs.Fitting.{part_fits}
use Rattle.region_plans.proofs.part_fits.Goals as goal

pub returns : goal.returns
returns c = part_fits
