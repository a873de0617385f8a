use Rattle.region_plans.proofs.Fitting.{segment_fits}
use Rattle.region_plans.proofs.segment_fits.Goals as goal

pub returns : goal.returns
returns c = segment_fits
