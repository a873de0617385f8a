use Rattle.unit_regions.proofs.Dispatch.{dispatch_fits}
use Rattle.unit_regions.proofs.dispatch_fits.Goals as goal

pub returns : goal.returns
returns c = dispatch_fits
