use Rattle.unit_regions.proofs.Joining.{unit_fits}
use Rattle.unit_regions.proofs.unit_fits.Goals as goal

pub returns : goal.returns
returns c = unit_fits
