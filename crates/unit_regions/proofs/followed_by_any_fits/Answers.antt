use Rattle.unit_regions.proofs.Following.{followed_by_any_fits}
use Rattle.unit_regions.proofs.followed_by_any_fits.Goals as goal

pub returns : goal.returns
returns c = followed_by_any_fits
