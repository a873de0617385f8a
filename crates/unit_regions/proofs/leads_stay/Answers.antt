use Rattle.unit_regions.proofs.Cutting.{leads_stay}
use Rattle.unit_regions.proofs.leads_stay.Goals as goal

pub returns : goal.returns
returns c = leads_stay
