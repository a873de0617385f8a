use Rattle.unit_regions.proofs.Onward.{unit_leads_onward}
use Rattle.unit_regions.proofs.unit_leads_onward.Goals as goal

pub returns : goal.returns
returns c = unit_leads_onward
