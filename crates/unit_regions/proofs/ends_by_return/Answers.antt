use Rattle.unit_regions.proofs.Endings.{text_ends}
use Rattle.unit_regions.proofs.ends_by_return.Goals as goal

pub returns : goal.returns
returns c = text_ends
