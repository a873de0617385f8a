use Rattle.region_types.proofs.Nests.{text_is_low}
use Rattle.region_types.proofs.text_is_low.Goals as goal

pub returns : goal.returns
returns c = text_is_low
