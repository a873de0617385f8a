use Rattle.unit_regions.proofs.Texts.{text_ends}
use Rattle.unit_regions.proofs.text_ends.Goals as goal

pub returns : goal.returns
returns c = text_ends
