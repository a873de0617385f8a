use Rattle.unit_regions.proofs.Texts.{text_goes_on}
use Rattle.unit_regions.proofs.text_goes_on.Goals as goal

pub returns : goal.returns
returns c = text_goes_on
