use Rattle.region_types.proofs.ProperTexts.{text_is_right}
use Rattle.region_types.proofs.text_is_right.Goals as goal

pub returns : goal.returns
returns c = text_is_right
