use Rattle.unit_regions.proofs.Texts.{text_stops}
use Rattle.unit_regions.proofs.text_stops.Goals as goal

pub returns : goal.returns
returns c = text_stops
