use Rattle.unit_regions.proofs.Cutting.{cuts_make_segments}
use Rattle.unit_regions.proofs.cuts_make_segments.Goals as goal

pub returns : goal.returns
returns c = cuts_make_segments
