use Rattle.unit_regions.proofs.Markless.{marks_are_left_out}
use Rattle.unit_regions.proofs.marks_are_left_out.Goals as goal

pub returns : goal.returns
returns c = marks_are_left_out
