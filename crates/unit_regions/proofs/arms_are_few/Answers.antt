use Rattle.unit_regions.proofs.Counting.{arms_are_few}
use Rattle.unit_regions.proofs.arms_are_few.Goals as goal

pub returns : goal.returns
returns c = arms_are_few
