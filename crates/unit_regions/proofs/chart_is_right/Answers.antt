use Rattle.unit_regions.proofs.Made.{chart_is_right}
use Rattle.unit_regions.proofs.chart_is_right.Goals as goal

pub returns : goal.returns
returns c = chart_is_right
