use Rattle.instruction_laws.proofs.RangeEffects.{ranges_kept}
use Rattle.instruction_laws.proofs.ranges_are_kept.Goals as goal

pub returns : goal.returns
returns c = ranges_kept
