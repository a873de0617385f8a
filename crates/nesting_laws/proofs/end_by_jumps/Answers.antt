use Rattle.nesting_laws.proofs.Ends.{end_by_jumps}
use Rattle.nesting_laws.proofs.end_by_jumps.Goals as goal

pub returns : goal.returns
returns c = end_by_jumps
