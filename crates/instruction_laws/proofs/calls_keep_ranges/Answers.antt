use Rattle.instruction_laws.proofs.CallRanges.{calls_keep}
use Rattle.instruction_laws.proofs.calls_keep_ranges.Goals as goal

pub returns : goal.returns
returns c = calls_keep
