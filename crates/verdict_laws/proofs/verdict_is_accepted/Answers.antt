use Rattle.verdict_laws.proofs.AcceptedLaws.{verdict_accepted}
use Rattle.verdict_laws.proofs.verdict_is_accepted.Goals as goal

pub returns : goal.returns
returns c = verdict_accepted
