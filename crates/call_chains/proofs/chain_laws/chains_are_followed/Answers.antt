use Rattle.call_chains.proofs.Followed.{followed}
use Rattle.call_chains.proofs.chain_laws.chains_are_followed.Goals as goal

pub returns : goal.returns
returns c = followed
