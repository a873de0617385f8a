use Rattle.call_chains.proofs.FoundCycle.{found_cycle}
use Rattle.call_chains.proofs.chain_laws.each_has_first_cycle.Goals as goal

pub returns : goal.returns
returns c = found_cycle
