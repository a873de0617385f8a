use Rattle.call_chains.proofs.CycleLines.{lines_are_named}
use Rattle.call_chains.proofs.chain_laws.cycle_lines_are_named.Goals as goal

pub returns : goal.returns
returns c = lines_are_named
