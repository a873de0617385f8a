use Rattle.region_types.proofs.PlainNests.{plain_nodes_are_low}
use Rattle.region_types.proofs.plain_nodes_are_low.Goals as goal

pub returns : goal.returns
returns c = plain_nodes_are_low
