use Rattle.region_types.proofs.ShorterChains.{fewer_calls_are_shorter}
use Rattle.region_types.proofs.fewer_calls_are_shorter.Goals as goal

pub returns : goal.returns
returns c = fewer_calls_are_shorter
