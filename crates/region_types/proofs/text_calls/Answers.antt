use Rattle.region_types.proofs.Calls.{text_calls}
use Rattle.region_types.proofs.text_calls.Goals as goal

pub returns : goal.returns
returns c = text_calls
