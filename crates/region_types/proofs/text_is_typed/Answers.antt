use Rattle.region_types.proofs.Typed.{text_is_typed}
use Rattle.region_types.proofs.text_is_typed.Goals as goal

pub returns : goal.returns
returns c = text_is_typed
