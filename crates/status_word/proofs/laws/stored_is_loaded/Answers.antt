use Rattle.status_word.proofs.WordLaws.{stored_loaded}
use Rattle.status_word.proofs.laws.stored_is_loaded.Goals as goal

pub returns : goal.returns
returns c = stored_loaded
