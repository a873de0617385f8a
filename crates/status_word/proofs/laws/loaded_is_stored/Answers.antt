use Rattle.status_word.proofs.WordLaws.{loaded_stored}
use Rattle.status_word.proofs.laws.loaded_is_stored.Goals as goal

pub returns : goal.returns
returns c = loaded_stored
