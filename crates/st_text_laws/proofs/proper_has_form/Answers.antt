use Rattle.st_text_laws.proofs.Whole.{proper_has_form}
use Rattle.st_text_laws.proofs.proper_has_form.Goals as goal

pub returns : goal.returns
returns c = proper_has_form
