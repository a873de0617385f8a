use Rattle.st_reading_laws.proofs.OneAnswer.{not_both}
use Rattle.st_reading_laws.proofs.not_both.Goals as goal

pub returns : goal.returns
returns c = not_both
