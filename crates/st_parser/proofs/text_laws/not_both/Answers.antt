use Rattle.st_parser.proofs.OneReading.{not_both}
use Rattle.st_parser.proofs.text_laws.not_both.Goals as goal

pub returns : goal.returns
returns c = not_both
