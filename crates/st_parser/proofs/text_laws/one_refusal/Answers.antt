use Rattle.st_parser.proofs.OneReading.{one_refusal}
use Rattle.st_parser.proofs.text_laws.one_refusal.Goals as goal

pub returns : goal.returns
returns c = one_refusal
