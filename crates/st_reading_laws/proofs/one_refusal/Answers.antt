use Rattle.st_reading_laws.proofs.OneAnswer.{one_refusal}
use Rattle.st_reading_laws.proofs.one_refusal.Goals as goal

pub returns : goal.returns
returns c = one_refusal
