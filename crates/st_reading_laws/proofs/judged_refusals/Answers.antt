use Rattle.st_reading_laws.proofs.JudgedSyntax.{judged_refusals}
use Rattle.st_reading_laws.proofs.judged_refusals.Goals as goal

pub returns : goal.returns
returns c = judged_refusals
