use Rattle.st_reading_laws.proofs.OneSyntax.{one_syntax_refusal}
use Rattle.st_reading_laws.proofs.one_syntax_refusal.Goals as goal

pub returns : goal.returns
returns c = one_syntax_refusal
