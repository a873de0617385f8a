use Rattle.source_laws.proofs.AcceptingLaws.{agree}
use Rattle.source_laws.proofs.verdict_accepts_the_grammar.Goals as goal

pub returns : goal.returns
returns c = agree
