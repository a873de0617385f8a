use Rattle.bcd_words.proofs.BcdRound.{law_writes_back}
use Rattle.bcd_words.proofs.bcd_laws.writes_back.Goals as goal

pub returns : goal.returns
returns c = law_writes_back
