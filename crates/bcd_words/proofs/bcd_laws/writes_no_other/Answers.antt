use Rattle.bcd_words.proofs.BcdRound.{law_writes_no_other}
use Rattle.bcd_words.proofs.bcd_laws.writes_no_other.Goals as goal

pub returns : goal.returns
returns c = law_writes_no_other
