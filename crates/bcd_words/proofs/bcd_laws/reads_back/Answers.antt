use Rattle.bcd_words.proofs.BcdRound.{law_reads_back}
use Rattle.bcd_words.proofs.bcd_laws.reads_back.Goals as goal

pub returns : goal.returns
returns c = law_reads_back
