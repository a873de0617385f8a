use Rattle.st_parser.proofs.TextReads.{proper_reads}
use Rattle.st_parser.proofs.text_laws.proper_reads_back.Goals as goal

pub returns : goal.returns
returns c = proper_reads
