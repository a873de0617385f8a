use Rattle.st_text_laws.proofs.TextReads.{canonical_text_reads}
use Rattle.st_text_laws.proofs.canonical_text_reads.Goals as goal

pub returns : goal.returns
returns c = canonical_text_reads
