use Rattle.st_parser.proofs.TextReads.{rereads}
use Rattle.st_parser.proofs.text_laws.rereads.Goals as goal

pub returns : goal.returns
returns c = rereads
