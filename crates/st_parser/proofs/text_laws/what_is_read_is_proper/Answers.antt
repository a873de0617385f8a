use Rattle.st_parser.proofs.TextReads.{what_is_read_is_proper}
use Rattle.st_parser.proofs.text_laws.what_is_read_is_proper.Goals as goal

pub returns : goal.returns
returns c = what_is_read_is_proper
