use Rattle.st_parser.proofs.OneReading.{one_tree}
use Rattle.st_parser.proofs.text_laws.one_tree.Goals as goal

pub returns : goal.returns
returns c = one_tree
