use Rattle.st_reading_laws.proofs.OneSyntax.{one_raw_tree}
use Rattle.st_reading_laws.proofs.one_raw_tree.Goals as goal

pub returns : goal.returns
returns c = one_raw_tree
