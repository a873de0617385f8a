use Rattle.st_reading_laws.proofs.JudgedSyntax.{judged_trees}
use Rattle.st_reading_laws.proofs.judged_trees.Goals as goal

pub returns : goal.returns
returns c = judged_trees
