use Rattle.st_parser.proofs.JudgedTexts.{has_tree, is_refused}
use Rattle.st_parser.proofs.text.syntax.Goals as goal

pub returns-clause-tree : goal.returns-clause-tree
returns-clause-tree c = has_tree c.args.bytes.now c.syntax.result c.syntax.ensures.tree

pub returns-clause-refused : goal.returns-clause-refused
returns-clause-refused c = is_refused c.args.bytes.now c.syntax.result c.syntax.ensures.refused
