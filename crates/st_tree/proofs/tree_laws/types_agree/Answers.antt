use Rattle.st_tree.proofs.TypesAgree.{types_agree}
use Rattle.st_tree.proofs.tree_laws.types_agree.Goals as goal

pub returns : goal.returns
returns c = types_agree
