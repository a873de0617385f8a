use Rattle.st_tree.proofs.FittingCalls.{value_of}
use Rattle.st_tree.proofs.type_laws.values_fit.Goals as goal

pub returns : goal.returns
returns c = λ tree waiting unit s e ty v h a b. value_of tree waiting unit s h e ty v a b
