use Rattle.st_tree.proofs.FittingCalls.{calls_fit}
use Rattle.st_tree.proofs.type_laws.proper_calls_fit.Goals as goal

pub returns : goal.returns
returns c = λ tree deep proper. calls_fit tree deep proper
