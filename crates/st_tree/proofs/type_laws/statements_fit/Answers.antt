use Rattle.st_tree.proofs.FittingCalls.{statements_keep}
use Rattle.st_tree.proofs.type_laws.statements_fit.Goals as goal

pub returns : goal.returns
returns c = λ tree calls waiting unit inside body units s fit good h.
    statements_keep tree waiting unit calls fit inside body good units s h
