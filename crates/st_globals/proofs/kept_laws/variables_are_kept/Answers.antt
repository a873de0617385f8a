use Rattle.st_globals.proofs.VariablesKept.{variables_kept}
use Rattle.st_globals.proofs.kept_laws.variables_are_kept.Goals as goal

pub returns : goal.returns
returns c = variables_kept
