use Rattle.st_globals.proofs.Kept.{statements_kept}
use Rattle.st_globals.proofs.kept_laws.statements_are_kept.Goals as goal

pub returns : goal.returns
returns c = statements_kept
