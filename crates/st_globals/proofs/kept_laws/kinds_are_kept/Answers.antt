use Rattle.st_globals.proofs.Kept.{kinds_kept}
use Rattle.st_globals.proofs.kept_laws.kinds_are_kept.Goals as goal

pub returns : goal.returns
returns c = kinds_kept
