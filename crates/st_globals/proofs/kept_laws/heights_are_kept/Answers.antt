use Rattle.st_globals.proofs.Kept.{heights_kept}
use Rattle.st_globals.proofs.kept_laws.heights_are_kept.Goals as goal

pub returns : goal.returns
returns c = heights_kept
