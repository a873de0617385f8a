use Rattle.st_globals.proofs.Kept.{body_nesting_kept}
use Rattle.st_globals.proofs.kept_laws.nesting_is_kept.Goals as goal

pub returns : goal.returns
returns c = body_nesting_kept
