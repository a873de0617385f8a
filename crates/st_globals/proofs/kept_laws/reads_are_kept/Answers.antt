use Rattle.st_globals.proofs.Kept.{reads_are_kept}
use Rattle.st_globals.proofs.kept_laws.reads_are_kept.Goals as goal

pub returns : goal.returns
returns c = reads_are_kept
