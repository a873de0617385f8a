use Rattle.st_reading_laws.proofs.OneSyntax.{not_both_syntaxes}
use Rattle.st_reading_laws.proofs.not_both_syntaxes.Goals as goal

pub returns : goal.returns
returns c = not_both_syntaxes
