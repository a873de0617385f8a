use Rattle.st_reading_laws.proofs.SomeSyntax.{each_has_one_syntax}
use Rattle.st_reading_laws.proofs.each_has_one_syntax.Goals as goal

pub returns : goal.returns
returns c = each_has_one_syntax
