use Rattle.st_parser.proofs.SomeReading.{each_has_one}
use Rattle.st_parser.proofs.text_laws.each_has_one.Goals as goal

pub returns : goal.returns
returns c = each_has_one
