use Rattle.st_lexer.proofs.PlaceCuts.{places_stand}
use Rattle.st_lexer.proofs.spelling_laws.places_are_tokens.Goals as goal

pub returns : goal.returns
returns c = places_stand
