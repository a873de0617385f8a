use Rattle.st_lexer.proofs.LiteralCuts.{literals_stand}
use Rattle.st_lexer.proofs.spelling_laws.literals_are_tokens.Goals as goal

pub returns : goal.returns
returns c = literals_stand
