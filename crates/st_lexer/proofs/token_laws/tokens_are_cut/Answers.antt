use Rattle.st_lexer.proofs.TokenLaws.{agree}
use Rattle.st_lexer.proofs.token_laws.tokens_are_cut.Goals as goal

pub returns : goal.returns
returns c = agree
