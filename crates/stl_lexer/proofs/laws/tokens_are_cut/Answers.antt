use Rattle.stl_lexer.proofs.Agreement.{agree}
use Rattle.stl_lexer.proofs.laws.tokens_are_cut.Goals as goal

pub returns : goal.returns
returns c = agree
