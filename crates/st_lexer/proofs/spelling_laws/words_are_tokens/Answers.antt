use Rattle.st_lexer.proofs.Words.{word_stands}
use Rattle.st_lexer.proofs.spelling_laws.words_are_tokens.Goals as goal

pub returns : goal.returns
returns c = word_stands
