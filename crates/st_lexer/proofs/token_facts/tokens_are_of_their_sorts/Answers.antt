use Rattle.st_lexer.proofs.TokenFacts.{tokens_are_of_their_sorts}
use Rattle.st_lexer.proofs.token_facts.tokens_are_of_their_sorts.Goals as goal

pub returns : goal.returns
returns c = tokens_are_of_their_sorts
