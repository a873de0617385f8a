use Rattle.st_reading_laws.proofs.OneGrammar.{one_grammar}
use Rattle.st_reading_laws.proofs.one_grammar.Goals as goal

pub returns : goal.returns
returns c = one_grammar
