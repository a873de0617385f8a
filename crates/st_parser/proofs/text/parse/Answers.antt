use Rattle.st_parser.proofs.Texts.{proper_text, refused_by_rules}
use Rattle.st_parser.proofs.text.parse.Goals as goal

pub returns-in-Ok-clause-refused : goal.returns-in-Ok-clause-refused
returns-in-Ok-clause-refused c = refused_by_rules c.args.bytes.now c.in-Ok.raw c.typed.result c.in-Ok.ensures.tree c.typed.ensures.refused

pub returns-in-Ok-clause-proper : goal.returns-in-Ok-clause-proper
returns-in-Ok-clause-proper c = proper_text c.args.bytes.now c.in-Ok.raw c.typed.result c.in-Ok.ensures.tree c.typed.ensures.tree
