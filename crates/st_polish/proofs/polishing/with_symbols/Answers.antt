use Rattle.st_polish.proofs.Unnamed.{unnamed}
use Rattle.st_polish.proofs.polishing.with_symbols.Goals as goal

pub returns-then-is_empty-clause-text : goal.returns-then-is_empty-clause-text
returns-then-is_empty-clause-text c = unnamed c.args.tree c.args.symbols.now c.if-is_empty.ensures c.requires.globals
