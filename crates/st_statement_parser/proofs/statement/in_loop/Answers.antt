use Rattle.std.proofs.Common.{◌∙◌}
use Rattle.st_statement_parser.proofs.Loops.{in_loop_is}
use Rattle.st_statement_parser.proofs.statement.in_loop.Goals as goal

-- src/statement.rt:34:1
pub returns : goal.returns
returns c = c.has_loop.ensures ∙ in_loop_is c.args.frames.now
