use Rattle.std.proofs.Common.{rules, arith}
use Rattle.st_lexer.proofs.Lines.{lines_counted}
use Rattle.st_lexer.proofs.lexer.end_line.Goals as goal

pub returns : goal.returns
returns c = rw (c.line_past.ensures, lines_counted 1 c.args.bytes.now (omega arith)) (search rules)
