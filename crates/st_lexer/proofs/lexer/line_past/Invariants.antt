use Rattle.std.proofs.Common.{◌≡◌, drop}
use Rattle.st_lexer.specs.TokenGrammar.{line_past}
use Rattle.st_lexer.proofs.lexer.line_past.Given as goal

-- the line after the rest is that after all
abbrev pub invariant-loop-b : goal.invariant-loop-b
invariant-loop-b l = line_past l.line (drop l.b-index l.bytes) ≡ line_past l.start l.bytes
