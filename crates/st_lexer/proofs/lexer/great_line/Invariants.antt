use Rattle.std.proofs.Common.{◌≡◌, length, map, false}
use Rattle.st_lexer.proofs.Common.{token_seen, great_from}
use Rattle.st_lexer.proofs.lexer.great_line.Given as goal

-- the first of the rest is the first of all
abbrev pub invariant-loop-rest : goal.invariant-loop-rest
invariant-loop-rest l = great_from l.behind_dots (map token_seen l.rest) ≡ great_from false (map token_seen l.tokens)

abbrev pub decreases-loop-rest : goal.decreases-loop-rest
decreases-loop-rest l = length l.rest
