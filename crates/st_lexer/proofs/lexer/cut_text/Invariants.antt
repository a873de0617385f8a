use Rattle.std.proofs.Common.{◌≡◌, length, map}
use Rattle.st_lexer.proofs.Common.{token_seen, prepend_tokens, cut_from}
use Rattle.st_lexer.proofs.lexer.cut_text.Given as goal

-- the tokens so far and those of the rest are those of the whole text
abbrev pub invariant-loop-rest : goal.invariant-loop-rest
invariant-loop-rest l = prepend_tokens (map token_seen l.tokens.items) (cut_from 0 l.line l.rest) ≡ cut_from 0 1 l.bytes

abbrev pub decreases-loop-rest : goal.decreases-loop-rest
decreases-loop-rest l = length l.rest
