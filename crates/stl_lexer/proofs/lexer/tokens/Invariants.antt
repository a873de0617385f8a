use Rattle.std.proofs.Common.{◌≡◌, length}
use Rattle.s7_base.specs.Tokens.{prepend_tokens, tokens_from}
use Rattle.stl_lexer.proofs.lexer.tokens.Given as goal

-- the tokens so far and those of the rest are those of the whole text
abbrev pub invariant-loop-rest : goal.invariant-loop-rest
invariant-loop-rest l = prepend_tokens l.tokens (tokens_from 0 l.line l.before l.rest) ≡ tokens_from 0 1 10 l.bytes

abbrev pub decreases-loop-rest : goal.decreases-loop-rest
decreases-loop-rest l = length l.rest
