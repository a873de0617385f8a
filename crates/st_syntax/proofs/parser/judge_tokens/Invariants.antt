use Rattle.std.proofs.Common.{◌≡◌, length, map}
use Rattle.st_grammar.proofs.Common.{judge_tokens, all_lined}
use Rattle.st_lexer.specs.Pieces.{token_seen}
use Rattle.st_syntax.specs.inner.StateView.{state_view}
use Rattle.st_syntax.proofs.parser.judge_tokens.Given as goal

-- the judgement of the rest is that of all
abbrev pub invariant-loop-rest : goal.invariant-loop-rest
invariant-loop-rest l =
    judge_tokens (state_view l.state) (all_lined (map token_seen l.rest) l.end)
    ≡ judge_tokens (state_view l.initial.state) (all_lined (map token_seen l.tokens) l.end)

abbrev pub decreases-loop-rest : goal.decreases-loop-rest
decreases-loop-rest l = length l.rest
