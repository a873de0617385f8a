use Rattle.std.proofs.Common.{◌≡◌, map, take}
use Rattle.st_lexer.proofs.lexer.copies.Given as goal
use Rattle.st_lexer.specs.Pieces.{token_seen}

-- the tokens so far are those of the places looked at
abbrev pub invariant-loop-lexeme : goal.invariant-loop-lexeme
invariant-loop-lexeme l = l.tokens ≡ map token_seen (take l.lexeme-index l.lexemes)
