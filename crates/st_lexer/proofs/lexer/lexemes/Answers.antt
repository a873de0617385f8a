use Rattle.std.proofs.Common.{rules, map}
use Rattle.st_lexer.proofs.Following.{cut_answered}
use Rattle.st_lexer.proofs.lexer.lexemes.Goals as goal
use Rattle.st_lexer.specs.Pieces.{token_seen}

pub returns-in-Some-clause-refused : goal.returns-in-Some-clause-refused
returns-in-Some-clause-refused c =
    rw (cut_answered c.args.bytes.now (map token_seen c.in_ok-tokens.tokens.items) c.in_ok-tokens.bad c.great_line.result (search rules) (search rules))
    (search rules)

pub returns-clause-tokens : goal.returns-clause-tokens
returns-clause-tokens c =
    rw (cut_answered c.args.bytes.now (map token_seen c.in_ok-tokens.tokens.items) c.in_ok-tokens.bad c.great_line.result (search rules) (search rules))
    (search rules)
