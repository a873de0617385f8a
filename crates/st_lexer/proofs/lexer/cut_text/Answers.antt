use Rattle.std.proofs.Common.{rules, ◌≡◌, Some, map, length-drop, arith}
use Rattle.st_lexer.proofs.Following.{after_piece}
use Rattle.st_lexer.proofs.TokenLaws.{piece_some}
use Rattle.st_lexer.proofs.lexer.cut_text.Goals as goal
use Rattle.st_lexer.specs.Pieces.{token_seen, view}
use Rattle.st_lexer.specs.StTokens.{piece_at, piece_size}

pub loop-rest-smaller : goal.loop-rest-smaller
loop-rest-smaller c =
    let found : piece_at c.loop-rest.rest.now ≡ Some (view c.in-Some.piece) = search rules in
    let size = piece_some c.loop-rest.rest.now (view c.in-Some.piece) found in
    rw (c.rest_after-rest.ensures, c.size_of-size.ensures) (omega (arith, size.0, size.1, length-drop (piece_size (view c.in-Some.piece)) c.loop-rest.rest.now))

pub loop-rest-preserved : goal.loop-rest-preserved
loop-rest-preserved c =
    let found : piece_at c.loop-rest.rest.now ≡ Some (view c.in-Some.piece) = search rules in
    rw (c.rest_after-rest.ensures, c.line_past-line.ensures, c.front_of.ensures, c.size_of-size.ensures)
    (after_piece (map token_seen c.loop-rest.tokens.items) (map token_seen c.keep_token.new.tokens.items)
    (view c.in-Some.piece) c.loop-rest.rest.now c.loop-rest.line _ found c.loop-rest.invariant (search rules))
