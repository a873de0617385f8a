use Rattle.std.proofs.Common.{rules, ◌≡◌, Some, sym}
use Rattle.s7_base.specs.Tokens.{tokens_of, piece_at}
use Rattle.stl_lexer.specs.inner.Found.{view}
use Rattle.stl_lexer.proofs.Following.{at_end, at_bad_token, after_piece}
use Rattle.stl_lexer.proofs.lexer.tokens.Goals as goal

pub returns : goal.returns
unfolding tokens_of
returns c = at_end c.loop-rest.tokens c.loop-rest.line c.loop-rest.before c.loop-rest.rest.now _ (search rules) c.loop-rest.invariant

pub returns-in_default : goal.returns-in_default
unfolding tokens_of
returns-in_default c =
    at_bad_token c.loop-rest.tokens c.loop-rest.line c.loop-rest.before c.loop-rest.rest.now _ (search rules) (search rules) c.loop-rest.invariant

pub loop-rest-preserved : goal.loop-rest-preserved
loop-rest-preserved c =
    let found : piece_at c.loop-rest.rest.now ≡ Some (view c.in-Some.piece) = sym c.in-Some.ensures.piece in
    let turn = after_piece c.loop-rest.tokens c.keep_token.new.tokens (view c.in-Some.piece) c.loop-rest.rest.now c.loop-rest.line c.loop-rest.before _
    found c.in-Some.ensures.within.0 c.in-Some.ensures.within.1 c.loop-rest.invariant (search rules) in
    rw (c.rest_after-rest.ensures, c.line_behind-line.ensures, c.size_of-size.ensures) turn
