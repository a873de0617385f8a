use Rattle.std.proofs.Common.{rules, ◌≡◌, ◌-◌, length, length-drop, arith}
use Rattle.st_lexer.proofs.Following.{after_byte}
use Rattle.st_lexer.proofs.lexer.comment_size.Goals as goal

pub loop-rest-preserved : goal.loop-rest-preserved
loop-rest-preserved c =
    let left : length c.rest_after-behind.result.now ≡ length c.loop-rest.rest.now - 1 = rw c.rest_after-behind.ensures (length-drop 1 c.loop-rest.rest.now) in
    record {
      same = rw c.rest_after-behind.ensures (after_byte c.loop-rest.size c.loop-rest.rest.now _ (search rules) (search rules) c.loop-rest.invariant.same);
      within = omega (arith, left, c.loop-rest.invariant.within, c.in-len1-up.len_at_least);
    }
