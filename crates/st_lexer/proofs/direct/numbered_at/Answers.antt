use Rattle.std.proofs.Common.{rules, ◌≡◌, ◌≤◌, ◌+◌, ◌-◌, length, length-drop, arith}
use Rattle.st_lexer.proofs.Sizes.{direct_bytes, widen}
use Rattle.st_lexer.proofs.direct.numbered_at.Goals as goal

pub returns-then-begins_with_block-clause-within :
    goal.returns-then-begins_with_block-clause-within
returns-then-begins_with_block-clause-within c =
    let long : 3 ≤ length c.args.rest.now = search rules in
    let left : length c.rest_after.result.now ≡ length c.args.rest.now - 3 = rw c.rest_after.ensures (length-drop 3 c.args.rest.now) in
    widen direct_bytes (c.args.block.size + 6 + length c.rest_after.result.now) (3 + c.args.block.size + length c.args.rest.now) c.lettered_at.result
    (omega (arith, long, left)) c.lettered_at.ensures.within
