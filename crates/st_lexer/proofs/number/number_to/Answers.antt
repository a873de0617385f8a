use Rattle.std.proofs.Common.{rules, ◌≡◌, true}
use Rattle.st_lexer.proofs.Sizes.{stands_within}
use Rattle.st_lexer.proofs.number.number_to.Goals as goal
use Rattle.st_lexer.specs.Literals.{stands_to}

pub returns-then-stands_to-clause-within : goal.returns-then-stands_to-clause-within
returns-then-stands_to-clause-within c =
    let stands : stands_to c.args.base c.args.bytes.now ≡ true = search rules in
    rw (c.digits_behind.ensures, c.rest_after.ensures, c.mark-before.ensures) (stands_within c.args.base c.args.bytes.now stands)
