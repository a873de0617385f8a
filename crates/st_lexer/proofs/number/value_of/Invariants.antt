use Rattle.std.proofs.Common.{◌≡◌, drop}
use Rattle.st_lexer.specs.Literals.{value_from}
use Rattle.st_lexer.proofs.number.value_of.Given as goal

-- the digits that are left, after the value so far, give the number of all
abbrev pub invariant-loop-digit : goal.invariant-loop-digit
invariant-loop-digit l = value_from l.base l.value (drop l.digit-index l.digits) ≡ value_from l.base 0 l.digits
