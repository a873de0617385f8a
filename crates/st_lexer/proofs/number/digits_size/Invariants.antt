use Rattle.std.proofs.Common.{◌≡◌, ℕ, ◌+◌, List, length}
use Rattle.st_lexer.proofs.Common.{digits_size, Base}
use Rattle.st_lexer.proofs.number.digits_size.Given as goal

-- the digits so far and those at the front of the rest are those of the whole text
pub record Counted (base : Base) (size : ℕ) (rest bytes : List ℕ) : Type 0 where
  pub same : size + digits_size base rest ≡ digits_size base bytes
  pub within : size + length rest ≡ length bytes

abbrev pub invariant-loop-rest : goal.invariant-loop-rest
invariant-loop-rest l = Counted l.base l.size l.rest l.bytes

abbrev pub decreases-loop-rest : goal.decreases-loop-rest
decreases-loop-rest l = length l.rest
