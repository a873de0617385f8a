use Rattle.st_tree.proofs.Common.{◌≡◌, ℕ, ◌+◌, List, length, option_map}
use Rattle.st_lexer.specs.StTokens.{comment_size}
use Rattle.st_lexer.proofs.lexer.comment_size.Given as goal

-- the bytes so far and those up to the end of the comment in the rest are those of the whole
pub record Searched (size : ℕ) (rest bytes : List ℕ) : Type 0 where
  pub same : option_map (λ n. size + n) (comment_size rest) ≡ comment_size bytes
  pub within : size + length rest ≡ length bytes

abbrev pub invariant-loop-rest : goal.invariant-loop-rest
invariant-loop-rest l = Searched l.size l.rest l.bytes

abbrev pub decreases-loop-rest : goal.decreases-loop-rest
decreases-loop-rest l = length l.rest
