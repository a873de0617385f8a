use Rattle.std.proofs.Common.{ℕ, ◌≤◌, ◌-◌, List, Option, length}
use Rattle.s7_io.specs.Source.{Gave}
use Rattle.s7_io.proofs.read.read_all.Given as goal

-- how far the reading has come
pub record Read (left_before left : Option (List ℕ)) (faults_before faults : ℕ)
    (bytes : List ℕ) (limit : ℕ) : Type 0 where
  pub within : length bytes ≤ limit
  pub gave : Gave left_before left bytes
  pub later : faults_before ≤ faults

abbrev pub invariant-pieces : goal.invariant-pieces
invariant-pieces g l =
    Read (g.S.Source.left l.initial.src) (g.S.Source.left l.src) (g.S.Source.faults l.initial.src)
    (g.S.Source.faults l.src) l.bytes.items l.limit

-- each piece brings a byte, and the bytes stay within the limit
abbrev pub decreases-pieces : goal.decreases-pieces
decreases-pieces g l = l.limit - length l.bytes.items
