-- The registers of a controller. The accumulators, the address registers, the numbers of the open data block and of
-- the open instance, and the bits of the status word; at the start of a run all are zero.
-- Held against: the manual's chapter 'Accumulator Instructions'.
use Rattle.std.specs.Prelude.{ℕ}
use Rattle.status_word.specs.StatusBits.{StatusBits, all_clear}

-- the accumulators and the address registers, of 32 bits each; the numbers of the open data block and
-- of the open instance, 0 where none is open; the bits of the status word
pub record RegisterValues : Type 0 where
  pub accu1 : ℕ
  pub accu2 : ℕ
  pub ar1 : ℕ
  pub ar2 : ℕ
  pub db : ℕ
  pub di : ℕ
  pub status : StatusBits

-- the registers at the first instruction: all zero
abbrev pub start : RegisterValues
start = record { accu1 = 0; accu2 = 0; ar1 = 0; ar2 = 0; db = 0; di = 0; status = all_clear }
