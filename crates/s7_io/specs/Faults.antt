-- Counts of failed reads and writes. A count stays at its greatest value.
-- Held against: this project's own streams.
use Rattle.std.specs.Prelude.{◌≡◌, ℕ, ◌+◌, ◌-◌, ◌^◌, ◌<◌, ◌⊎◌, min, List, Contains, Result, Ok, Err}

-- the greatest count of faults, at which it stays
abbrev pub most_faults : ℕ
most_faults = 2 ^ 64 - 1

-- the count after one more fault
abbrev pub one_more : ℕ → ℕ
one_more count = min (count + 1) most_faults

-- the count grew, or it is at its greatest value and can't grow
abbrev pub Rose : ℕ → ℕ → Type 0
Rose before after = (before < after) ⊎ (after ≡ most_faults)

-- a call that fails counts as one more fault, and no other call does
abbrev pub CountsFault : {T E : Type 0} → Result T E → ℕ → ℕ → Type 0
CountsFault (Ok given) before after = after ≡ before
CountsFault (Err failed) before after = after ≡ one_more before

-- the calls that are to fail, by their numbers from 1, with the calls and the faults so far
pub record Plan : Type 0 where
  pub fails : List ℕ
  pub calls : ℕ
  pub faults : ℕ

-- the plan as a call begins; a number past the greatest stays there, and is in no list
abbrev pub with_call : Plan → Plan
with_call plan = record plan { calls = one_more plan.calls }

-- the plan after a call that failed
abbrev pub with_fault : Plan → Plan
with_fault plan = record plan { faults = one_more plan.faults }

-- the next call is one of those that are to fail
abbrev pub FailsNext : Plan → Type 0
FailsNext plan = Contains plan.fails (with_call plan).calls
