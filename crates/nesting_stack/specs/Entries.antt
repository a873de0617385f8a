-- The entries of open brackets. The last one is first in the list, and at most seven may be open.
-- Held against: the manual's chapter 'Bit Logic'.
use Rattle.std.specs.Prelude.{◌≡◌, ℕ, ◌<◌, List, [], ◌∷◌, length, Option, Some, None, Result, Ok, Err}
use Rattle.s7_base.specs.declared.check.Entry.{Entry}
use Rattle.nesting_stack.specs.declared.nesting.Full.{Full}

-- the most brackets that may be open
abbrev pub most_open : ℕ
most_open = 7

-- an entry was put before the others, or there was no room for one and nothing changed
abbrev pub IsPushed : Entry → Result Unit Full → List Entry → List Entry → Type 0
IsPushed e (Ok done) old new = (length old < most_open) × (new ≡ e ∷ old)
IsPushed e (Err full) old new = (length old ≡ most_open) × (new ≡ old)

-- the first entry was taken, or there was none and nothing changed
abbrev pub IsPopped : Option Entry → List Entry → List Entry → Type 0
IsPopped (Some e) old new = old ≡ e ∷ new
IsPopped None old new = (old ≡ []) × (new ≡ [])
