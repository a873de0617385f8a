-- The bytes that a source has given. A source is an input; one that does not tell the bytes to come is not judged by
-- them.
-- Held against: this project's own streams.
use Rattle.std.specs.Prelude.{◌≡◌, ℕ, ◌≤◌, min, List, [], ◌++◌, length, Option, None, Some}
use Rattle.s7_io.specs.Faults.{Plan}

-- these bytes came from the front of those that were to come
abbrev pub Gave : Option (List ℕ) → Option (List ℕ) → List ℕ → Type 0
Gave None None bytes = Unit {0}
Gave None (Some after) bytes = ⊥
Gave (Some before) None bytes = ⊥
Gave (Some before) (Some after) bytes = before ≡ bytes ++ after

-- no byte is to come any more
abbrev pub IsAtEnd : Option (List ℕ) → Type 0
IsAtEnd None = Unit {0}
IsAtEnd (Some left) = left ≡ []

-- these are all the bytes that were to come, and nothing is to come any more
abbrev pub GaveAll : Option (List ℕ) → Option (List ℕ) → List ℕ → Type 0
GaveAll None None bytes = Unit {0}
GaveAll None (Some after) bytes = ⊥
GaveAll (Some before) None bytes = ⊥
GaveAll (Some before) (Some after) bytes = (before ≡ bytes) × (after ≡ [])

-- exactly this many bytes came from the front of those that were to come
abbrev pub GaveExactly : Option (List ℕ) → Option (List ℕ) → ℕ → Type 0
GaveExactly before after count = (bytes : List ℕ) × (length bytes ≡ count) × Gave before after bytes

-- at most this many bytes came from the front of those that were to come
abbrev pub GaveAtMost : Option (List ℕ) → Option (List ℕ) → ℕ → Type 0
GaveAtMost before after count = (bytes : List ℕ) × (length bytes ≤ count) × Gave before after bytes

-- a source in memory that never fails: the bytes still to come, and at most how many come at once
pub record Feed : Type 0 where
  pub left : List ℕ
  pub piece : ℕ

-- a source in memory that fails at planned calls
pub record PlannedFeed : Type 0 where
  pub left : List ℕ
  pub piece : ℕ
  pub plan : Plan

-- how many bytes come at once, where a buffer has this much room
abbrev pub next_count : List ℕ → ℕ → ℕ → ℕ
next_count left piece room = min (min room piece) (length left)
