-- The bytes that a sink has taken. A sink is an output; one that tells no bytes is not judged by them.
-- Held against: this project's own streams.
use Rattle.std.specs.Prelude.{◌≡◌, ℕ, ◌-◌, ◌<◌, min, List, ◌++◌, length, take, Option, None, Some}
use Rattle.s7_io.specs.Faults.{Plan}

-- these bytes were put after those that the sink had taken
abbrev pub Took : Option (List ℕ) → Option (List ℕ) → List ℕ → Type 0
Took None None bytes = Unit {0}
Took None (Some after) bytes = ⊥
Took (Some before) None bytes = ⊥
Took (Some before) (Some after) bytes = after ≡ before ++ bytes

-- only a proper prefix of these bytes was put after those that the sink had taken
abbrev pub TookFewer : Option (List ℕ) → Option (List ℕ) → List ℕ → Type 0
TookFewer before after bytes =
    (count : ℕ) × (count < length bytes) × Took before after (take count bytes)

-- a sink in memory that fails at planned calls: the bytes taken, and how many have room in all and
-- come in at once
pub record Intake : Type 0 where
  pub taken : List ℕ
  pub room : ℕ
  pub piece : ℕ
  pub plan : Plan

-- how many bytes a sink in memory takes of a piece of this length
abbrev pub accepted_count : Intake → ℕ → ℕ
accepted_count sink len = min (min len sink.piece) (sink.room - length sink.taken)

-- the sink has no room left for a piece of this length
abbrev pub IsFullFor : Intake → ℕ → Type 0
IsFullFor sink len = (0 < len) × (length sink.taken ≡ sink.room)
