-- What is read in the blocks of a unit.
-- Held against: this project's own segments.
use Rattle.std.specs.Prelude.{ℕ, ◌+◌, ◌==◌, Bool, false, ◌&&◌, Option, None, length, get_or}
use Rattle.segment_plans.specs.declared.blocks.Blocks.{Blocks}

abbrev pub is_reached : Blocks → ℕ → Bool
is_reached blocks number = get_or blocks.reached.items number false

abbrev pub last_of : Blocks → ℕ → Option ℕ
last_of blocks head = get_or blocks.lasts.items head None

abbrev pub is_end : Blocks → ℕ → Bool
is_end blocks number = blocks.ends_alone && (number + 1 == length blocks.exits.items)

abbrev pub count : Blocks → ℕ → ℕ
count blocks number = get_or blocks.counts.items number 0

abbrev pub is_bare : Blocks → ℕ → ℕ → Bool
is_bare blocks first past = count blocks (first + 1) == count blocks past
