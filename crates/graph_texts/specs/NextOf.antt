-- Where a unit has the local `NEXT`, by which its dispatch loops choose.
-- Held against: this project's own names.
use Rattle.std.specs.Prelude.{ℕ, suc, if◌then◌else◌, List, [], ◌∷◌, Option, Some, None}
use Rattle.std.specs.Option.{option_map}
use Rattle.st_tree.specs.Naming.{is_next}
use Rattle.st_tree.specs.declared.program.Local.{Local}

-- the position of the local `NEXT` among those of a unit, if it is there
abbrev pub next_of : List Local → Option ℕ
next_of [] = None
next_of (local ∷ rest) = if is_next local.name then Some 0 else option_map suc (next_of rest)
