-- The set of the names that a text has.
use Rattle.std.specs.Prelude.{ℕ, if◌then◌else◌, List, [], ◌∷◌, ◌++◌, fold}
use Rattle.std.specs.List.{list_any}
use Rattle.st_tree.specs.Naming.{is_same, key_of}
use Rattle.st_tree.specs.declared.program.Local.{Local}
use Rattle.st_tree.specs.declared.program.Pou.{Pou}

-- keys with one more, if it is new
abbrev pub with_name : List (List ℕ) → List ℕ → List (List ℕ)
with_name keys key = if list_any (is_same key) keys then keys else keys ++ key ∷ []

-- keys with that of a formal or a local
abbrev pub with_local : List (List ℕ) → Local → List (List ℕ)
with_local keys local = with_name keys (key_of local.name)

-- keys with those of a unit, its formals and its locals
abbrev pub with_unit : List (List ℕ) → Pou → List (List ℕ)
with_unit keys unit = fold with_local (fold with_local (with_name keys (key_of unit.name)) unit.formals) unit.locals
