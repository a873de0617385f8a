-- Tables of names. They say what is declared under a name, of several declarations the first.
-- Held against: this project's own rules.
use Rattle.std.specs.Prelude.{ℕ, if◌then◌else◌, List, [], ◌∷◌, ◌++◌, Option, Some, None, is_some}
use Rattle.st_tree.specs.Naming.{is_same}

-- values under keys, for the first declaration of each
abbrev pub Table : Type 0 → Type 0
Table T = List (List ℕ × T)

-- the value under a key
abbrev pub look_up : {T : Type 0} → List ℕ → Table T → Option T
look_up key [] = None
look_up key (entry ∷ table) = if is_same key entry.0 then Some entry.1 else look_up key table

-- a table with one more declaration; a key that is declared already keeps its value
abbrev pub with_entry : {T : Type 0} → List ℕ → T → Table T → Table T
with_entry key value table = if is_some (look_up key table) then table else table ++ (key, value) ∷ []
