-- Lists of what there may be. A list has one item where there is one, and none else.
-- Held against: this project's own lists.
use Rattle.std.specs.Prelude.{List, [], ◌∷◌, Option, Some, None}

-- a part as a list, empty where there is none
abbrev pub as_list : {T : Type 0} → Option T → List T
as_list None = []
as_list (Some x) = x ∷ []
