-- The formals of a block by the first places of their names.
use Rattle.std.specs.Prelude.{ℕ, Bool, nat_eq, List, Option, Some, None, option_map, slice_get}
use Rattle.std.specs.Cmp.Lexicographic.{pointwise}
use Rattle.name_tables.specs.Places.{AreFirstPlaces}
use Rattle.stl_rules.specs.DeclarationRules.{key_of}
use Rattle.stl_tree.specs.declared.program.Formal.{Formal}

-- a formal has the name of a key
abbrev pub has_formal_key : List ℕ → Formal → Bool
has_formal_key key f = pointwise nat_eq key (key_of f.name)

-- each key is kept with the place of its first formal
abbrev pub AreFormalPlaces : List Formal → List (List ℕ × ℕ) → Type 0
AreFormalPlaces formals table = AreFirstPlaces (pointwise nat_eq) has_formal_key formals table

-- the formal at a place, with this place
abbrev pub formal_found : List Formal → Option ℕ → Option (ℕ × Formal)
formal_found formals None = None
formal_found formals (Some n) = option_map (λ (f : Formal). (n, f)) (slice_get formals n)
