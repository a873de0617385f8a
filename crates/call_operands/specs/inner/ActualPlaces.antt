-- The actuals of a call by the first places of the names of their formals.
use Rattle.std.specs.Prelude.{ℕ, Bool, false, nat_eq, List, Option, Some, None}
use Rattle.std.specs.Cmp.Lexicographic.{pointwise}
use Rattle.std.specs.List.{list_any}
use Rattle.std.specs.Option.{is_none}
use Rattle.name_tables.specs.Places.{AreFirstPlaces, first_place}
use Rattle.stl_rules.specs.DeclarationRules.{key_of}
use Rattle.stl_tree.specs.declared.raw.RawActual.{RawActual}

-- an actual gives the formal of a key
abbrev pub has_actual_key : List ℕ → RawActual → Bool
has_actual_key key a = pointwise nat_eq key (key_of a.formal)

-- each key is kept with the place of its first actual
abbrev pub AreActualPlaces : List RawActual → List (List ℕ × ℕ) → Type 0
AreActualPlaces actuals table = AreFirstPlaces (pointwise nat_eq) has_actual_key actuals table

-- no actual gives the formal of a key, or of a key that is kept at a place
abbrev pub lacks : List RawActual → List ℕ → Bool
lacks actuals key = is_none (first_place (has_actual_key key) actuals)

abbrev pub lacks_at : List RawActual → Option (List ℕ) → Bool
lacks_at actuals None = false
lacks_at actuals (Some key) = lacks actuals key

-- or of one of some keys
abbrev pub lacks_one : List RawActual → List (List ℕ) → Bool
lacks_one actuals keys = list_any (lacks actuals) keys
