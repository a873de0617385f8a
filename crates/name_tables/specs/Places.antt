-- Where names, or other keys, stand first.
use Rattle.std.specs.Prelude.{◌≡◌, ℕ, suc, Bool, if◌then◌else◌, List, [], ◌∷◌, ◌++◌, Option, Some, None, option_map, is_some}
use Rattle.std.specs.Map.{lookup}

-- the first place in a list of what passes a test
abbrev pub first_place : {X : Type 0} → (X → Bool) → List X → Option ℕ
first_place test [] = None
first_place test (x ∷ xs) = if test x then Some 0 else option_map (λ n. suc n) (first_place test xs)

-- one more key at a place, if it has no place yet
abbrev pub with_place : {X : Type 0} → (X → X → Bool) → X → ℕ → List (X × ℕ) → List (X × ℕ)
with_place eq key place table = if is_some (lookup (eq key) table) then table else table ++ (key, place) ∷ []

-- each key is kept with the place of the first item that has it
abbrev pub AreFirstPlaces : {X A : Type 0} → (X → X → Bool) → (X → A → Bool) → List A → List (X × ℕ) → Type 0
AreFirstPlaces {X = X} eq is_at items table = (key : X) → lookup (eq key) table ≡ first_place (is_at key) items
