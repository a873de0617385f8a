-- What is found in a list where something is made of each element.
use Rattle.std.proofs.Common.{◌≡◌, Bool, true, false, cond, List, [], ◌∷◌, map, Option, Some, refl}
use Rattle.std.specs.Prelude.{find, option_map}

-- what is made of each unit is found where the unit is
module _ {A B : Type 0} (of : A → B) (test : B → Bool) where
  first_or_more : (found : Bool) (x : A) (o : Option A) (o' : Option B)
      → o' ≡ option_map of o → cond found (Some (of x)) o' ≡ option_map of (cond found (Some x) o)
  first_or_more true x o o' e = refl
  first_or_more false x o o' e = e

  pub found_of : (units : List A) → find test (map of units) ≡ option_map of (find (λ (u : A). test (of u)) units)
  found_of [] = refl
  found_of (x ∷ xs) = first_or_more (test (of x)) x (find (λ (u : A). test (of u)) xs) (find test (map of xs)) (found_of xs)
