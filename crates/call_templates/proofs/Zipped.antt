-- Where a `for` over two slices side by side ends, one of them is at its end.
use Rattle.std.proofs.Common.{◌≡◌, List, [], ◌∷◌, ◌⊎◌, inl, inr, Option, None, Bor, subst}
use Rattle.std.proofs.lemmas.Fn.{fronts}
use Rattle.std.proofs.lemmas.Iterator.{zips}
use Rattle.std.proofs.lemmas.List.{nil_from_length}
use Rattle.std.specs.Iterator.Adapters.{zip_first, zip_second}
use Rattle.std.specs.Slice.Iter.{iter_rest}
use Rattle.std.specs.declared.iter.Zip.{Zip}
use Rattle.std.specs.declared.slice.Iter.{Iter}

pub one_ends : {A B : Type 0} (s t : Zip (Iter A) (Iter B)) (r : Option (Bor A × Bor B)) → r ≡ None → zips fronts fronts s r t
    → (iter_rest (zip_first s) ≡ []) ⊎ (iter_rest (zip_second s) ≡ [])
one_ends {A} {B} s t r e p = by (subst (λ o. zips fronts fronts s o t) e p)
  where
    by : ((u : Iter A) × fronts (zip_first s) None u) ⊎ ((u : Iter B) × fronts (zip_second s) None u)
        → (iter_rest (zip_first s) ≡ []) ⊎ (iter_rest (zip_second s) ≡ [])
    by (inl a) = inl (nil_from_length _ a.1.0)
    by (inr b) = inr (nil_from_length _ b.1.0)

-- what is made of two lists side by side is nothing where one of them is empty
pub nothing_left : {A B C : Type 0} (f : List A → List B → List C) → ((ys : List B) → f [] ys ≡ [])
    → ((x : A) (xs : List A) → f (x ∷ xs) [] ≡ []) → (xs : List A) (ys : List B) → (xs ≡ []) ⊎ (ys ≡ []) → f xs ys ≡ []
nothing_left f first second [] ys e = first ys
nothing_left f first second (x ∷ xs) [] e = second x xs
nothing_left f first second (x ∷ xs) (y ∷ ys) (inl e) = absurd (cc e)
nothing_left f first second (x ∷ xs) (y ∷ ys) (inr e) = absurd (cc e)
