-- Names as the keys of a set of vectors.
use Rattle.std.specs.Prelude.{◌≡◌, ℕ, Bool, true, false, not, cond, if◌then◌else◌, nat_eq, IfOk, OnOk, Result, Ok, Err, List, [], ◌∷◌, ◌++◌, map, ◌||◌}
use Rattle.std.specs.Cmp.Lexicographic.{pointwise}
use Rattle.std.specs.List.{list_any}
use Rattle.std.proofs.Common.{refl, sym, ap, ◌∙◌}
use Rattle.indexmap.specs.IndexSet.{insert_key}
use Rattle.st_tree.specs.Naming.{is_new, is_same}
use Rattle.st_globals.specs.inner.Names.{with_name}

module _ {K : Type 0} (items : K → List ℕ) where
  pub among : (key : List ℕ) (ks : List K) → list_any (λ k. pointwise nat_eq key (items k)) ks ≡ list_any (is_same key) (map items ks)
  among key [] = refl
  among key (k ∷ ks) = ap (λ b. pointwise nat_eq key (items k) || b) (among key ks)

  appended : (k : K) (ks : List K) → map items (ks ++ k ∷ []) ≡ map items ks ++ items k ∷ []
  appended k [] = refl
  appended k (x ∷ ks) = ap (λ l. items x ∷ l) (appended k ks)

  either : (k : K) (ks : List K) (b : Bool) → map items (cond b ks (ks ++ k ∷ [])) ≡ cond b (map items ks) (map items ks ++ items k ∷ [])
  either k ks true = refl
  either k ks false = appended k ks

  pub inserted : (k : K) (ks : List K)
      → map items (insert_key (λ x y. pointwise nat_eq (items x) (items y)) ks k) ≡ with_name (map items ks) (items k)
  inserted k ks =
      either k ks (list_any (λ x. pointwise nat_eq (items k) (items x)) ks)
      ∙ ap (λ b. cond b (map items ks) (map items ks ++ items k ∷ [])) (among (items k) ks)

-- a name is added exactly where it is new
flip : {X : Type 0} (t : Bool) (x y : X) → (if t then x else y) ≡ (if not t then y else x)
flip true x y = refl
flip false x y = refl

pub added : {E : Type 0} (r : Result Bool E) (key : List ℕ) (ks new : List (List ℕ)) → IfOk r (λ b. b ≡ is_new key ks)
    → OnOk r (new ≡ with_name ks key) → IfOk r (λ b. new ≡ (if b then ks ++ key ∷ [] else ks))
added (Ok b) key ks new h e =
    e ∙ flip (list_any (is_same key) ks) ks (ks ++ key ∷ []) ∙ ap (λ (t : Bool). if t then ks ++ key ∷ [] else ks) (sym h)
added (Err x) key ks new h e = tt
