-- Names as the keys of a set of vectors.
use Rattle.std.specs.Prelude.{◌≡◌, ℕ, Bool, true, false, cond, nat_eq, List, [], ◌∷◌, ◌++◌, map, ◌||◌}
use Rattle.std.specs.Cmp.Lexicographic.{pointwise}
use Rattle.std.specs.List.{list_any}
use Rattle.std.proofs.Common.{refl, ap, ◌∙◌}
use Rattle.indexmap.specs.IndexSet.{insert_key}
use Rattle.stl_rules.specs.DeclarationRules.{is_named, with_name}

module _ {K : Type 0} (items : K → List ℕ) where
  pub named : (key : List ℕ) (ks : List K) → list_any (λ k. pointwise nat_eq key (items k)) ks ≡ is_named key (map items ks)
  named key [] = refl
  named key (k ∷ ks) = ap (λ b. pointwise nat_eq key (items k) || b) (named key ks)

  appended : (k : K) (ks : List K) → map items (ks ++ k ∷ []) ≡ map items ks ++ items k ∷ []
  appended k [] = refl
  appended k (x ∷ ks) = ap (λ l. items x ∷ l) (appended k ks)

  either : (k : K) (ks : List K) (b : Bool) → map items (cond b ks (ks ++ k ∷ [])) ≡ cond b (map items ks) (map items ks ++ items k ∷ [])
  either k ks true = refl
  either k ks false = appended k ks

  pub inserted : (k : K) (ks : List K)
      → map items (insert_key (λ x y. pointwise nat_eq (items x) (items y)) ks k) ≡ with_name (items k) (map items ks)
  inserted k ks =
      either k ks (list_any (λ x. pointwise nat_eq (items k) (items x)) ks)
      ∙ ap (λ b. cond b (map items ks) (map items ks ++ items k ∷ [])) (named (items k) ks)
