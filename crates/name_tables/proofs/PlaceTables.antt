-- Tables as the entries of maps.
use Rattle.std.proofs.Common.{◌≡◌, ℕ, Bool, true, false, cond, List, [], ◌∷◌, ◌++◌, map, Option, Some, None, is_some, refl, sym, ap, ◌∙◌}
use Rattle.std.specs.Map.{lookup}
use Rattle.std.proofs.lemmas.List.{map-append}
use Rattle.indexmap.specs.IndexMap.{insert_entry}
use Rattle.name_tables.specs.Places.{with_place}

-- a key that is not there goes last
pub appended : {K T : Type 0} (eq : K → K → Bool) (k : K) (v : T) (es : List (K × T)) → lookup (eq k) es ≡ None → insert_entry eq es k v ≡ es ++ (k, v) ∷ []
appended eq k v [] h = refl
appended eq k v (e ∷ es) h = step (eq k e.0) (λ q. appended eq k v es q) h
  where
    step : (b : Bool) → (lookup (eq k) es ≡ None → insert_entry eq es k v ≡ es ++ (k, v) ∷ []) → cond b (Some e.1) (lookup (eq k) es) ≡ None
        → cond b ((e.0, v) ∷ es) (e ∷ insert_entry eq es k v) ≡ e ∷ (es ++ (k, v) ∷ [])
    step true more q = cc
    step false more q = ap (λ l. e ∷ l) (more q)

pub none : {T : Type 0} (x : Option T) → is_some x ≡ false → x ≡ None
none None h = refl
none (Some x) h = absurd cc

-- Keys in vectors

module _ {K X : Type 0} (eq : X → X → Bool) (items : K → X) where
  -- the first key that is the same is found in either form
  pub looks : (key : X) (es : List (K × ℕ)) → lookup (λ k. eq key (items k)) es ≡ lookup (eq key) (map (λ e. (items e.0, e.1)) es)
  looks key [] = refl
  looks key (e ∷ es) = ap (cond (eq key (items e.0)) (Some e.1)) (looks key es)

  pub kept : (k : K) (place : ℕ) (es : List (K × ℕ)) → is_some (lookup (eq (items k)) (map (λ e. (items e.0, e.1)) es)) ≡ true
      → map (λ e. (items e.0, e.1)) es ≡ with_place eq (items k) place (map (λ e. (items e.0, e.1)) es)
  kept k place es h =
      let table = map (λ (e : K × ℕ). (items e.0, e.1)) es in
      sym (ap (λ b. cond b table (table ++ (items k, place) ∷ [])) h)

  pub put : (k : K) (place : ℕ) (es new : List (K × ℕ)) → is_some (lookup (eq (items k)) (map (λ e. (items e.0, e.1)) es)) ≡ false
      → new ≡ insert_entry (λ x y. eq (items x) (items y)) es k place
      → map (λ e. (items e.0, e.1)) new ≡ with_place eq (items k) place (map (λ e. (items e.0, e.1)) es)
  put k place es new h e =
      let table = map (λ (e : K × ℕ). (items e.0, e.1)) es in
      let absent : lookup (λ x. eq (items k) (items x)) es ≡ None = looks (items k) es ∙ none (lookup (eq (items k)) table) h in
      ap (map (λ (e : K × ℕ). (items e.0, e.1))) (e ∙ appended (λ x y. eq (items x) (items y)) k place es absent)
      ∙ map-append (λ (e : K × ℕ). (items e.0, e.1)) es ((k, place) ∷ [])
      ∙ sym (ap (λ b. cond b table (table ++ (items k, place) ∷ [])) h)
