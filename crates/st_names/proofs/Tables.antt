-- A table as the entries of a map with keys in vectors.
use Rattle.st_tree.proofs.Common.{◌≡◌, ℕ, Bool, true, false, cond, List, [], ◌∷◌, ◌++◌, map, Option, Some, None, is_some, refl, sym, ap, ◌∙◌, is_same}
use Rattle.std.specs.Map.{lookup}
use Rattle.indexmap.specs.IndexMap.{insert_entry}
use Rattle.st_names.specs.Names.{look_up, with_entry}

-- the first key that is the same is found in either form
pub looks : {K T : Type 0} (items : K → List ℕ) (key : List ℕ) (es : List (K × T))
    → lookup (λ k. is_same key (items k)) es ≡ look_up key (map (λ e. (items e.0, e.1)) es)
looks items key [] = refl
looks items key (e ∷ es) = ap (cond (is_same key (items e.0)) (Some e.1)) (looks items key es)

-- a key that is not there goes last
pub appended : {K T : Type 0} (eq : K → K → Bool) (k : K) (v : T) (es : List (K × T)) → lookup (eq k) es ≡ None → insert_entry eq es k v ≡ es ++ (k, v) ∷ []
appended eq k v [] h = refl
appended eq k v (e ∷ es) h = step (eq k e.0) (λ q. appended eq k v es q) h
  where
    step : (b : Bool) → (lookup (eq k) es ≡ None → insert_entry eq es k v ≡ es ++ (k, v) ∷ []) → cond b (Some e.1) (lookup (eq k) es) ≡ None
        → cond b ((e.0, v) ∷ es) (e ∷ insert_entry eq es k v) ≡ e ∷ (es ++ (k, v) ∷ [])
    step true more q = cc
    step false more q = ap (λ l. e ∷ l) (more q)

pub none : {T : Type 0} (x : Option T) → is_some x ≡ false → x ≡ None
none None h = refl
none (Some x) h = cc

map_append : {X Y : Type 0} (f : X → Y) (xs ys : List X) → map f (xs ++ ys) ≡ map f xs ++ map f ys
map_append f [] ys = refl
map_append f (x ∷ xs) ys = ap (λ l. f x ∷ l) (map_append f xs ys)

-- what a map does with a new key is what a table does
pub declared : {K T : Type 0} (items : K → List ℕ) (k : K) (v : T) (es new : List (K × T))
    → is_some (look_up (items k) (map (λ e. (items e.0, e.1)) es)) ≡ false
    → new ≡ insert_entry (λ x y. is_same (items x) (items y)) es k v
    → map (λ e. (items e.0, e.1)) new ≡ with_entry (items k) v (map (λ e. (items e.0, e.1)) es)
declared {K} {T} items k v es new h e =
    let f : K × T → List ℕ × T = λ e. (items e.0, e.1) in
    let t = map f es in
    let absent = looks items (items k) es ∙ none _ h in
    ap (map f) (e ∙ appended (λ x y. is_same (items x) (items y)) k v es absent) ∙ map_append f es ((k, v) ∷ [])
    ∙ ap (λ b. cond b t (t ++ (items k, v) ∷ [])) (sym h)
