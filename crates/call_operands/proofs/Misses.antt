-- A formal that no actual gives, looked for among the keys of names: each of these once.
use Rattle.std.proofs.Common.{◌≡◌, ◌<◌, ℕ, suc, ◌+◌, Bool, true, false, cond, ◌||◌, nat_eq, List, [], ◌∷◌, length, drop, map, slice_get, Option, Some, None, is_some, option_map, refl, sym, ap, ◌∙◌}
use Rattle.std.specs.Cmp.Lexicographic.{pointwise}
use Rattle.std.specs.List.{find, list_any}
use Rattle.std.specs.Map.{lookup}
use Rattle.std.specs.Option.{is_none}
use Rattle.std.proofs.lemmas.List.{at_drop_more, length-map}
use Rattle.std.proofs.lemmas.Option.{slice_get-get_or, slice_get-map}
use Rattle.std.proofs.lemmas.Simd.{map-map}
use Rattle.std.proofs.lemmas.Slice.Eq.{bytes_eq-Decides}
use Rattle.block_variables.specs.inner.FormalPlaces.{AreFormalPlaces, has_formal_key}
use Rattle.call_operands.specs.inner.ActualPlaces.{has_actual_key, lacks, lacks_at, lacks_one}
use Rattle.name_tables.proofs.Firsts.{name_sound, same_words}
use Rattle.name_tables.specs.Places.{first_place}
use Rattle.stl_rules.specs.Calls.{actual_named, is_given, misses_one}
use Rattle.stl_rules.specs.DeclarationRules.{key_of}
use Rattle.stl_tree.specs.declared.program.Formal.{Formal}
use Rattle.stl_tree.specs.declared.raw.RawActual.{RawActual}

-- one key of a loop over what is left
pub lacks_turn : (actuals : List RawActual) (keys : List (List ℕ)) (i : ℕ) → i < length keys
    → lacks_one actuals (drop i keys) ≡ (lacks_at actuals (slice_get keys i) || lacks_one actuals (drop (i + 1) keys))
lacks_turn actuals keys i before =
    at_drop_more (lacks_one actuals) keys i [] before
    ∙ ap (λ o. lacks_at actuals o || lacks_one actuals (drop (i + 1) keys)) (sym (slice_get-get_or keys i [] before))

-- Lists with the same keys

same_bools : (a b : Bool) → (a ≡ true → b ≡ true) → (b ≡ true → a ≡ true) → a ≡ b
same_bools true b f g = sym (f refl)
same_bools false true f g = g refl
same_bools false false f g = refl

or_true : (b : Bool) → (b || true) ≡ true
or_true true = refl
or_true false = refl

or_right : (a b : Bool) → b ≡ true → (a || b) ≡ true
or_right a b e = ap (λ c. a || c) e ∙ or_true a

any_at : (test : List ℕ → Bool) (key : List ℕ) (ys : List (List ℕ)) → list_any (pointwise nat_eq key) ys ≡ true → test key ≡ true → list_any test ys ≡ true
any_at test key [] e t = absurd cc
any_at test key (y ∷ ys) e t = by (pointwise nat_eq key y) refl e (λ f. any_at test key ys f t)
  where
    by : (b : Bool) → pointwise nat_eq key y ≡ b → (b || list_any (pointwise nat_eq key) ys) ≡ true
        → (list_any (pointwise nat_eq key) ys ≡ true → list_any test ys ≡ true) → (test y || list_any test ys) ≡ true
    by true f e more = ap (λ b. b || list_any test ys) (ap test (sym (name_sound key y f)) ∙ t)
    by false f e more = or_right (test y) (list_any test ys) (more e)

any_in : (test : List ℕ → Bool) (xs ys : List (List ℕ))
    → ((key : List ℕ) → list_any (pointwise nat_eq key) xs ≡ true → list_any (pointwise nat_eq key) ys ≡ true)
    → list_any test xs ≡ true → list_any test ys ≡ true
any_in test [] ys h e = absurd cc
any_in test (x ∷ xs) ys h e =
    by (test x) refl e (any_in test xs ys (λ key f. h key (or_right (pointwise nat_eq key x) (list_any (pointwise nat_eq key) xs) f)))
  where
    by : (b : Bool) → test x ≡ b → (b || list_any test xs) ≡ true → (list_any test xs ≡ true → list_any test ys ≡ true) → list_any test ys ≡ true
    by true t e more =
        any_at test x ys (h x (ap (λ b. b || list_any (pointwise nat_eq x) xs) ((bytes_eq-Decides x x).1 refl))) t
    by false t e more = more e

same_any : (test : List ℕ → Bool) (xs ys : List (List ℕ))
    → ((key : List ℕ) → list_any (pointwise nat_eq key) xs ≡ list_any (pointwise nat_eq key) ys) → list_any test xs ≡ list_any test ys
same_any test xs ys h =
    same_bools (list_any test xs) (list_any test ys) (any_in test xs ys (λ key e. sym (h key) ∙ e)) (any_in test ys xs (λ key e. h key ∙ e))

-- The keys of formals

any_map : {X : Type 0} (test : List ℕ → Bool) (f : X → List ℕ) (xs : List X) → list_any test (map f xs) ≡ list_any (λ x. test (f x)) xs
any_map test f [] = refl
any_map test f (x ∷ xs) = ap (λ b. test (f x) || b) (any_map test f xs)

any_same : {X : Type 0} (f g : X → Bool) → ((x : X) → f x ≡ g x) → (xs : List X) → list_any f xs ≡ list_any g xs
any_same f g h [] = refl
any_same f g h (x ∷ xs) = ap (λ b. b || list_any f xs) (h x) ∙ ap (λ b. g x || b) (any_same f g h xs)

some_cond : {X : Type 0} (b : Bool) (x : X) (o : Option X) (more : Bool) → is_some o ≡ more → is_some (cond b (Some x) o) ≡ (b || more)
some_cond true x o more e = refl
some_cond false x o more e = e

some_mapped : (o : Option ℕ) → is_some (option_map (λ n. suc n) o) ≡ is_some o
some_mapped None = refl
some_mapped (Some n) = refl

looked_up : (test : List ℕ → Bool) (table : List (List ℕ × ℕ)) → is_some (lookup test table) ≡ list_any (λ (e : List ℕ × ℕ). test e.0) table
looked_up test [] = refl
looked_up test (e ∷ table) = some_cond (test e.0) e.1 (lookup test table) (list_any (λ (x : List ℕ × ℕ). test x.0) table) (looked_up test table)

placed : {X : Type 0} (test : X → Bool) (xs : List X) → is_some (first_place test xs) ≡ list_any test xs
placed test [] = refl
placed test (x ∷ xs) =
    some_cond (test x) 0 (option_map (λ n. suc n) (first_place test xs)) (list_any test xs) (some_mapped (first_place test xs) ∙ placed test xs)

none_found : {X : Type 0} (test : X → Bool) (xs : List X) → is_none (first_place test xs) ≡ is_none (find test xs)
none_found test [] = refl
none_found test (x ∷ xs) = by (test x) (first_place test xs) (none_found test xs)
  where
    by : (b : Bool) (o : Option ℕ) → is_none o ≡ is_none (find test xs)
        → is_none (cond b (Some 0) (option_map (λ n. suc n) o)) ≡ is_none (cond b (Some x) (find test xs))
    by true o e = refl
    by false None e = e
    by false (Some n) e = e

found_same : {X : Type 0} (f g : X → Bool) → ((x : X) → f x ≡ g x) → (xs : List X) → find f xs ≡ find g xs
found_same f g h [] = refl
found_same f g h (x ∷ xs) = ap (λ b. cond b (Some x) (find f xs)) (h x) ∙ ap (λ o. cond (g x) (Some x) o) (found_same f g h xs)

lacks_name : (actuals : List RawActual) (name : List ℕ) → lacks actuals (key_of name) ≡ is_none (actual_named actuals name)
lacks_name actuals name =
    none_found (has_actual_key (key_of name)) actuals
    ∙ ap (λ o. is_none o) (sym (found_same (is_given name) (has_actual_key (key_of name)) (λ a. same_words a.formal name) actuals))

abbrev keys_of : List Formal → List (List ℕ)
keys_of formals = map (λ (f : Formal). key_of f.name) formals

same_keys : (formals : List Formal) (table : List (List ℕ × ℕ)) → AreFormalPlaces formals table
    → (key : List ℕ) → list_any (pointwise nat_eq key) (map (λ (e : List ℕ × ℕ). e.0) table) ≡ list_any (pointwise nat_eq key) (keys_of formals)
same_keys formals table h key =
    any_map (pointwise nat_eq key) (λ (e : List ℕ × ℕ). e.0) table ∙ sym (looked_up (pointwise nat_eq key) table)
    ∙ ap (λ o. is_some o) (h key) ∙ placed (has_formal_key key) formals
    ∙ sym (any_map (pointwise nat_eq key) (λ (f : Formal). key_of f.name) formals)

lacks_key : (actuals : List RawActual) (formals : List Formal) (table : List (List ℕ × ℕ)) → AreFormalPlaces formals table
    → lacks_one actuals (map (λ (e : List ℕ × ℕ). e.0) table) ≡ misses_one actuals formals
lacks_key actuals formals table h =
    same_any (lacks actuals) (map (λ (e : List ℕ × ℕ). e.0) table) (keys_of formals) (same_keys formals table h)
    ∙ any_map (lacks actuals) (λ (f : Formal). key_of f.name) formals
    ∙ any_same (λ (f : Formal). lacks actuals (key_of f.name)) (λ (f : Formal). is_none (actual_named actuals f.name)) (λ f. lacks_name actuals f.name) formals

pub lacks_is : {X : Type 0} (actuals : List RawActual) (formals : List Formal) (entries : List (X × ℕ)) (key : X → List ℕ)
    → AreFormalPlaces formals (map (λ (e : X × ℕ). (key e.0, e.1)) entries)
    → lacks_one actuals (map (λ (e : X × ℕ). key e.0) entries) ≡ misses_one actuals formals
lacks_is {X = X} actuals formals entries key h =
    ap (lacks_one actuals) (sym (map-map (λ (e : List ℕ × ℕ). e.0) (λ (e : X × ℕ). (key e.0, e.1)) entries))
    ∙ lacks_key actuals formals (map (λ (e : X × ℕ). (key e.0, e.1)) entries) h

-- what is made of the item at a place, and how many are made of some items
pub ruleset at_places = (slice_get-map)

pub ruleset key_laws = (lacks_turn, length-map)
