-- Looking something up in a table.
use Rattle.std.proofs.Common.{◌≡◌, ◌⊎◌, inl, inr, Bool, true, false, not, cond, ◌&&◌, List, [], ◌∷◌, map, Some, None, refl, sym, ap, ◌∙◌}
use Rattle.std.proofs.lemmas.Bool.{and_parts, not-true, or_parts}
use Rattle.std.specs.List.{find, list_any}
use Rattle.std.specs.Prelude.{◌||◌, option_map}
use Rattle.stl_statement_grammar.specs.ConstantForms.{IsAmong}

-- a table that is seen as another

at : {X Y : Type 0} (view : X → Y) (test : Y → Bool) (x : X) (xs : List X) (b : Bool) → option_map view (find (λ y. test (view y)) xs) ≡ find test (map view xs)
    → option_map view (cond b (Some x) (find (λ y. test (view y)) xs)) ≡ cond b (Some (view x)) (find test (map view xs))
at view test x xs true h = refl
at view test x xs false h = h

-- the first that passes, seen, is the first of the seen ones that passes
pub find_map : {X Y : Type 0} (view : X → Y) (test : Y → Bool) (xs : List X) → option_map view (find (λ x. test (view x)) xs) ≡ find test (map view xs)
find_map view test [] = refl
find_map view test (x ∷ xs) = at view test x xs (test (view x)) (find_map view test xs)

-- none passes a test that fails always
pub find_none : {X : Type 0} (xs : List X) → find (λ (x : X). false) xs ≡ None
find_none [] = refl
find_none (x ∷ xs) = find_none xs

-- nor one that asks first what is false
pub find_refused : {X : Type 0} (b : Bool) (one two : X → Bool) (xs : List X) → b ≡ false → None ≡ find (λ x. b && one x && two x) xs
find_refused true one two xs h = absurd cc
find_refused false one two xs h = sym (find_none xs)

-- what is found

pub some_is : {X : Type 0} (a b : X) → Some a ≡ Some b → a ≡ b
some_is a b e = cc

-- it stands in the table
pub found_among : {X : Type 0} (test : X → Bool) (xs : List X) (y : X) → find test xs ≡ Some y → IsAmong y xs
found_among test [] y e = absurd cc
found_among test (x ∷ xs) y e = by (test x) e (λ h. found_among test xs y h)
  where
    by : (b : Bool) → cond b (Some x) (find test xs) ≡ Some y → (find test xs ≡ Some y → IsAmong y xs) → IsAmong y (x ∷ xs)
    by true e next = inl (sym (some_is x y e))
    by false e next = inr (next e)

-- it passes
pub found_passes : {X : Type 0} (test : X → Bool) (xs : List X) (y : X) → find test xs ≡ Some y → test y ≡ true
found_passes test [] y e = absurd cc
found_passes test (x ∷ xs) y e = by (test x) refl e (λ h. found_passes test xs y h)
  where
    by : (b : Bool) → test x ≡ b → cond b (Some x) (find test xs) ≡ Some y → (find test xs ≡ Some y → test y ≡ true) → test y ≡ true
    by true t e next = ap test (sym (some_is x y e)) ∙ t
    by false t e next = next e

-- where nothing is found, none passes
pub none_passes : {X : Type 0} (test : X → Bool) (xs : List X) (other : X) → find test xs ≡ None → IsAmong other xs → test other ≡ false
none_passes test [] other e h = elim h [ ]
none_passes test (x ∷ xs) other e h = by (test x) refl e h (λ k more. none_passes test xs other k more)
  where
    by : (b : Bool) → test x ≡ b → cond b (Some x) (find test xs) ≡ None
        → (other ≡ x) ⊎ IsAmong other xs → (find test xs ≡ None → IsAmong other xs → test other ≡ false)
        → test other ≡ false
    by true t e h next = absurd cc
    by false t e (inl same) next = ap test same ∙ t
    by false t e (inr more) next = next e more

-- where none passes, nothing is found
pub none_found : {X : Type 0} (test : X → Bool) (xs : List X) → ((x : X) → test x ≡ false) → find test xs ≡ None
none_found test [] none = refl
none_found test (x ∷ xs) none = ap (λ (b : Bool). cond b (Some x) (find test xs)) (none x) ∙ none_found test xs none

pub none_among : {X : Type 0} (test : X → Bool) (xs : List X) → ((x : X) → IsAmong x xs → test x ≡ false) → find test xs ≡ None
none_among test [] none = refl
none_among test (x ∷ xs) none = ap (λ (b : Bool). cond b (Some x) (find test xs)) (none x (inl refl)) ∙ none_among test xs (λ y among. none y (inr among))

-- where none is there, nothing is found
pub find_unlisted : {X : Type 0} (test : X → Bool) (xs : List X) → list_any test xs ≡ false → find test xs ≡ None
find_unlisted test [] h = refl
find_unlisted test (x ∷ xs) h =
    let p = or_parts (test x) (list_any test xs) h in ap (λ (b : Bool). cond b (Some x) (find test xs)) p.0 ∙ find_unlisted test xs p.1

-- one that passes is there
pub any_at : {X : Type 0} (test : X → Bool) (xs : List X) (x : X) → IsAmong x xs → test x ≡ true → list_any test xs ≡ true
any_at test [] x h t = elim h [ ]
any_at test (y ∷ ys) x h t = by (test y) refl h (λ more. any_at test ys x more t)
  where
    by : (b : Bool) → test y ≡ b → (x ≡ y) ⊎ IsAmong x ys → (IsAmong x ys → list_any test ys ≡ true) → (b || list_any test ys) ≡ true
    by true e h next = refl
    by false e (inl same) next = let clash : true ≡ false = sym t ∙ ap test same ∙ e in absurd cc
    by false e (inr more) next = next more

-- where none is there, it does not pass
pub none_at : {X : Type 0} (test : X → Bool) (xs : List X) (x : X) → IsAmong x xs → list_any test xs ≡ false → test x ≡ false
none_at test xs x h none = by (test x) refl
  where
    by : (b : Bool) → test x ≡ b → b ≡ false
    by true t = let clash : true ≡ false = sym (any_at test xs x h t) ∙ none in absurd cc
    by false t = refl

-- of items that are apart, the one that passes is found

-- no item of a table clashes with a later one
abbrev pub are_apart : {X : Type 0} → (X → X → Bool) → List X → Bool
are_apart clash [] = true
are_apart clash (x ∷ xs) = not (list_any (clash x) xs) && are_apart clash xs

pub found_apart : {X : Type 0} (test : X → Bool) (clash : X → X → Bool) (table : List X) (x : X) → are_apart clash table ≡ true →
    ((a b : X) → test a ≡ true → test b ≡ true → clash a b ≡ true) → IsAmong x table → test x ≡ true → find test table ≡ Some x
found_apart test clash [] x apart both among passes = elim among [ ]
found_apart test clash (y ∷ ys) x apart both among passes =
    let p = and_parts (not (list_any (clash y) ys)) (are_apart clash ys) apart in
    by (test y) refl among (not-true (list_any (clash y) ys) p.0) (λ more. found_apart test clash ys x p.1 both more passes)
  where
    by : (b : Bool) → test y ≡ b → (x ≡ y) ⊎ IsAmong x ys → list_any (clash y) ys ≡ false
        → (IsAmong x ys → find test ys ≡ Some x) → cond b (Some y) (find test ys) ≡ Some x
    by true t (inl same) none next = ap Some (sym same)
    by true t (inr more) none next = let clashes : true ≡ false = sym (both y x t passes) ∙ none_at (clash y) ys x more none in absurd cc
    by false t (inl same) none next = let clashes : true ≡ false = sym passes ∙ ap test same ∙ t in absurd cc
    by false t (inr more) none next = next more
