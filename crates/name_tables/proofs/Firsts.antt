-- Where keys stand first, with one item more.
use Rattle.std.proofs.Common.{◌≡◌, ◌<◌, ℕ, suc, ◌+◌, Bool, true, false, cond, ◌&&◌, nat_eq, List, [], ◌∷◌, ◌++◌, length, take, get_or, map, Option, Some, None, is_some, option_map, refl, sym, ap, subst, ◌∙◌, arith}
use Rattle.std.specs.Char.{to_ascii_lowercase, to_ascii_uppercase}
use Rattle.std.specs.Cmp.Lexicographic.{pointwise}
use Rattle.std.specs.Map.{lookup}
use Rattle.std.specs.Option.{option_or}
use Rattle.std.proofs.lemmas.Bool.Decides.{nat_tests}
use Rattle.std.proofs.lemmas.Slice.Eq.{bytes_eq-Decides}
use Rattle.std.proofs.lemmas.List.{length-take-le, take_more}
use Rattle.name_tables.specs.Places.{AreFirstPlaces, first_place, with_place}

first_append : {X : Type 0} (test : X → Bool) (xs : List X) (x : X)
    → first_place test (xs ++ x ∷ []) ≡ option_or (first_place test xs) (cond (test x) (Some (length xs)) None)
first_append test [] x = refl
first_append test (y ∷ ys) x = by_test (test y) (test x) (first_place test ys) (first_append test ys x)
  where
    by_test : (b c : Bool) (o : Option ℕ) → first_place test (ys ++ x ∷ []) ≡ option_or o (cond c (Some (length ys)) None)
        → cond b (Some 0) (option_map (λ n. suc n) (first_place test (ys ++ x ∷ [])))
        ≡ option_or (cond b (Some 0) (option_map (λ n. suc n) o)) (cond c (Some (length (y ∷ ys))) None)
    by_test true c o e = refl
    by_test false c (Some n) e = ap (option_map (λ n. suc n)) e
    by_test false true None e = ap (option_map (λ n. suc n)) e
    by_test false false None e = ap (option_map (λ n. suc n)) e

lookup_append : {X : Type 0} (test : X → Bool) (table : List (X × ℕ)) (key : X) (place : ℕ)
    → lookup test (table ++ (key, place) ∷ []) ≡ option_or (lookup test table) (cond (test key) (Some place) None)
lookup_append test [] key place = refl
lookup_append test (e ∷ es) key place = by_test (test e.0) (lookup_append test es key place)
  where
    by_test : (b : Bool) → lookup test (es ++ (key, place) ∷ []) ≡ option_or (lookup test es) (cond (test key) (Some place) None)
        → cond b (Some e.1) (lookup test (es ++ (key, place) ∷ []))
        ≡ option_or (cond b (Some e.1) (lookup test es)) (cond (test key) (Some place) None)
    by_test true h = refl
    by_test false h = h

-- a test of keys that says which are equal
module _ {X A : Type 0} (eq : X → X → Bool) (sound : (k q : X) → eq k q ≡ true → k ≡ q) (is_at : X → A → Bool) where
  -- one item more, that has no key
  pub no_key : (table : List (X × ℕ)) (xs : List A) (x : A) → ((k : X) → is_at k x ≡ false)
      → AreFirstPlaces eq is_at xs table → AreFirstPlaces eq is_at (xs ++ x ∷ []) table
  no_key table xs x none h k =
      h k ∙ sym (or_none (first_place (is_at k) xs)) ∙ ap (λ b. option_or (first_place (is_at k) xs) (cond b (Some (length xs)) None)) (sym (none k))
      ∙ sym (first_append (is_at k) xs x)
    where
      or_none : (o : Option ℕ) → option_or o None ≡ o
      or_none None = refl
      or_none (Some n) = refl

  -- one item more, with its key
  pub with_key : (table : List (X × ℕ)) (xs : List A) (x : A) (key : X) → ((k : X) → is_at k x ≡ eq k key)
      → AreFirstPlaces eq is_at xs table → AreFirstPlaces eq is_at (xs ++ x ∷ []) (with_place eq key (length xs) table)
  with_key table xs x key is h k =
      by_place (lookup (eq key) table) refl (eq k key) refl
      ∙ ap (λ o. option_or o (cond (eq k key) (Some (length xs)) None)) (h k)
      ∙ ap (λ b. option_or (first_place (is_at k) xs) (cond b (Some (length xs)) None)) (sym (is k))
      ∙ sym (first_append (is_at k) xs x)
    where
      some_or : (o : Option ℕ) (p : ℕ) (q : Option ℕ) → o ≡ Some p → o ≡ option_or o q
      some_or None p q e = absurd cc
      some_or (Some n) p q e = refl

      or_none : (o : Option ℕ) → o ≡ option_or o None
      or_none None = refl
      or_none (Some n) = refl

      by_place : (o : Option ℕ) → lookup (eq key) table ≡ o → (b : Bool) → eq k key ≡ b
          → lookup (eq k) (cond (is_some o) table (table ++ (key, length xs) ∷ [])) ≡ option_or (lookup (eq k) table) (cond b (Some (length xs)) None)
      by_place None e b f = lookup_append (eq k) table key (length xs) ∙ ap (λ t. option_or (lookup (eq k) table) (cond t (Some (length xs)) None)) f
      by_place (Some p) e true f =
          some_or (lookup (eq k) table) p (Some (length xs)) (ap (λ q. lookup (eq q) table) (sound k key f) ∙ e)
      by_place (Some p) e false f = or_none (lookup (eq k) table)

  -- one turn of a loop that keeps the places of the keys of items
  pub key_turn : (xs : List A) (i : ℕ) (x : A) (key : X) (table : List (X × ℕ)) → i < length xs → x ≡ get_or xs i x → ((k : X) → is_at k x ≡ eq k key)
      → AreFirstPlaces eq is_at (take i xs) table → AreFirstPlaces eq is_at (take (i + 1) xs) (with_place eq key i table)
  key_turn xs i x key table before is at h =
      let taken : length (take i xs) ≡ i = length-take-le i xs (omega (arith, before)) in
      let more : take i xs ++ x ∷ [] ≡ take (i + 1) xs = ap (λ y. take i xs ++ y ∷ []) is ∙ sym (take_more xs i x before) in
      subst (λ l. AreFirstPlaces eq is_at l (with_place eq key i table)) more
      (subst (λ n. AreFirstPlaces eq is_at (take i xs ++ x ∷ []) (with_place eq key n table)) taken (with_key table (take i xs) x key at h))

-- Names

-- letters are the same in small and in large
same_letters : (a b : ℕ) → nat_eq (to_ascii_lowercase a) (to_ascii_lowercase b) ≡ nat_eq (to_ascii_uppercase b) (to_ascii_uppercase a)
same_letters a b = grind (arith, nat_tests)

pub same_words : (a b : List ℕ)
    → pointwise nat_eq (map to_ascii_lowercase a) (map to_ascii_lowercase b) ≡ pointwise nat_eq (map to_ascii_uppercase b) (map to_ascii_uppercase a)
same_words [] [] = refl
same_words [] (y ∷ ys) = refl
same_words (x ∷ xs) [] = refl
same_words (x ∷ xs) (y ∷ ys) =
    ap (λ b. b && pointwise nat_eq (map to_ascii_lowercase xs) (map to_ascii_lowercase ys)) (same_letters x y)
    ∙ ap (λ b. nat_eq (to_ascii_uppercase y) (to_ascii_uppercase x) && b) (same_words xs ys)

pub name_sound : (k q : List ℕ) → pointwise nat_eq k q ≡ true → k ≡ q
name_sound k q h = (bytes_eq-Decides k q).0 h
