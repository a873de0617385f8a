-- Names that are tried until none of some keys is theirs: each that is no new one leaves fewer keys for those behind it.
use Rattle.std.proofs.Common.{◌≡◌, ℕ, suc, ◌+◌, ◌<◌, ◌≤◌, Bool, true, false, not, if◌then◌else◌, List, [], ◌∷◌, ◌++◌, length, refl, sym, ap, ◌∙◌, subst, arith}
use Rattle.std.specs.Prelude.{nat_lt}
use Rattle.std.proofs.lemmas.Bool.Decides.{nat_tests}
use Rattle.std.proofs.lemmas.Slice.Eq.{bytes_eq-Decides}
use Rattle.st_tree.proofs.Common.{and_parts}
use Rattle.st_tree.specs.Naming.{are_apart, is_new, is_same}

pub same_key_is : (a b : List ℕ) → is_same a b ≡ true → a ≡ b
same_key_is a b h = (bytes_eq-Decides a b).0 h

pub same_as_itself : (a : List ℕ) → is_same a a ≡ true
same_as_itself a = (bytes_eq-Decides a a).1 refl

-- two keys that differ are not the same
pub not_same : (a b : List ℕ) → (a ≡ b → is_same a b ≡ false) → is_same a b ≡ false
not_same a b h = by (is_same a b) refl
  where
    by : (t : Bool) → is_same a b ≡ t → t ≡ false
    by false e = refl
    by true e = sym e ∙ h (same_key_is a b e)

-- How many keys measure at least so much

module _ (measure : List ℕ → ℕ) where
  abbrev above : ℕ → List ℕ → ℕ
  above low key = if nat_lt (measure key) low then 0 else 1

  abbrev pub over : ℕ → List (List ℕ) → ℕ
  over low [] = 0
  over low (key ∷ keys) = above low key + over low keys

  one_above : (low : ℕ) (key : List ℕ) → above low key ≤ 1
  one_above low key = by (nat_lt (measure key) low)
    where
      by : (b : Bool) → (if b then 0 else 1) ≤ 1
      by true = omega arith
      by false = omega arith

  pub over_few : (low : ℕ) (keys : List (List ℕ)) → over low keys ≤ length keys
  over_few low [] = omega arith
  over_few low (key ∷ keys) =
      let one : above low key ≤ 1 = one_above low key in
      let others : over low keys ≤ length keys = over_few low keys in
      omega arith

  fewer_above : (low : ℕ) (key : List ℕ) → above (suc low) key ≤ above low key
  fewer_above low key = by (nat_lt (measure key) low) refl (nat_lt (measure key) (suc low)) refl
    where
      by : (b : Bool) → nat_lt (measure key) low ≡ b → (c : Bool) → nat_lt (measure key) (suc low) ≡ c → (if c then 0 else 1) ≤ (if b then 0 else 1)
      by true e true f = omega arith
      by false e true f = omega arith
      by false e false f = omega arith
      by true e false f =
          let less : measure key < low = grind (arith, nat_tests) in
          let not_less : suc low ≤ measure key = grind (arith, nat_tests) in
          absurd (omega arith)

  fewer : (low : ℕ) (keys : List (List ℕ)) → over (suc low) keys ≤ over low keys
  fewer low [] = omega arith
  fewer low (key ∷ keys) =
      let one : above (suc low) key ≤ above low key = fewer_above low key in
      let others : over (suc low) keys ≤ over low keys = fewer low keys in
      omega arith

  at_itself : (n : ℕ) → nat_lt n n ≡ false
  at_itself n = grind (arith, nat_tests)

  below_next : (n : ℕ) → nat_lt n (suc n) ≡ true
  below_next n = grind (arith, nat_tests)

  -- a key that is there measures what it measures
  pub one_fewer : (key : List ℕ) (keys : List (List ℕ)) → is_new key keys ≡ false → over (suc (measure key)) keys < over (measure key) keys
  one_fewer key [] h = cc
  one_fewer key (k ∷ keys) h = by (is_same key k) refl h (λ f. one_fewer key keys f)
    where
      by : (b : Bool) → is_same key k ≡ b → is_new key (k ∷ keys) ≡ false
          → (is_new key keys ≡ false → over (suc (measure key)) keys < over (measure key) keys)
          → over (suc (measure key)) (k ∷ keys) < over (measure key) (k ∷ keys)
      by true e h behind_it =
          let same : measure key ≡ measure k = ap measure (same_key_is key k e) in
          let here : above (measure key) k ≡ 1 =
          ap (λ (m : ℕ). above m k) same ∙ ap (λ (b : Bool). if b then 0 else 1) (at_itself (measure k)) in
          let behind : above (suc (measure key)) k ≡ 0 =
          ap (λ (m : ℕ). above (suc m) k) same ∙ ap (λ (b : Bool). if b then 0 else 1) (below_next (measure k)) in
          let others : over (suc (measure key)) keys ≤ over (measure key) keys = fewer (measure key) keys in
          omega arith
      by false e h behind_it =
          let one : above (suc (measure key)) k ≤ above (measure key) k = fewer_above (measure key) k in
          let others : over (suc (measure key)) keys < over (measure key) keys = behind_it (rw e at h) in
          omega arith

  -- where no key measures so much, it is new
  pub none_over : (key : List ℕ) (keys : List (List ℕ)) → over (measure key) keys ≡ 0 → is_new key keys ≡ true
  none_over key keys none = by (is_new key keys) refl
    where
      by : (b : Bool) → is_new key keys ≡ b → b ≡ true
      by true e = refl
      by false e = let less : over (suc (measure key)) keys < over (measure key) keys = one_fewer key keys e in absurd (omega arith)

-- Keys one after another

turned : (a b : List ℕ) → is_same a b ≡ false → is_same b a ≡ false
turned a b h = not_same b a (λ e. ap (λ (x : List ℕ). is_same x a) e ∙ ap (λ (x : List ℕ). is_same a x) (sym e) ∙ h)

-- a key is new among two lists of them
pub new_in_parts : (key : List ℕ) (keys more : List (List ℕ)) → is_new key keys ≡ true → is_new key more ≡ true → is_new key (keys ++ more) ≡ true
new_in_parts key [] more h k = k
new_in_parts key (x ∷ keys) more h k = by (is_same key x) refl h (λ f. new_in_parts key keys more f k)
  where
    by : (b : Bool) → is_same key x ≡ b → is_new key (x ∷ keys) ≡ true → (is_new key keys ≡ true → is_new key (keys ++ more) ≡ true)
        → is_new key (x ∷ keys ++ more) ≡ true
    by true e h others = absurd (clash (rw e at h))
      where
        clash : false ≡ true → ⊥
        clash e = cc
    by false e h others = rw e (others (rw e at h))

-- where a key is new, none of the others is the same
pub new_to_first : (key x : List ℕ) (keys : List (List ℕ)) → is_new key (x ∷ keys) ≡ true → (is_same key x ≡ false) × (is_new key keys ≡ true)
new_to_first key x keys h = by (is_same key x) refl h
  where
    by : (b : Bool) → is_same key x ≡ b → is_new key (x ∷ keys) ≡ true → (b ≡ false) × (is_new key keys ≡ true)
    by true e h = absurd (clash (rw e at h))
      where
        clash : false ≡ true → ⊥
        clash e = cc
    by false e h = (refl, rw e at h)

-- keys of which none is another, and one more that is new
pub apart_more : (keys : List (List ℕ)) (key : List ℕ) → are_apart keys ≡ true → is_new key keys ≡ true → are_apart (keys ++ key ∷ []) ≡ true
apart_more [] key h k = refl
apart_more (x ∷ keys) key h k =
    let parts = and_parts (is_new x keys) (are_apart keys) h in
    let differ = new_to_first key x keys k in
    let one : is_new x (key ∷ []) ≡ true = rw (turned key x differ.0) refl in
    rw (new_in_parts x keys (key ∷ []) parts.0 one, apart_more keys key parts.1 differ.1) refl
