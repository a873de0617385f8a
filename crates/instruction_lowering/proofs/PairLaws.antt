-- Two sorted lists with the same pairs are one list.
use Rattle.std.proofs.Common.{◌≡◌, ℕ, zero, suc, ◌+◌, ◌<◌, ◌≤◌, ◌==◌, Bool, true, false, ◌&&◌, ◌||◌, if◌then◌else◌, cond, List, [], ◌∷◌, ◌++◌, get_or, length, map, Equal, Greater, Less, inl, inr, ◌⊎◌, refl, sym, ap, subst, ◌∙◌, arith}
use Rattle.std.specs.Prelude.{nat_lt}
use Rattle.std.specs.List.{sum_by}
use Rattle.std.proofs.lemmas.Bool.{eqb-true}
use Rattle.std.proofs.lemmas.Bool.Decides.{nat_tests}
use Rattle.std.proofs.lemmas.List.Sorted.{sum_by-IsPermutation}
use Rattle.std.proofs.lemmas.List.Sums.{sum_by-cons}
use Rattle.std.specs.List.Sorted.{IsPermutation, IsSorted}
use Rattle.std.specs.Ordering.{is_lt, nat_cmp, ordering_then}
use Rattle.instruction_lowering.specs.UnitNames.{in_order}
use Rattle.stl_tree.specs.declared.program.Block.{Block}
use Rattle.instruction_lowering.specs.inner.UnitOrder.{AreBlocksAt, Pair}
use Rattle.instruction_lowering.proofs.SortedPairs.{in_their_order, insert_pair, is_before, places_from, positions_in_order}

-- Order

-- a pair does not stand before another
abbrev pub IsBehind : Pair → Pair → Type 0
IsBehind y x = is_before y x ≡ false

-- none of some pairs stands before another one, and each of them is behind those before it
abbrev pub AllBehind : Pair → List Pair → Type 0
AllBehind x [] = Unit {0}
AllBehind x (y ∷ ys) = IsBehind y x × AllBehind x ys

abbrev pub AreInOrder : List Pair → Type 0
AreInOrder [] = Unit {0}
AreInOrder (x ∷ xs) = AllBehind x xs × AreInOrder xs

-- what it says of the numbers
behind_means : (y x : Pair) → IsBehind y x → (x.0 < y.0) ⊎ ((x.0 ≡ y.0) × (x.1 ≤ y.1))
behind_means y x h = by (nat_lt y.0 x.0) refl (y.0 == x.0) refl (nat_lt y.1 x.1) refl h
  where
    by : (a : Bool) → nat_lt y.0 x.0 ≡ a → (b : Bool) → (y.0 == x.0) ≡ b → (c : Bool) → nat_lt y.1 x.1 ≡ c → (a || (b && c)) ≡ false
        → (x.0 < y.0) ⊎ ((x.0 ≡ y.0) × (x.1 ≤ y.1))
    by true e b f c g q = cc
    by false e true f true g q = cc
    by false e false f c g q =
        let not_less : x.0 ≤ y.0 = grind (arith, nat_tests) in
        let other : y.0 ≡ x.0 → ⊥ = differ f in
        let less : x.0 < y.0 = grind arith in
        inl less
      where
        differ : (y.0 == x.0) ≡ false → y.0 ≡ x.0 → ⊥
        differ f e = grind (arith, nat_tests)
    by false e true f false g q =
        let same : y.0 ≡ x.0 = eqb-true y.0 x.0 f in
        let less : x.1 ≤ y.1 = grind (arith, nat_tests) in
        inr (sym same, less)

means_behind : (y x : Pair) → (x.0 < y.0) ⊎ ((x.0 ≡ y.0) × (x.1 ≤ y.1)) → IsBehind y x
means_behind y x (inl less) =
    let first : nat_lt y.0 x.0 ≡ false = grind (arith, nat_tests) in
    let second : (y.0 == x.0) ≡ false = grind (arith, nat_tests) in
    rw (first, second) refl
means_behind y x (inr (same, less)) =
    let first : nat_lt y.0 x.0 ≡ false = grind (arith, nat_tests) in
    let third : nat_lt y.1 x.1 ≡ false = grind (arith, nat_tests) in
    rw (first, third) (none (y.0 == x.0))
  where
    none : (b : Bool) → (b && false) ≡ false
    none true = refl
    none false = refl

behind_itself : (x : Pair) → IsBehind x x
behind_itself x = means_behind x x (inr (refl, omega arith))

both_behind : (x y z : Pair) → (x.0 < y.0) ⊎ ((x.0 ≡ y.0) × (x.1 ≤ y.1)) → (y.0 < z.0) ⊎ ((y.0 ≡ z.0) × (y.1 ≤ z.1))
    → (x.0 < z.0) ⊎ ((x.0 ≡ z.0) × (x.1 ≤ z.1))
both_behind x y z (inl a) (inl b) = inl (omega arith)
both_behind x y z (inl a) (inr (e, b)) = inl (omega arith)
both_behind x y z (inr (e, a)) (inl b) = inl (omega arith)
both_behind x y z (inr (e, a)) (inr (f, b)) = inr (omega arith, omega arith)

pub behind_further : (x y z : Pair) → IsBehind y x → IsBehind z y → IsBehind z x
behind_further x y z h k = means_behind z x (both_behind x y z (behind_means y x h) (behind_means z y k))

one_pair : (x y : Pair) → (x.0 < y.0) ⊎ ((x.0 ≡ y.0) × (x.1 ≤ y.1)) → (y.0 < x.0) ⊎ ((y.0 ≡ x.0) × (y.1 ≤ x.1)) → x ≡ y
one_pair x y (inl a) (inl b) = absurd (omega arith)
one_pair x y (inl a) (inr (f, b)) = absurd (omega arith)
one_pair x y (inr (e, a)) (inl b) = absurd (omega arith)
one_pair (a, b) (c, d) (inr (e, h)) (inr (f, k)) = let same : b ≡ d = omega arith in λ i. (e i, same i)

-- behind each other they are one
same_place : (x y : Pair) → IsBehind y x → IsBehind x y → x ≡ y
same_place x y h k = one_pair x y (behind_means y x h) (behind_means x y k)

-- How often a pair is there

abbrev is_pair : Pair → Pair → Bool
is_pair x y = (x.0 == y.0) && (x.1 == y.1)

abbrev one_if : Pair → Pair → ℕ
one_if x y = if is_pair x y then 1 else 0

abbrev pub count : Pair → List Pair → ℕ
count x xs = sum_by (one_if x) xs

pair_is : (x y : Pair) → is_pair x y ≡ true → x ≡ y
pair_is (a, b) (c, d) h = by (a == c) refl (b == d) refl h
  where
    by : (s : Bool) → (a == c) ≡ s → (t : Bool) → (b == d) ≡ t → (s && t) ≡ true → ◌≡◌ {A = Pair} (a, b) (c, d)
    by true e true f q = let one : a ≡ c = eqb-true a c e in let two : b ≡ d = eqb-true b d f in λ i. (one i, two i)
    by true e false f q = cc
    by false e t f q = cc

itself : (x : Pair) → one_if x x ≡ 1
itself x =
    let one : (x.0 == x.0) ≡ true = grind (arith, nat_tests) in
    let two : (x.1 == x.1) ≡ true = grind (arith, nat_tests) in
    rw (one, two) refl

-- one that is there is behind what all are behind
counted_behind : (x y : Pair) (xs : List Pair) → AllBehind x xs → 1 ≤ count y xs → IsBehind y x
counted_behind x y [] h some = absurd (omega arith)
counted_behind x y (z ∷ xs) h some = by (is_pair y z) refl (λ more. counted_behind x y xs h.1 more)
  where
    by : (b : Bool) → is_pair y z ≡ b → (1 ≤ count y xs → IsBehind y x) → IsBehind y x
    by true e others = subst (λ (w : Pair). IsBehind w x) (sym (pair_is y z e)) h.0
    by false e others =
        let none : one_if y z ≡ 0 = ap (λ (b : Bool). if b then 1 else 0) e in
        others (omega (arith, none, some, sum_by-cons (one_if y) z xs))

counts_itself : (x : Pair) (xs : List Pair) → 1 ≤ count x (x ∷ xs)
counts_itself x xs = omega (arith, itself x, sum_by-cons (one_if x) x xs)

-- lists in order with the same pairs are the same
pub same_in_order : (xs ys : List Pair) → AreInOrder xs → AreInOrder ys → ((z : Pair) → count z xs ≡ count z ys) → xs ≡ ys
same_in_order [] [] o p same = refl
same_in_order [] (y ∷ ys) o p same =
    let some : 1 ≤ count y (y ∷ ys) = counts_itself y ys in
    let none : 0 ≡ count y (y ∷ ys) = same y in
    absurd (omega arith)
same_in_order (x ∷ xs) [] o p same =
    let some : 1 ≤ count x (x ∷ xs) = counts_itself x xs in
    let none : count x (x ∷ xs) ≡ 0 = same x in
    absurd (omega arith)
same_in_order (x ∷ xs) (y ∷ ys) o p same =
    let mine : 1 ≤ count y (y ∷ ys) = counts_itself y ys in
    let yours : 1 ≤ count x (x ∷ xs) = counts_itself x xs in
    let there : 1 ≤ count y (x ∷ xs) = subst (λ (n : ℕ). 1 ≤ n) (sym (same y)) mine in
    let here : 1 ≤ count x (y ∷ ys) = subst (λ (n : ℕ). 1 ≤ n) (same x) yours in
    let e : x ≡ y = same_place x y (counted_behind x y (x ∷ xs) (behind_itself x, o.0) there) (counted_behind y x (y ∷ ys) (behind_itself y, p.0) here) in
    let others : xs ≡ ys = same_in_order xs ys o.1 p.1 (λ z. rest_same z e) in
    λ i. e i ∷ others i
  where
    rest_same : (z : Pair) → x ≡ y → count z xs ≡ count z ys
    rest_same z e =
        let heads : one_if z x ≡ one_if z y = ap (one_if z) e in
        omega (arith, heads, same z, sum_by-cons (one_if z) x xs, sum_by-cons (one_if z) y ys)

-- Insertion

before_means : (y x : Pair) → is_before y x ≡ true → (y.0 < x.0) ⊎ ((y.0 ≡ x.0) × (y.1 < x.1))
before_means y x h = by (nat_lt y.0 x.0) refl (y.0 == x.0) refl (nat_lt y.1 x.1) refl h
  where
    by : (a : Bool) → nat_lt y.0 x.0 ≡ a → (b : Bool) → (y.0 == x.0) ≡ b → (c : Bool) → nat_lt y.1 x.1 ≡ c → (a || (b && c)) ≡ true
        → (y.0 < x.0) ⊎ ((y.0 ≡ x.0) × (y.1 < x.1))
    by true e b f c g q = let less : y.0 < x.0 = grind (arith, nat_tests) in inl less
    by false e true f true g q =
        let less : y.1 < x.1 = grind (arith, nat_tests) in inr (eqb-true y.0 x.0 f, less)
    by false e true f false g q = cc
    by false e false f c g q = cc

not_both : (y x : Pair) → is_before y x ≡ true → IsBehind x y
not_both y x h = means_behind x y (weaker (before_means y x h))
  where
    weaker : (y.0 < x.0) ⊎ ((y.0 ≡ x.0) × (y.1 < x.1)) → (y.0 < x.0) ⊎ ((y.0 ≡ x.0) × (y.1 ≤ x.1))
    weaker (inl a) = inl a
    weaker (inr (e, a)) = inr (e, omega arith)

insert_behind : (x z : Pair) (xs : List Pair) → IsBehind z x → AllBehind x xs → AllBehind x (insert_pair z xs)
insert_behind x z [] h all = (h, tt)
insert_behind x z (y ∷ xs) h all = by (is_before y z) (insert_behind x z xs h all.1)
  where
    by : (b : Bool) → AllBehind x (insert_pair z xs) → AllBehind x (if b then y ∷ insert_pair z xs else z ∷ y ∷ xs)
    by true others = (all.0, others)
    by false others = (h, all)

all_further : (x y : Pair) (xs : List Pair) → IsBehind y x → AllBehind y xs → AllBehind x xs
all_further x y [] h all = tt
all_further x y (z ∷ xs) h all = (behind_further x y z h all.0, all_further x y xs h all.1)

insert_in_order : (z : Pair) (xs : List Pair) → AreInOrder xs → AreInOrder (insert_pair z xs)
insert_in_order z [] o = (tt, tt)
insert_in_order z (y ∷ xs) o = by (is_before y z) refl (insert_in_order z xs o.1)
  where
    by : (b : Bool) → is_before y z ≡ b → AreInOrder (insert_pair z xs) → AreInOrder (if b then y ∷ insert_pair z xs else z ∷ y ∷ xs)
    by true e others = (insert_behind y z xs (not_both y z e) o.0, others)
    by false e others = ((e, all_further z y xs e o.0), o)

sorted_in_order : (xs : List Pair) → AreInOrder (in_their_order xs)
sorted_in_order [] = tt
sorted_in_order (x ∷ xs) = insert_in_order x (in_their_order xs) (sorted_in_order xs)

counts_inserted : (w z : Pair) (xs : List Pair) → count w (insert_pair z xs) ≡ one_if w z + count w xs
counts_inserted w z [] = omega (arith, sum_by-cons (one_if w) z [])
counts_inserted w z (y ∷ xs) = by (is_before y z) (counts_inserted w z xs)
  where
    by : (b : Bool) → count w (insert_pair z xs) ≡ one_if w z + count w xs
        → count w (if b then y ∷ insert_pair z xs else z ∷ y ∷ xs) ≡ one_if w z + count w (y ∷ xs)
    by true others = omega (arith, others, sum_by-cons (one_if w) y (insert_pair z xs), sum_by-cons (one_if w) y xs)
    by false others = sum_by-cons (one_if w) z (y ∷ xs)

counts_sorted : (w : Pair) (xs : List Pair) → count w (in_their_order xs) ≡ count w xs
counts_sorted w [] = refl
counts_sorted w (x ∷ xs) = omega (arith, counts_inserted w x (in_their_order xs), counts_sorted w xs, sum_by-cons (one_if w) x xs)

-- pairs in order with the same pairs as others are these, sorted
pub sorted_are : (xs ys : List Pair) → AreInOrder ys → ((z : Pair) → count z ys ≡ count z xs) → ys ≡ in_their_order xs
sorted_are xs ys o same = same_in_order ys (in_their_order xs) o (sorted_in_order xs) (λ z. same z ∙ sym (counts_sorted z xs))

-- in order where each stands behind the one before it
pub in_order_by_steps : (x y : Pair) (xs : List Pair) → IsBehind y x → AreInOrder (y ∷ xs) → AreInOrder (x ∷ y ∷ xs)
in_order_by_steps x y xs h o = ((h, all_further x y xs h o.0), o)

-- as `cmp` of pairs says
pub compared : (x y : Pair) → is_lt (ordering_then (nat_cmp x.0 y.0) (nat_cmp x.1 y.1)) ≡ is_before x y
compared x y = by (nat_lt x.0 y.0) (x.0 == y.0) (nat_lt x.1 y.1) (x.1 == y.1)
  where
    by : (a b c d : Bool) → is_lt (ordering_then (cond a Less (cond b Equal Greater)) (cond c Less (cond d Equal Greater))) ≡ (a || (b && c))
    by true b c d = refl
    by false true true d = refl
    by false true false true = refl
    by false true false false = refl
    by false false c d = refl

by_steps : (xs : List Pair) → IsSorted (λ (x y : Pair). ordering_then (nat_cmp x.0 y.0) (nat_cmp x.1 y.1)) xs → AreInOrder xs
by_steps [] sorted = tt
by_steps (x ∷ []) sorted = (tt, tt)
by_steps (x ∷ y ∷ rest) sorted =
    in_order_by_steps x y rest (sym (compared y x) ∙ sorted 0 x (omega arith) (omega arith))
    (by_steps (y ∷ rest)
    (λ k d low high.
    let e : suc k + 1 ≡ suc (k + 1) = omega arith in
    subst
    (λ (n : ℕ).
    is_lt (ordering_then (nat_cmp (get_or (x ∷ y ∷ rest) n d).0 (get_or (y ∷ rest) k d).0) (nat_cmp (get_or (x ∷ y ∷ rest) n d).1 (get_or (y ∷ rest) k d).1))
    ≡ false)
    e (sorted (suc k) d (omega arith) (omega arith))))

-- sorted places are those of the blocks in their order
pub sorted_positions : (blocks : List Block) (old new : List Pair) → old ≡ places_from 0 blocks → IsPermutation old new
    → IsSorted (λ (x y : Pair). ordering_then (nat_cmp x.0 y.0) (nat_cmp x.1 y.1)) new
    → AreBlocksAt blocks (map (λ (x : Pair). x.1) new) (in_order blocks)
sorted_positions blocks old new e permuted sorted =
    subst (λ (ps : List Pair). AreBlocksAt blocks (map (λ (x : Pair). x.1) ps) (in_order blocks))
    (sym (sorted_are (places_from 0 blocks) new (by_steps new sorted)
    (λ z. sum_by-IsPermutation (one_if z) old new permuted ∙ ap (count z) e)))
    (positions_in_order blocks)
