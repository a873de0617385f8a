-- Lists: what their parts are, and facts of each of their elements.
use Rattle.st_tree.proofs.Common.{◌≡◌, ℕ, zero, suc, ◌<◌, ◌&&◌, Bool, true, List, [], ◌∷◌, ◌++◌, length, map, Some, refl, sym, ap, subst, ◌∙◌, arith, All, option_map, slice_get, All-cons, All-head, All-nil, All-tail, slice_get-map}
use Rattle.std.specs.List.{flat_map}
use Rattle.std.proofs.lemmas.List.{append-nil, append_assoc}
pub use Rattle.st_tree.proofs.Induction.{Each}

pub both_true : (a b : Bool) → a ≡ true → b ≡ true → (a && b) ≡ true
both_true a b h g = ap (λ t. t && b) h ∙ g

-- Parts

pub nil_first : {X : Type 0} (xs ys : List X) → xs ++ ys ≡ [] → xs ≡ []
nil_first [] ys h = refl
nil_first (x ∷ xs) ys h = absurd cc

pub nil_second : {X : Type 0} (xs ys : List X) → xs ++ ys ≡ [] → ys ≡ []
nil_second [] ys h = h
nil_second (x ∷ xs) ys h = absurd cc

pub both_nil : {X : Type 0} (xs ys : List X) → xs ++ ys ≡ [] → (xs ≡ []) × (ys ≡ [])
both_nil xs ys h = (nil_first xs ys h, nil_second xs ys h)

pub nil_at : {X Y : Type 0} (f : X → List Y) (xs : List X) (i : ℕ) (x : X) → flat_map f xs ≡ [] → slice_get xs i ≡ Some x → f x ≡ []
nil_at f [] i x h q = absurd cc
nil_at f (z ∷ xs) zero x h q = let same : z ≡ x = cc in ap f (sym same) ∙ nil_first (f z) (flat_map f xs) h
nil_at f (z ∷ xs) (suc i) x h q = nil_at f xs i x (nil_second (f z) (flat_map f xs) h) q

pub map_last : {X Y : Type 0} (f : X → Y) (xs : List X) (x : X) → map f (xs ++ x ∷ []) ≡ map f xs ++ f x ∷ []
map_last f [] x = refl
map_last f (y ∷ xs) x = ap (λ l. f y ∷ l) (map_last f xs x)

-- Positions

pub mapped_at : {X Y : Type 0} (f : X → Y) (xs : List X) (i : ℕ) (x : X) → slice_get xs i ≡ Some x → slice_get (map f xs) i ≡ Some (f x)
mapped_at f xs i x h = slice_get-map f xs i ∙ ap (option_map f) h

pub mapped_from : {X Y : Type 0} (f : X → Y) (xs : List X) (i : ℕ) (y : Y) → slice_get (map f xs) i ≡ Some y
    → (x : X) × (slice_get xs i ≡ Some x) × (y ≡ f x)
mapped_from f [] i y h = absurd cc
mapped_from f (z ∷ xs) zero y h = let same : y ≡ f z = cc in (z, refl, same)
mapped_from f (z ∷ xs) (suc i) y h = mapped_from f xs i y h

pub there_at : {X : Type 0} (xs : List X) (i : ℕ) → i < length xs → (x : X) × (slice_get xs i ≡ Some x)
there_at [] i h = absurd (omega (arith, h))
there_at (x ∷ xs) zero h = (x, refl)
there_at (x ∷ xs) (suc i) h = there_at xs i (omega (arith, h))

-- Each element

pub each_append : {X : Type 0} (P : X → Type 0) (xs ys : List X) → Each P xs → Each P ys → Each P (xs ++ ys)
each_append P [] ys h k = k
each_append P (x ∷ xs) ys h k = (h.0, each_append P xs ys h.1 k)

pub each_map : {X : Type 0} (P Q : X → Type 0) (xs : List X) → ((x : X) → P x → Q x) → Each P xs → Each Q xs
each_map P Q [] f h = tt
each_map P Q (x ∷ xs) f h = (f x h.0, each_map P Q xs f h.1)

pub each_all : {X : Type 0} (P : X → Type 0) (xs : List X) → Each P xs → All P xs
each_all P [] h = All-nil P
each_all P (x ∷ xs) h = All-cons P x xs h.0 (each_all P xs h.1)

pub each_of : {X : Type 0} (P : X → Type 0) (xs : List X) → All P xs → Each P xs
each_of P [] h = tt
each_of P (x ∷ xs) h = (All-head P x xs h, each_of P xs (All-tail P x xs h))

pub each_at : {X : Type 0} (P : X → Type 0) (xs : List X) (n : ℕ) (x : X) → Each P xs → slice_get xs n ≡ Some x → P x
each_at P [] n x h q = absurd cc
each_at P (y ∷ xs) zero x h q = let same : y ≡ x = cc in subst P same h.0
each_at P (y ∷ xs) (suc n) x h q = each_at P xs n x h.1 q

pub each_from : {X : Type 0} (P : X → Type 0) (xs : List X) → ((n : ℕ) (x : X) → slice_get xs n ≡ Some x → P x) → Each P xs
each_from P [] h = tt
each_from P (x ∷ xs) h = (h 0 x refl, each_from P xs (λ n y q. h (suc n) y q))

-- Two lists side by side

-- each of some things with the one at its place in another list
abbrev pub EachPair : {X Y : Type 0} → (X → Y → Type 0) → List X → List Y → Type 0
EachPair P [] [] = Unit {0}
EachPair P (x ∷ xs) (y ∷ ys) = P x y × EachPair P xs ys
EachPair P xs ys = ⊥

pub pair_at : {X Y : Type 0} (P : X → Y → Type 0) (xs : List X) (ys : List Y) → EachPair P xs ys
    → (n : ℕ) (x : X) (y : Y) → slice_get xs n ≡ Some x → slice_get ys n ≡ Some y → P x y
pair_at P [] ys h n x y p q = absurd cc
pair_at P (a ∷ xs) [] h n x y p q = absurd h
pair_at P (a ∷ xs) (b ∷ ys) h zero x y p q =
    let one : a ≡ x = cc in
    let two : b ≡ y = cc in
    subst (P x) two (subst (λ w. P w b) one h.0)
pair_at P (a ∷ xs) (b ∷ ys) h (suc n) x y p q = pair_at P xs ys h.1 n x y p q

pub pair_length : {X Y : Type 0} (P : X → Y → Type 0) (xs : List X) (ys : List Y) → EachPair P xs ys → length ys ≡ length xs
pair_length P [] [] h = refl
pair_length P (x ∷ xs) (y ∷ ys) h = omega (arith, pair_length P xs ys h.1)
pair_length P xs ys h = absurd h

pub pair_map : {X Y Z : Type 0} (P : X → Y → Type 0) (f : X → Z) (g : Y → Z) → ((x : X) (y : Y) → P x y → g y ≡ f x)
    → (xs : List X) (ys : List Y) → EachPair P xs ys → map g ys ≡ map f xs
pair_map P f g e [] [] h = refl
pair_map P f g e (x ∷ xs) (y ∷ ys) h = rw (e x y h.0, pair_map P f g e xs ys h.1) refl
pair_map P f g e xs ys h = absurd h

-- What forms stand for, behind others

-- a form that stands for what others stand for, and then for something beside each of some things
pub record Behind {C R X : Type 0} (tree : C → List R) (P : X → R → Type 0) (others all : C) (xs : List X) : Type 0 where
  pub more : List R
  pub same : tree all ≡ tree others ++ more
  pub are : EachPair P xs more

pub none_behind : {C R X : Type 0} (tree : C → List R) (P : X → R → Type 0) (others : C) → Behind tree P others others []
none_behind tree P others = record { more = []; same = sym (append-nil (tree others)); are = tt }

pub one_behind : {C R X : Type 0} {tree : C → List R} {P : X → R → Type 0} {all : C} {x : X} {xs : List X} (others next : C)
    (own : R) → tree next ≡ tree others ++ own ∷ [] → P x own → Behind tree P next all xs → Behind tree P others all (x ∷ xs)
one_behind {tree = tree} others next own e p r = record {
  more = own ∷ r.more;
  same = r.same ∙ ap (λ l. l ++ r.more) e ∙ append_assoc (tree others) (own ∷ []) r.more;
  are = (p, r.are);
}

pub pairs_behind : {C R X : Type 0} (tree : C → List R) (P : X → R → Type 0) (others all : C) (xs : List X)
    → tree others ≡ [] → Behind tree P others all xs → EachPair P xs (tree all)
pairs_behind tree P others all xs none r = subst (EachPair P xs) (ap (λ l. l ++ r.more) (sym none) ∙ sym r.same) r.are
