-- Pairs of a place in the order and a position: sorted, they are the blocks in the order of their units.
use Rattle.std.proofs.Common.{◌≡◌, ℕ, zero, suc, ◌+◌, ◌<◌, ◌≤◌, ◌==◌, Bool, true, false, ◌&&◌, ◌||◌, if◌then◌else◌, List, [], ◌∷◌, ◌++◌, length, map, Some, refl, sym, ap, subst, ◌∙◌, arith}
use Rattle.std.specs.Prelude.{nat_lt, slice_get}
use Rattle.std.proofs.lemmas.Bool.Decides.{nat_tests}
use Rattle.instruction_lowering.specs.UnitNames.{in_order, insert_block, order_of}
use Rattle.instruction_lowering.specs.inner.UnitOrder.{AreBlocksAt, Pair}
use Rattle.stl_tree.specs.declared.program.Block.{Block}

-- the places of blocks in the order, each with its position, from one on
abbrev pub places_from : ℕ → List Block → List Pair
places_from k [] = []
places_from k (b ∷ rest) = (order_of b.name, k) ∷ places_from (suc k) rest

pub places_end : (k : ℕ) (blocks : List Block) (b : Block)
    → places_from k (blocks ++ b ∷ []) ≡ places_from k blocks ++ (order_of b.name, k + length blocks) ∷ []
places_end k [] b = let e : k ≡ k + 0 = omega arith in ap (λ (n : ℕ). (order_of b.name, n) ∷ []) e
places_end k (x ∷ rest) b =
    let e : suc k + length rest ≡ k + suc (length rest) = omega arith in
    ap (λ (ps : List Pair). (order_of x.name, k) ∷ ps) (places_end (suc k) rest b)
    ∙ ap (λ (n : ℕ). (order_of x.name, k) ∷ places_from (suc k) rest ++ (order_of b.name, n) ∷ []) e

-- Insertion

-- a pair stands before another
abbrev pub is_before : Pair → Pair → Bool
is_before y x = nat_lt y.0 x.0 || ((y.0 == x.0) && nat_lt y.1 x.1)

abbrev pub insert_pair : Pair → List Pair → List Pair
insert_pair x [] = x ∷ []
insert_pair x (y ∷ rest) = if is_before y x then y ∷ insert_pair x rest else x ∷ y ∷ rest

abbrev pub in_their_order : List Pair → List Pair
in_their_order [] = []
in_their_order (x ∷ rest) = insert_pair x (in_their_order rest)

-- pairs and the blocks that stand at their positions, whose places they have
abbrev Match : List Block → List Pair → List Block → Type 0
Match blocks [] [] = Unit {0}
Match blocks [] (b ∷ bs) = ⊥
Match blocks (x ∷ xs) [] = ⊥
Match blocks (x ∷ xs) (b ∷ bs) = (slice_get blocks x.1 ≡ Some b) × (x.0 ≡ order_of b.name) × Match blocks xs bs

-- all positions are later ones
abbrev Later : ℕ → List Pair → Type 0
Later n [] = Unit {0}
Later n (x ∷ xs) = (n < x.1) × Later n xs

later_insert : (n : ℕ) (x : Pair) (xs : List Pair) → n < x.1 → Later n xs → Later n (insert_pair x xs)
later_insert n x [] h later = (h, tt)
later_insert n x (y ∷ rest) h later = by (is_before y x) (later_insert n x rest h later.1)
  where
    by : (t : Bool) → Later n (insert_pair x rest) → Later n (if t then y ∷ insert_pair x rest else x ∷ y ∷ rest)
    by true others = (later.0, others)
    by false others = (h, later)

-- a pair with an earlier position stands where its block does
match_insert : (blocks : List Block) (x : Pair) (b : Block) (xs : List Pair) (bs : List Block) → slice_get blocks x.1 ≡ Some b → x.0 ≡ order_of b.name
    → Later x.1 xs → Match blocks xs bs → Match blocks (insert_pair x xs) (insert_block b bs)
match_insert blocks x b [] [] there place later h = (there, place, tt)
match_insert blocks x b [] (c ∷ bs) there place later h = elim h [ ]
match_insert blocks x b (y ∷ xs) [] there place later h = elim h [ ]
match_insert blocks x b (y ∷ xs) (c ∷ bs) there place later h =
    by (nat_lt (order_of c.name) (order_of b.name)) refl (match_insert blocks x b xs bs there place later.1 h.2)
  where
    not_earlier : nat_lt y.1 x.1 ≡ false
    not_earlier = let less : x.1 < y.1 = later.0 in grind (arith, nat_tests)

    before : (t : Bool) → nat_lt (order_of c.name) (order_of b.name) ≡ t → is_before y x ≡ t
    before true e = rw (h.1, place, e) refl
    before false e = rw (h.1, place, e, not_earlier) (none (order_of c.name == order_of b.name))
      where
        none : (b : Bool) → (b && false) ≡ false
        none true = refl
        none false = refl

    by : (t : Bool) → nat_lt (order_of c.name) (order_of b.name) ≡ t → Match blocks (insert_pair x xs) (insert_block b bs)
        → Match blocks (if is_before y x then y ∷ insert_pair x xs else x ∷ y ∷ xs) (if t then c ∷ insert_block b bs else b ∷ c ∷ bs)
    by true e others = rw (before true e) (h.0, h.1, others)
    by false e others = rw (before false e) (there, place, h)

-- the pairs of blocks that lie so in all blocks
matches : (all blocks : List Block) (k : ℕ) → ((j : ℕ) (b : Block) → slice_get blocks j ≡ Some b → slice_get all (k + j) ≡ Some b)
    → Match all (in_their_order (places_from k blocks)) (in_order blocks)
matches all [] k lie = tt
matches all (b ∷ rest) k lie =
    let e : k ≡ k + 0 = omega arith in
    match_insert all (order_of b.name, k) b (in_their_order (places_from (suc k) rest)) (in_order rest) (ap (slice_get all) e ∙ lie 0 b refl) refl
    (later_all k (suc k) rest (omega arith))
    (matches all rest (suc k) (λ j c f. let next : suc k + j ≡ k + suc j = omega arith in ap (slice_get all) next ∙ lie (suc j) c f))
  where
    later_all : (n k : ℕ) (blocks : List Block) → n < k → Later n (in_their_order (places_from k blocks))
    later_all n k [] h = tt
    later_all n k (c ∷ rest) h =
        later_insert n (order_of c.name, k) (in_their_order (places_from (suc k) rest)) h (later_all n (suc k) rest (omega arith))

blocks_at : (blocks : List Block) (xs : List Pair) (bs : List Block) → Match blocks xs bs → AreBlocksAt blocks (map (λ (x : Pair). x.1) xs) bs
blocks_at blocks [] [] h = tt
blocks_at blocks [] (b ∷ bs) h = elim h [ ]
blocks_at blocks (x ∷ xs) [] h = elim h [ ]
blocks_at blocks (x ∷ xs) (b ∷ bs) h = (h.0, blocks_at blocks xs bs h.2)

-- so the positions, in the order of these pairs, are those of the blocks in their order
pub positions_in_order : (blocks : List Block) → AreBlocksAt blocks (map (λ (x : Pair). x.1) (in_their_order (places_from 0 blocks))) (in_order blocks)
positions_in_order blocks =
    blocks_at blocks (in_their_order (places_from 0 blocks)) (in_order blocks)
    (matches blocks blocks 0 (λ j b f. let e : 0 + j ≡ j = omega arith in ap (slice_get blocks) e ∙ f))
