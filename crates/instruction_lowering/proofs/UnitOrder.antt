-- The unit of a block stands where its position says: blocks in the order of their units are as many as there are, and
-- before each of them stand those that come before it.
use Rattle.std.proofs.Common.{◌≡◌, ℕ, zero, suc, ◌<◌, ◌≤◌, ◌^◌, Bool, true, false, if◌then◌else◌, List, [], ◌∷◌, length, Option, Some, None, refl, sym, ap, subst, ◌∙◌, arith}
use Rattle.std.specs.Prelude.{nat_lt, slice_get}
use Rattle.std.proofs.lemmas.Bool.Decides.{nat_tests}
use Rattle.stl_tree.specs.declared.program.Block.{Block}
use Rattle.memory_areas.specs.declared.call.BlockName.{BlockName}
use Rattle.instruction_lowering.specs.UnitNames.{in_order, insert_block, order_of, unit_position}

-- Counting

abbrev before : Block → BlockName → Bool
before b called = nat_lt (order_of b.name) (order_of called)

abbrev one_more : Bool → ℕ → ℕ
one_more b n = if b then suc n else n

swapped : (b c : Bool) (n : ℕ) → one_more b (one_more c n) ≡ one_more c (one_more b n)
swapped true true n = refl
swapped true false n = refl
swapped false true n = refl
swapped false false n = refl

-- one more block counts wherever it stands
inserted : (b : Block) (blocks : List Block) (called : BlockName)
    → unit_position (insert_block b blocks) called ≡ one_more (before b called) (unit_position blocks called)
inserted b [] called = refl
inserted b (c ∷ rest) called = by (nat_lt (order_of c.name) (order_of b.name)) (inserted b rest called)
  where
    by : (less : Bool) → unit_position (insert_block b rest) called ≡ one_more (before b called) (unit_position rest called)
        → unit_position (if less then c ∷ insert_block b rest else b ∷ c ∷ rest) called
        ≡ one_more (before b called) (unit_position (c ∷ rest) called)
    by true others = ap (one_more (before c called)) others ∙ swapped (before c called) (before b called) (unit_position rest called)
    by false others = refl

pub same_position : (blocks : List Block) (called : BlockName) → unit_position (in_order blocks) called ≡ unit_position blocks called
same_position [] called = refl
same_position (b ∷ rest) called = inserted b (in_order rest) called ∙ ap (one_more (before b called)) (same_position rest called)

-- The order

-- no block of a list comes before another, or at its place
abbrev pub Follow : ℕ → List Block → Type 0
Follow n [] = Unit {0}
Follow n (b ∷ rest) = (n < order_of b.name) × Follow n rest

abbrev pub Ascend : List Block → Type 0
Ascend [] = Unit {0}
Ascend (b ∷ rest) = Follow (order_of b.name) rest × Ascend rest

-- blocks with places of their own
abbrev pub Differ : ℕ → List Block → Type 0
Differ n [] = Unit {0}
Differ n (b ∷ rest) = (order_of b.name ≡ n → ⊥) × Differ n rest

abbrev pub AllDiffer : List Block → Type 0
AllDiffer [] = Unit {0}
AllDiffer (b ∷ rest) = Differ (order_of b.name) rest × AllDiffer rest

further : (m n : ℕ) (blocks : List Block) → m ≤ n → Follow n blocks → Follow m blocks
further m n [] h follow = tt
further m n (b ∷ rest) h follow = (let less : n < order_of b.name = follow.0 in omega arith, further m n rest h follow.1)

follow_more : (n : ℕ) (b : Block) (blocks : List Block) → n < order_of b.name → Follow n blocks → Follow n (insert_block b blocks)
follow_more n b [] h follow = (h, tt)
follow_more n b (c ∷ rest) h follow = by (nat_lt (order_of c.name) (order_of b.name)) (follow_more n b rest h follow.1)
  where
    by : (less : Bool) → Follow n (insert_block b rest) → Follow n (if less then c ∷ insert_block b rest else b ∷ c ∷ rest)
    by true others = (follow.0, others)
    by false others = (h, follow)

ascend_more : (b : Block) (blocks : List Block) → Differ (order_of b.name) blocks → Ascend blocks → Ascend (insert_block b blocks)
ascend_more b [] differ ascend = (tt, tt)
ascend_more b (c ∷ rest) differ ascend = by (nat_lt (order_of c.name) (order_of b.name)) refl (ascend_more b rest differ.1 ascend.1)
  where
    by : (less : Bool) → nat_lt (order_of c.name) (order_of b.name) ≡ less
        → Ascend (insert_block b rest) → Ascend (if less then c ∷ insert_block b rest else b ∷ c ∷ rest)
    by true e others =
        let less : order_of c.name < order_of b.name = grind (arith, nat_tests) in
        (follow_more (order_of c.name) b rest less ascend.0, others)
    by false e others =
        let not_less : order_of b.name ≤ order_of c.name = grind (arith, nat_tests) in
        let other : order_of c.name ≡ order_of b.name → ⊥ = differ.0 in
        let less : order_of b.name < order_of c.name = grind arith in
        ((less, further (order_of b.name) (order_of c.name) rest not_less ascend.0), ascend)

pub differ_more : (n : ℕ) (b : Block) (blocks : List Block) → (order_of b.name ≡ n → ⊥) → Differ n blocks → Differ n (insert_block b blocks)
differ_more n b [] h differ = (h, tt)
differ_more n b (c ∷ rest) h differ = by (nat_lt (order_of c.name) (order_of b.name)) (differ_more n b rest h differ.1)
  where
    by : (less : Bool) → Differ n (insert_block b rest) → Differ n (if less then c ∷ insert_block b rest else b ∷ c ∷ rest)
    by true others = (differ.0, others)
    by false others = (h, differ)

pub differ_all : (n : ℕ) (blocks : List Block) → Differ n blocks → Differ n (in_order blocks)
differ_all n [] differ = tt
differ_all n (b ∷ rest) differ = differ_more n b (in_order rest) differ.0 (differ_all n rest differ.1)

pub ascends : (blocks : List Block) → AllDiffer blocks → Ascend (in_order blocks)
ascends [] differ = tt
ascends (b ∷ rest) differ = ascend_more b (in_order rest) (differ_all (order_of b.name) rest differ.0) (ascends rest differ.1)

-- Where a block stands

pub none_before : (n : ℕ) (blocks : List Block) (called : BlockName) → order_of called ≤ n → Follow n blocks → unit_position blocks called ≡ 0
none_before n [] called h follow = refl
none_before n (b ∷ rest) called h follow =
    let less : n < order_of b.name = follow.0 in
    let not_before : nat_lt (order_of b.name) (order_of called) ≡ false = grind (arith, nat_tests) in
    ap (λ (t : Bool). one_more t (unit_position rest called)) not_before ∙ none_before n rest called h follow.1

pub follow_at : (n : ℕ) (blocks : List Block) (i : ℕ) (b : Block) → Follow n blocks → slice_get blocks i ≡ Some b → n < order_of b.name
follow_at n [] i b follow e = cc
follow_at n (c ∷ rest) zero b follow e = let same : c ≡ b = cc in subst (λ (x : Block). n < order_of x.name) same follow.0
follow_at n (c ∷ rest) (suc i) b follow e = follow_at n rest i b follow.1 e

stands : (blocks : List Block) (i : ℕ) (b : Block) → Ascend blocks → slice_get blocks i ≡ Some b → slice_get blocks (unit_position blocks b.name) ≡ Some b
stands [] i b ascend e = cc
stands (c ∷ rest) zero b ascend e =
    let same : c ≡ b = cc in
    let here : nat_lt (order_of c.name) (order_of b.name) ≡ false =
    ap (λ (x : Block). nat_lt (order_of c.name) (order_of x.name)) (sym same) ∙ itself (order_of c.name) in
    let first : unit_position rest b.name ≡ 0 =
    none_before (order_of c.name) rest b.name (subst (λ (x : Block). order_of x.name ≤ order_of c.name) same (omega arith)) ascend.0 in
    ap (λ (t : Bool). slice_get (c ∷ rest) (one_more t (unit_position rest b.name))) here
    ∙ ap (slice_get (c ∷ rest)) first ∙ e
  where
    itself : (n : ℕ) → nat_lt n n ≡ false
    itself n = grind (arith, nat_tests)
stands (c ∷ rest) (suc i) b ascend e =
    let less : order_of c.name < order_of b.name = follow_at (order_of c.name) rest i b ascend.0 e in
    let here : nat_lt (order_of c.name) (order_of b.name) ≡ true = grind (arith, nat_tests) in
    ap (λ (t : Bool). slice_get (c ∷ rest) (one_more t (unit_position rest b.name))) here ∙ stands rest i b ascend.1 e

-- a block of a list is there in the order too
abbrev pub IsThere : List Block → Block → Type 0
IsThere blocks b = (i : ℕ) × (slice_get blocks i ≡ Some b)

first_there : (b : Block) (blocks : List Block) → IsThere (insert_block b blocks) b
first_there b [] = (0, refl)
first_there b (c ∷ rest) = by (nat_lt (order_of c.name) (order_of b.name)) (first_there b rest)
  where
    by : (less : Bool) → IsThere (insert_block b rest) b → IsThere (if less then c ∷ insert_block b rest else b ∷ c ∷ rest) b
    by true found = (suc found.0, found.1)
    by false found = (0, refl)

still_there : (b x : Block) (blocks : List Block) → IsThere blocks x → IsThere (insert_block b blocks) x
still_there b x [] h = cc
still_there b x (c ∷ rest) h = by (nat_lt (order_of c.name) (order_of b.name)) h.0 h.1 (λ there. still_there b x rest there)
  where
    by : (less : Bool) (i : ℕ) → slice_get (c ∷ rest) i ≡ Some x → (IsThere rest x → IsThere (insert_block b rest) x)
        → IsThere (if less then c ∷ insert_block b rest else b ∷ c ∷ rest) x
    by true zero e others = (0, e)
    by true (suc i) e others = let found = others (i, e) in (suc found.0, found.1)
    by false i e others = (suc i, e)

pub ordered_there : (blocks : List Block) (i : ℕ) (b : Block) → slice_get blocks i ≡ Some b → IsThere (in_order blocks) b
ordered_there [] i b e = cc
ordered_there (c ∷ rest) zero b e =
    let same : c ≡ b = cc in subst (λ (x : Block). IsThere (insert_block c (in_order rest)) x) same (first_there c (in_order rest))
ordered_there (c ∷ rest) (suc i) b e = still_there c b (in_order rest) (ordered_there rest i b e)

-- so each block stands in the order where its unit does
pub unit_stands : (blocks : List Block) (i : ℕ) (b : Block) → AllDiffer blocks → slice_get blocks i ≡ Some b
    → slice_get (in_order blocks) (unit_position blocks b.name) ≡ Some b
unit_stands blocks i b differ e =
    let there : IsThere (in_order blocks) b = ordered_there blocks i b e in
    ap (slice_get (in_order blocks)) (sym (same_position blocks b.name)) ∙ stands (in_order blocks) there.0 b (ascends blocks differ) there.1

-- and each block of the order is one of them
was_there : (b x : Block) (blocks : List Block) → IsThere (insert_block b blocks) x → IsThere (b ∷ blocks) x
was_there b x [] h = h
was_there b x (c ∷ rest) h = by (nat_lt (order_of c.name) (order_of b.name)) h (λ there. was_there b x rest there)
  where
    further_on : IsThere (b ∷ rest) x → IsThere (b ∷ c ∷ rest) x
    further_on (zero, e) = (0, e)
    further_on (suc i, e) = (suc (suc i), e)

    by : (less : Bool) → IsThere (if less then c ∷ insert_block b rest else b ∷ c ∷ rest) x → (IsThere (insert_block b rest) x → IsThere (b ∷ rest) x)
        → IsThere (b ∷ c ∷ rest) x
    by true (zero, e) others = (1, e)
    by true (suc i, e) others = further_on (others (i, e))
    by false there others = there

pub there_before : (blocks : List Block) (i : ℕ) (b : Block) → slice_get (in_order blocks) i ≡ Some b → IsThere blocks b
there_before [] i b e = cc
there_before (c ∷ rest) i b e = by (was_there c b (in_order rest) (i, e)) (λ j there. there_before rest j b there)
  where
    by : IsThere (c ∷ in_order rest) b → ((j : ℕ) → slice_get (in_order rest) j ≡ Some b → IsThere rest b) → IsThere (c ∷ rest) b
    by (zero, e) others = (0, e)
    by (suc j, e) others = let found = others j e in (suc found.0, found.1)
