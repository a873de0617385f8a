-- Which blocks are known to be reached, and between which of them none is.
use Rattle.std.proofs.Common.{◌≡◌, ℕ, zero, suc, ◌+◌, ◌-◌, ◌<◌, ◌≤◌, Bool, true, false, ◌==◌, List, [], ◌∷◌, get_or, length, refl, sym, ap, subst, ◌∙◌, arith}
use Rattle.std.specs.Bool.{Decides}
use Rattle.std.proofs.lemmas.Bool.Decides.{Decides-eqb, Decides-like}
use Rattle.std.proofs.lemmas.List.{length-map}
use Rattle.nesting_laws.specs.Plans.{IsBare}
use Rattle.stl_tree.specs.Segments.{IsReached}
use Rattle.stl_tree.specs.Flows.{Flow, Segment, blocks_of, ways_by}
use Rattle.segment_plans.specs.Known.{AreKnown, counts_from}
use Rattle.segment_plans.specs.declared.blocks.Blocks.{Blocks}
use Rattle.segment_plans.specs.Counts.{count, is_bare, is_reached}

abbrev marked : Bool → ℕ
marked true = 1
marked false = 0

-- how many before one are reached
abbrev before : List Bool → ℕ → ℕ
before reached zero = 0
before [] (suc b) = 0
before (r ∷ reached) (suc b) = marked r + before reached b

count_is : (reached : List Bool) (n b : ℕ) → b ≤ length reached → get_or (counts_from n reached) b 0 ≡ n + before reached b
count_is [] n zero h = omega arith
count_is [] n (suc b) h = absurd (omega (arith, h))
count_is (true ∷ reached) n zero h = omega arith
count_is (false ∷ reached) n zero h = omega arith
count_is (true ∷ reached) n (suc b) h =
    let e : get_or (counts_from (suc n) reached) b 0 ≡ suc n + before reached b = count_is reached (suc n) b (omega (arith, h)) in omega (arith, e)
count_is (false ∷ reached) n (suc b) h =
    let e : get_or (counts_from n reached) b 0 ≡ n + before reached b = count_is reached n b (omega (arith, h)) in omega (arith, e)

-- one more
one_more : (reached : List Bool) (b : ℕ) → b < length reached → before reached (suc b) ≡ before reached b + marked (get_or reached b true)
one_more [] b h = absurd (omega (arith, h))
one_more (r ∷ reached) zero h = omega arith
one_more (r ∷ reached) (suc b) h =
    let e : before reached (suc b) ≡ before reached b + marked (get_or reached b true) = one_more reached b (omega (arith, h)) in omega (arith, e)

was_marked : (r : Bool) → marked r ≡ 0 → r ≡ false
was_marked true e = absurd (omega (arith, e))
was_marked false e = refl

more_before : (reached : List Bool) (b d : ℕ) → b + d ≤ length reached → before reached b ≤ before reached (b + d)
more_before reached b zero h = let e : b + 0 ≡ b = omega arith in subst (λ n. before reached b ≤ before reached n) (sym e) (omega arith)
more_before reached b (suc d) h =
    let e : b + suc d ≡ suc (b + d) = omega arith in
    let f : before reached b ≤ before reached (b + d) = more_before reached b d (omega (arith, h)) in
    let m : before reached (suc (b + d)) ≡ before reached (b + d) + marked (get_or reached (b + d) true) = one_more reached (b + d) (omega (arith, h)) in
    subst (λ n. before reached b ≤ before reached n) (sym e) (omega (arith, f, m))

-- as many before two, so none between them
none_between : (reached : List Bool) (b d k : ℕ) → b + d ≤ length reached → before reached b ≡ before reached (b + d) → k < d
    → get_or reached (b + k) true ≡ false
none_between reached b d k h e l =
    let rest : ℕ = d - suc k in
    let whole : suc (b + k) + rest ≡ b + d = omega (arith, l) in
    let low : before reached b ≤ before reached (b + k) = more_before reached b k (omega (arith, h, l)) in
    let high : before reached (suc (b + k)) ≤ before reached (b + d) =
    subst (λ n. before reached (suc (b + k)) ≤ before reached n) whole (more_before reached (suc (b + k)) rest (omega (arith, h, whole))) in
    let m : before reached (suc (b + k)) ≡ before reached (b + k) + marked (get_or reached (b + k) true) = one_more reached (b + k) (omega (arith, h, l)) in
    was_marked (get_or reached (b + k) true) (omega (arith, low, high, m, e))

-- none between two, so as many before them
same_count : (reached : List Bool) (b d : ℕ) → b + d ≤ length reached → ((k : ℕ) → k < d → get_or reached (b + k) true ≡ false)
    → before reached b ≡ before reached (b + d)
same_count reached b zero h n = ap (before reached) (let e : b ≡ b + 0 = omega arith in e)
same_count reached b (suc d) h n =
    let f : before reached b ≡ before reached (b + d) = same_count reached b d (omega (arith, h)) (λ k l. n k (omega (arith, l))) in
    let m : before reached (suc (b + d)) ≡ before reached (b + d) + marked (get_or reached (b + d) true) = one_more reached (b + d) (omega (arith, h)) in
    let z : marked (get_or reached (b + d) true) ≡ 0 = ap marked (n d (omega arith)) in
    let e : suc (b + d) ≡ b + suc d = omega arith in
    subst (λ x. before reached b ≡ before reached x) e (omega (arith, f, m, z))

any_default : (xs : List Bool) (b : ℕ) (d e : Bool) → b < length xs → get_or xs b d ≡ get_or xs b e
any_default [] b d e h = absurd (omega (arith, h))
any_default (x ∷ xs) zero d e h = refl
any_default (x ∷ xs) (suc b) d e h = any_default xs b d e (omega (arith, h))

-- it is known whether a block is reached
pub known_reached : (flow : Flow) (blocks : Blocks) → AreKnown flow blocks → (b : ℕ) → b < length flow.ways
    → Decides (is_reached blocks b) (IsReached (blocks_of flow) b)
known_reached flow blocks known b h =
    let size : length blocks.reached.items ≡ length (blocks_of flow) = known.reached.size in
    let all : length (blocks_of flow) ≡ length flow.ways = length-map flow.ways ways_by in
    let there : b < length blocks.reached.items = omega (arith, size, all, h) in
    let same : get_or blocks.reached.items b false ≡ get_or blocks.reached.items b true = any_default blocks.reached.items b false true there in
    (λ e. known.reached.sound b there (sym same ∙ e), λ r. same ∙ known.reached.complete b r)

-- it is known whether none is reached between two blocks
pub known_bare : (g : Segment) (blocks : Blocks) → AreKnown g.flow blocks → (lo t : ℕ) → lo < t → t ≤ length g.flow.ways
    → Decides (is_bare blocks lo t) (IsBare g lo t)
known_bare g blocks known lo t order high =
    Decides-like (count blocks (lo + 1) == count blocks t) bare same (Decides-eqb (count blocks (lo + 1)) (count blocks t))
  where
    marks : List Bool
    marks = blocks.reached.items

    fits : length blocks.reached.items ≡ length g.flow.ways
    fits = known.reached.size ∙ length-map g.flow.ways ways_by

    counts : (b : ℕ) → b ≤ length g.flow.ways → count blocks b ≡ before blocks.reached.items b
    counts b h =
        let e : get_or (counts_from 0 blocks.reached.items) b 0 ≡ 0 + before blocks.reached.items b =
        count_is blocks.reached.items 0 b (omega (arith, h, fits)) in
        let f : get_or blocks.counts.items b 0 ≡ get_or (counts_from 0 blocks.reached.items) b 0 = ap (λ (cs : List ℕ). get_or cs b 0) known.counts in
        omega (arith, e, f)

    d : ℕ
    d = t - (lo + 1)

    whole : lo + 1 + (t - (lo + 1)) ≡ t
    whole = omega (arith, order)

    within : lo + 1 + (t - (lo + 1)) ≤ length blocks.reached.items
    within = omega (arith, whole, high, fits)

    bare : count blocks (lo + 1) ≡ count blocks t → IsBare g lo t
    bare e q low up r =
        let k : ℕ = q - (lo + 1) in
        let at : lo + 1 + k ≡ q = omega (arith, low) in
        let a : count blocks (lo + 1) ≡ before blocks.reached.items (lo + 1) = counts (lo + 1) (omega (arith, order, high)) in
        let b : count blocks t ≡ before blocks.reached.items t = counts t high in
        let equal : before blocks.reached.items (lo + 1) ≡ before blocks.reached.items (lo + 1 + (t - (lo + 1))) =
        sym a ∙ e ∙ b ∙ ap (before blocks.reached.items) (sym whole) in
        let none : get_or blocks.reached.items (lo + 1 + k) true ≡ false =
        none_between blocks.reached.items (lo + 1) (t - (lo + 1)) k within equal (omega (arith, low, up)) in
        let some : get_or blocks.reached.items q true ≡ true = known.reached.complete q r in
        let here : get_or blocks.reached.items q true ≡ false = subst (λ n. get_or blocks.reached.items n true ≡ false) at none in
        absurd cc

    unmarked : IsBare g lo t → (k : ℕ) → k < t - (lo + 1) → (m : Bool) → get_or blocks.reached.items (lo + 1 + k) true ≡ m → m ≡ false
    unmarked n k l true e =
        absurd (n (lo + 1 + k) (omega arith) (omega (arith, l)) (known.reached.sound (lo + 1 + k) (omega (arith, l, within)) e))
    unmarked n k l false e = refl

    same : IsBare g lo t → count blocks (lo + 1) ≡ count blocks t
    same n =
        let a : count blocks (lo + 1) ≡ before blocks.reached.items (lo + 1) = counts (lo + 1) (omega (arith, order, high)) in
        let b : count blocks t ≡ before blocks.reached.items t = counts t high in
        a ∙ same_count blocks.reached.items (lo + 1) (t - (lo + 1)) within (λ k l. unmarked n k l (get_or blocks.reached.items (lo + 1 + k) true) refl)
        ∙ ap (before blocks.reached.items) whole ∙ sym b

-- by the truth values alone
pub bare_reached : (flow : Flow) (blocks : Blocks) → AreKnown flow blocks → (lo t : ℕ) → lo < t → t ≤ length flow.ways
    → Decides (is_bare blocks lo t) ((q : ℕ) → lo < q → q < t → is_reached blocks q ≡ true → ⊥)
bare_reached flow blocks known lo t order high =
    Decides-like (is_bare blocks lo t)
    (λ none q low up e. none q low up ((known_reached flow blocks known q (omega (arith, up, high))).0 e))
    (λ none q low up r. none q low up ((known_reached flow blocks known q (omega (arith, up, high))).1 r))
    (known_bare g blocks known lo t order high)
  where
    g : Segment
    g = record { flow = flow; first = 0; past = 0 }
