-- A segment is shallow exactly where few loops, plain jumps and jump lists are counted at each of its blocks.
use Rattle.std.proofs.Common.{◌≡◌, ◌⊎◌, ℕ, zero, suc, ◌+◌, ◌-◌, ◌<◌, ◌≤◌, Bool, true, false, ◌==◌, List, [], ◌∷◌, ◌++◌, Option, Some, None, cond, length, inl, inr, refl, sym, ap, subst, ◌∙◌, arith, add-zero}
use Rattle.std.specs.Bool.{Decides}
use Rattle.std.specs.Prelude.{nat_le, option_to_list}
use Rattle.std.proofs.lemmas.Bool.Decides.{Decides-eqb, Decides-like}
use Rattle.stl_tree.specs.Segments.{AreAscending, AreAscendingAfter, IsOneOf}
use Rattle.stl_tree.specs.Flows.{AreHeadsAround, IsInLoop, IsSegment, Segment}
use Rattle.stl_tree.specs.WellNested.{AreSpansOver, IsShallow, IsSpan}
use Rattle.nesting_laws.specs.PlanLaws.{IsFlow, IsNested}
use Rattle.segment_plans.specs.Known.{AreKnown}
use Rattle.segment_plans.specs.declared.blocks.Blocks.{Blocks}
use Rattle.segment_plans.specs.Counts.{last_of}
use Rattle.segment_plans.proofs.Depth.{AreForward, EndsFrom, IsCounted, bit, live, live_append, opened, spans}
use Rattle.segment_plans.proofs.Plain.{AnswersSpan, answers_span, one_span, span, span_forward, span_in}
use Rattle.segment_plans.proofs.Site.{EndsAt, IsSite, decides_le, site_of, told}
use Rattle.segment_plans.proofs.Stack.{no_head_before, one_last}

-- Numbers from one on that a test meets

abbrev number : (ℕ → Bool) → ℕ → ℕ → ℕ
number q from zero = 0
number q from (suc n) = bit (q from) + number q (suc from) n

number_last : (q : ℕ → Bool) (from n : ℕ) → number q from (suc n) ≡ number q from n + bit (q (from + n))
number_last q from zero =
    let e : from + 0 ≡ from = add-zero from in ap (λ k. bit (q k) + 0) (sym e) ∙ (let f : bit (q (from + 0)) + 0 ≡ 0 + bit (q (from + 0)) = omega arith in f)
number_last q from (suc n) =
    let e : suc from + n ≡ from + suc n = omega arith in
    let f : number q (suc from) (suc n) ≡ number q (suc from) n + bit (q (suc from + n)) = number_last q (suc from) n in
    let g : bit (q (suc from + n)) ≡ bit (q (from + suc n)) = ap (λ k. bit (q k)) e in
    omega (arith, f, g)

abbrev listed : (ℕ → Bool) → ℕ → ℕ → List ℕ
listed q from zero = []
listed q from (suc n) = cond (q from) (from ∷ listed q (suc from) n) (listed q (suc from) n)

listed_size : (q : ℕ → Bool) (from n : ℕ) → length (listed q from n) ≡ number q from n
listed_size q from zero = refl
listed_size q from (suc n) = by (listed_size q (suc from) n) (q from)
  where
    by : length (listed q (suc from) n) ≡ number q (suc from) n → (b : Bool)
        → length (cond b (from ∷ listed q (suc from) n) (listed q (suc from) n)) ≡ bit b + number q (suc from) n
    by e true = omega (arith, e)
    by e false = omega (arith, e)

record IsListed (q : ℕ → Bool) (from n y : ℕ) : Type 0 where
  low : from ≤ y
  high : y < from + n
  met : q y ≡ true

listed_in : (q : ℕ → Bool) (from n y : ℕ) → IsOneOf y (listed q from n) → IsListed q from n y
listed_in q from zero y o = absurd o
listed_in q from (suc n) y o = by (λ p. listed_in q (suc from) n y p) (q from) refl o
  where
    more : IsListed q (suc from) n y → IsListed q from (suc n) y
    more i =
        let a : suc from ≤ y = i.low in
        let b : y < suc from + n = i.high in
        record { low = omega (arith, a); high = omega (arith, b); met = i.met }

    by : (IsOneOf y (listed q (suc from) n) → IsListed q (suc from) n y) → (b : Bool) → q from ≡ b
        → IsOneOf y (cond b (from ∷ listed q (suc from) n) (listed q (suc from) n)) → IsListed q from (suc n) y
    by rest true e (inl same) = record { low = omega (arith, same); high = omega (arith, same); met = subst (λ k. q k ≡ true) (sym same) e }
    by rest true e (inr p) = more (rest p)
    by rest false e p = more (rest p)

listed_after : (q : ℕ → Bool) (x from n : ℕ) → x < from → AreAscendingAfter x (listed q from n)
listed_after q x from zero h = tt
listed_after q x from (suc n) h = by (listed_after q from (suc from) n (omega arith)) (listed_after q x (suc from) n (omega (arith, h))) (q from)
  where
    by : AreAscendingAfter from (listed q (suc from) n) → AreAscendingAfter x (listed q (suc from) n) → (b : Bool)
        → AreAscendingAfter x (cond b (from ∷ listed q (suc from) n) (listed q (suc from) n))
    by here later true = (h, here)
    by here later false = later

listed_ascend : (q : ℕ → Bool) (from n : ℕ) → AreAscending (listed q from n)
listed_ascend q from zero = tt
listed_ascend q from (suc n) = by (listed_ascend q (suc from) n) (q from)
  where
    by : AreAscending (listed q (suc from) n) → (b : Bool) → AreAscending (cond b (from ∷ listed q (suc from) n) (listed q (suc from) n))
    by later true = listed_after q from (suc from) n (omega arith)
    by later false = later

-- numbers in ascending order that a test meets are no more than all that it meets
bounded : (q : ℕ → Bool) (from n x : ℕ) (xs : List ℕ) → AreAscendingAfter x xs → from ≤ x → ((y : ℕ) → IsOneOf y (x ∷ xs) → (y < from + n) × (q y ≡ true))
    → suc (length xs) ≤ number q from n
bounded q from zero x xs a low all = let h : x < from + 0 = (all x (inl refl)).0 in absurd (omega (arith, h, low))
bounded q from (suc n) x xs a low all = by (λ y ys b l m. bounded q (suc from) n y ys b l m) (told (x == from) (Decides-eqb x from))
  where
    later : (y : ℕ) → IsOneOf y (x ∷ xs) → (y < suc from + n) × (q y ≡ true)
    later y o = let p = all y o in let h : y < from + suc n = p.0 in (omega (arith, h), p.1)

    rest : ((y : ℕ) (ys : List ℕ) → AreAscendingAfter y ys → suc from ≤ y → ((z : ℕ) → IsOneOf z (y ∷ ys) → (z < suc from + n) × (q z ≡ true))
        → suc (length ys) ≤ number q (suc from) n) → (ys : List ℕ) → AreAscendingAfter x ys → x ≡ from
        → ((y : ℕ) → IsOneOf y ys → (y < suc from + n) × (q y ≡ true)) → length ys ≤ number q (suc from) n
    rest again [] b e m = omega arith
    rest again (y ∷ ys) b e m = let h : x < y = b.0 in again y ys b.1 (omega (arith, h, e)) m

    by : ((y : ℕ) (ys : List ℕ) → AreAscendingAfter y ys → suc from ≤ y → ((z : ℕ) → IsOneOf z (y ∷ ys) → (z < suc from + n) × (q z ≡ true))
        → suc (length ys) ≤ number q (suc from) n) → (x ≡ from) ⊎ (x ≡ from → ⊥)
        → suc (length xs) ≤ bit (q from) + number q (suc from) n
    by again (inl e) =
        let one : bit (q from) ≡ 1 = ap bit (subst (λ k. q k ≡ true) e (all x (inl refl)).1) in
        let more : length xs ≤ number q (suc from) n = rest again xs a e (λ y o. later y (inr o)) in
        omega (arith, one, more)
    by again (inr m) =
        let more : suc (length xs) ≤ number q (suc from) n = again x xs a (omega (arith, low, m)) later in
        omega (arith, more)

at_most : (q : ℕ → Bool) (from n : ℕ) (xs : List ℕ) → AreAscending xs → ((y : ℕ) → IsOneOf y xs → IsListed q from n y) → length xs ≤ number q from n
at_most q from n [] a all = omega arith
at_most q from n (x ∷ xs) a all = bounded q from n x xs a (all x (inl refl)).low (λ y o. let i = all y o in (i.high, i.met))

-- Loops, jumps and lists around a block

abbrev hit : ℕ → Option ℕ → Bool
hit b None = false
hit b (Some e) = nat_le b e

hit_live : (b : ℕ) (o : Option ℕ) → live b (option_to_list o) ≡ bit (hit b o)
hit_live b None = refl
hit_live b (Some e) = add-zero (bit (nat_le b e))

abbrev head_hits : Blocks → ℕ → ℕ → Bool
head_hits blocks b s = hit b (last_of blocks s)

abbrev span_hits : Blocks → ℕ → ℕ → ℕ → Bool
span_hits blocks first b s = hit b (span blocks first s)

live_is : (blocks : Blocks) (first b n : ℕ)
    → live b (opened blocks first n) ≡ number (head_hits blocks b) first n + number (span_hits blocks first b) first n
live_is blocks first b zero = refl
live_is blocks first b (suc n) =
    let at : ℕ = first + n in
    let a : live b (opened blocks first n ++ spans blocks first (first + n)) ≡ live b (opened blocks first n) + live b (spans blocks first (first + n)) =
    live_append b (opened blocks first n) (spans blocks first (first + n)) in
    let c : live b (spans blocks first (first + n))
    ≡ live b (option_to_list (last_of blocks (first + n))) + live b (option_to_list (span blocks first (first + n))) =
    live_append b (option_to_list (last_of blocks (first + n))) (option_to_list (span blocks first (first + n))) in
    let d : live b (option_to_list (last_of blocks (first + n))) ≡ bit (head_hits blocks b (first + n)) = hit_live b (last_of blocks (first + n)) in
    let e : live b (option_to_list (span blocks first (first + n))) ≡ bit (span_hits blocks first b (first + n)) =
    hit_live b (span blocks first (first + n)) in
    let f : live b (opened blocks first n) ≡ number (head_hits blocks b) first n + number (span_hits blocks first b) first n = live_is blocks first b n in
    let g : number (head_hits blocks b) first (suc n) ≡ number (head_hits blocks b) first n + bit (head_hits blocks b (first + n)) =
    number_last (head_hits blocks b) first n in
    let h : number (span_hits blocks first b) first (suc n) ≡ number (span_hits blocks first b) first n + bit (span_hits blocks first b (first + n)) =
    number_last (span_hits blocks first b) first n in
    omega (arith, a, c, d, e, f, g, h)

head_decides : (g : Segment) (blocks : Blocks) → IsSite g blocks → (s b : ℕ) → g.first ≤ s → s < g.past → s ≤ b
    → Decides (head_hits blocks b s) ((l : ℕ) × IsInLoop g s l b)
head_decides g blocks site s b low high before = by (last_of blocks s) (site.lasts s low high)
  where
    by : (o : Option ℕ) → EndsAt g s o → Decides (hit b o) ((l : ℕ) × IsInLoop g s l b)
    by None fresh = (
      λ e. absurd cc,
      λ p.
          let x : p.0 < s = fresh p.0 p.1.loop.back in
          let y : s ≤ p.0 = p.1.loop.ordered in
          absurd (omega (arith, x, y)),
    )
    by (Some l) loop =
        Decides-like (nat_le b l) (λ h. (l, record { loop = loop; low = before; high = h }))
        (λ p. let e : p.0 ≡ l = one_last g s p.0 l p.1.loop loop in let h : b ≤ p.0 = p.1.high in omega (arith, e, h)) (decides_le b l)

abbrev SpansOver : Segment → ℕ → ℕ → Type 0
SpansOver g b s = (t : ℕ) × IsSpan g s t × (s ≤ b) × (b ≤ t)

span_decides : (g : Segment) (blocks : Blocks) → IsFlow g.flow → IsSegment g → IsSite g blocks → IsNested g → (s b : ℕ) → g.first ≤ s → s < g.past → s ≤ b
    → Decides (span_hits blocks g.first b s) (SpansOver g b s)
span_decides g blocks flow seg site nested s b low high before = by (span blocks g.first s) (answers_span g blocks flow seg site nested s low high)
  where
    by : (o : Option ℕ) → AnswersSpan g s o → Decides (hit b o) (SpansOver g b s)
    by None n = (λ e. absurd cc, λ p. absurd (n p.0 p.1))
    by (Some t) j =
        Decides-like (nat_le b t) (λ h. (t, j, before, h))
        (λ p. let e : p.0 ≡ t = one_span g s p.0 t p.1 j in let h : b ≤ p.0 = p.3 in omega (arith, e, h)) (decides_le b t)

are_heads : (g : Segment) (b : ℕ) (xs : List ℕ) → ((y : ℕ) → IsOneOf y xs → (l : ℕ) × IsInLoop g y l b) → AreHeadsAround g b xs
are_heads g b [] h = tt
are_heads g b (x ∷ xs) h = (h x (inl refl), are_heads g b xs (λ y o. h y (inr o)))

of_heads : (g : Segment) (b : ℕ) (xs : List ℕ) → AreHeadsAround g b xs → (y : ℕ) → IsOneOf y xs → (l : ℕ) × IsInLoop g y l b
of_heads g b [] h y o = absurd o
of_heads g b (x ∷ xs) h y (inl e) = subst (λ k. (l : ℕ) × IsInLoop g k l b) (sym e) h.0
of_heads g b (x ∷ xs) h y (inr o) = of_heads g b xs h.1 y o

are_sources : (g : Segment) (b : ℕ) (xs : List ℕ) → ((y : ℕ) → IsOneOf y xs → SpansOver g b y) → AreSpansOver g b xs
are_sources g b [] h = tt
are_sources g b (x ∷ xs) h = (h x (inl refl), are_sources g b xs (λ y o. h y (inr o)))

of_sources : (g : Segment) (b : ℕ) (xs : List ℕ) → AreSpansOver g b xs → (y : ℕ) → IsOneOf y xs → SpansOver g b y
of_sources g b [] h y o = absurd o
of_sources g b (x ∷ xs) h y (inl e) = subst (SpansOver g b) (sym e) h.0
of_sources g b (x ∷ xs) h y (inr o) = of_sources g b xs h.1 y o

-- The segment

-- where more are counted at a block, the segment is not shallow
deep : (g : Segment) (blocks : Blocks) → IsFlow g.flow → IsSegment g → IsSite g blocks → IsNested g → (i : ℕ) → g.first + i < g.past
    → 64 < live (g.first + i) (opened blocks g.first (suc i)) → IsShallow g → ⊥
deep g blocks flow seg site nested i high many shallow =
    let b : ℕ = g.first + i in
    let heads : List ℕ = listed (head_hits blocks (g.first + i)) g.first (suc i) in
    let sources : List ℕ = listed (span_hits blocks g.first (g.first + i)) g.first (suc i) in
    let few : length (listed (head_hits blocks (g.first + i)) g.first (suc i))
    + length (listed (span_hits blocks g.first (g.first + i)) g.first (suc i)) ≤ 64 =
    shallow (g.first + i) (listed (head_hits blocks (g.first + i)) g.first (suc i)) (listed (span_hits blocks g.first (g.first + i)) g.first (suc i))
    (listed_ascend (head_hits blocks (g.first + i)) g.first (suc i))
    (are_heads g (g.first + i) (listed (head_hits blocks (g.first + i)) g.first (suc i))
    (λ y o. head y (listed_in (head_hits blocks (g.first + i)) g.first (suc i) y o)))
    (listed_ascend (span_hits blocks g.first (g.first + i)) g.first (suc i))
    (are_sources g (g.first + i) (listed (span_hits blocks g.first (g.first + i)) g.first (suc i))
    (λ y o. source y (listed_in (span_hits blocks g.first (g.first + i)) g.first (suc i) y o))) in
    let x : length (listed (head_hits blocks (g.first + i)) g.first (suc i)) ≡ number (head_hits blocks (g.first + i)) g.first (suc i) =
    listed_size (head_hits blocks (g.first + i)) g.first (suc i) in
    let y : length (listed (span_hits blocks g.first (g.first + i)) g.first (suc i)) ≡ number (span_hits blocks g.first (g.first + i)) g.first (suc i) =
    listed_size (span_hits blocks g.first (g.first + i)) g.first (suc i) in
    let z : live (g.first + i) (opened blocks g.first (suc i))
    ≡ number (head_hits blocks (g.first + i)) g.first (suc i) + number (span_hits blocks g.first (g.first + i)) g.first (suc i) =
    live_is blocks g.first (g.first + i) (suc i) in
    omega (arith, few, x, y, z, many)
  where
    head : (y : ℕ) → IsListed (head_hits blocks (g.first + i)) g.first (suc i) y → (l : ℕ) × IsInLoop g y l (g.first + i)
    head y m =
        let a : y < g.first + suc i = m.high in
        (head_decides g blocks site y (g.first + i) m.low (omega (arith, a, high)) (omega (arith, a))).0 m.met

    source : (y : ℕ) → IsListed (span_hits blocks g.first (g.first + i)) g.first (suc i) y → SpansOver g (g.first + i) y
    source y m =
        let a : y < g.first + suc i = m.high in
        (span_decides g blocks flow seg site nested y (g.first + i) m.low (omega (arith, a, high)) (omega (arith, a))).0 m.met

-- where few are counted at each block, it is
few_at : (g : Segment) (blocks : Blocks) → IsFlow g.flow → IsSegment g → IsSite g blocks → IsNested g → (i : ℕ) → g.first + i < g.past
    → live (g.first + i) (opened blocks g.first (suc i)) ≤ 64 → (heads sources : List ℕ) → AreAscending heads → AreHeadsAround g (g.first + i) heads
    → AreAscending sources → AreSpansOver g (g.first + i) sources → length heads + length sources ≤ 64
few_at g blocks flow seg site nested i high few heads sources up around rise over =
    let x : length heads ≤ number (head_hits blocks (g.first + i)) g.first (suc i) =
    at_most (head_hits blocks (g.first + i)) g.first (suc i) heads up (λ y o. head y (of_heads g (g.first + i) heads around y o)) in
    let y : length sources ≤ number (span_hits blocks g.first (g.first + i)) g.first (suc i) =
    at_most (span_hits blocks g.first (g.first + i)) g.first (suc i) sources rise (λ y o. source y (of_sources g (g.first + i) sources over y o)) in
    let z : live (g.first + i) (opened blocks g.first (suc i))
    ≡ number (head_hits blocks (g.first + i)) g.first (suc i) + number (span_hits blocks g.first (g.first + i)) g.first (suc i) =
    live_is blocks g.first (g.first + i) (suc i) in
    omega (arith, x, y, z, few)
  where
    head : (y : ℕ) → (l : ℕ) × IsInLoop g y l (g.first + i) → IsListed (head_hits blocks (g.first + i)) g.first (suc i) y
    head y p =
        let a : y ≤ g.first + i = p.1.low in
        let low : g.first ≤ y = begins y p in
        record {
          low = low;
          high = omega (arith, a);
          met = (head_decides g blocks site y (g.first + i) low (omega (arith, a, high)) a).1 p;
        }
      where
        begins : (y : ℕ) → (l : ℕ) × IsInLoop g y l (g.first + i) → g.first ≤ y
        begins y p = no_less (told (nat_le g.first y) (decides_le g.first y))
          where
            no_less : (g.first ≤ y) ⊎ (g.first ≤ y → ⊥) → g.first ≤ y
            no_less (inl h) = h
            no_less (inr n) = absurd (no_head_before g seg y p.0 p.1.loop (omega (arith, n)))

    source : (y : ℕ) → SpansOver g (g.first + i) y → IsListed (span_hits blocks g.first (g.first + i)) g.first (suc i) y
    source y p =
        let a : y ≤ g.first + i = p.2 in
        let low : g.first ≤ y = (span_in g y p.0 p.1).low in
        record {
          low = low;
          high = omega (arith, a);
          met = (span_decides g blocks flow seg site nested y (g.first + i) low (omega (arith, a, high)) a).1 p;
        }

all_shallow : (g : Segment) (blocks : Blocks) → IsFlow g.flow → IsSegment g → IsSite g blocks → IsNested g
    → ((i : ℕ) → g.first + i < g.past → live (g.first + i) (opened blocks g.first (suc i)) ≤ 64) → IsShallow g
all_shallow g blocks flow seg site nested few b heads sources up around rise over =
    by (told (nat_le g.first b) (decides_le g.first b)) (told (nat_le g.past b) (decides_le g.past b))
  where
    some : g.first < g.past
    some = seg.some

    no_heads : (hs : List ℕ) → AreHeadsAround g b hs → ((h l : ℕ) → IsInLoop g h l b → ⊥) → length hs ≡ 0
    no_heads [] a n = refl
    no_heads (h ∷ hs) a n = absurd (n h a.0.0 a.0.1)

    no_sources : (ss : List ℕ) → AreSpansOver g b ss → ((s : ℕ) → SpansOver g b s → ⊥) → length ss ≡ 0
    no_sources [] a n = refl
    no_sources (s ∷ ss) a n = absurd (n s a.0)

    inside : (h l : ℕ) → IsInLoop g h l b → b < g.past
    inside h l a = let x : b ≤ l = a.high in let y : l < g.past = a.loop.back.1.0.high in omega (arith, x, y)

    from_first : (h l : ℕ) → IsInLoop g h l b → (g.first ≤ b → ⊥) → ⊥
    from_first h l a n = let x : h ≤ b = a.low in no_head_before g seg h l a.loop (omega (arith, x, n))

    before_last : (ss : List ℕ) → AreSpansOver g b ss → g.past ≤ b → AreSpansOver g (g.past - 1) ss
    before_last [] a h = tt
    before_last (s ∷ ss) a h =
        let x : s < g.past = (span_in g s a.0.0 a.0.1).high in
        let y : b ≤ a.0.0 = a.0.3 in
        ((a.0.0, a.0.1, omega (arith, x), omega (arith, y, h)), before_last ss a.1 h)

    by : (g.first ≤ b) ⊎ (g.first ≤ b → ⊥) → (g.past ≤ b) ⊎ (g.past ≤ b → ⊥) → length heads + length sources ≤ 64
    by (inr n) p =
        let x : length heads ≡ 0 = no_heads heads around (λ h l a. from_first h l a n) in
        let y : length sources ≡ 0 =
        no_sources sources over (λ s a. let u : s ≤ b = a.2 in let v : g.first ≤ s = (span_in g s a.0 a.1).low in absurd (omega (arith, u, v, n))) in
        omega (arith, x, y)
    by (inl low) (inr n) =
        let i : ℕ = b - g.first in
        let e : g.first + (b - g.first) ≡ b = omega (arith, low) in
        let high : g.first + (b - g.first) < g.past = omega (arith, e, n) in
        few_at g blocks flow seg site nested (b - g.first) high (few (b - g.first) high) heads sources up
        (subst (λ k. AreHeadsAround g k heads) (sym e) around) rise (subst (λ k. AreSpansOver g k sources) (sym e) over)
    by (inl low) (inl p) =
        let x : length heads ≡ 0 = no_heads heads around (λ h l a. let u : b < g.past = inside h l a in absurd (omega (arith, u, p))) in
        let i : ℕ = g.past - 1 - g.first in
        let e : g.first + (g.past - 1 - g.first) ≡ g.past - 1 = omega (arith, some) in
        let high : g.first + (g.past - 1 - g.first) < g.past = omega (arith, e, some) in
        let y : 0 + length sources ≤ 64 =
        few_at g blocks flow seg site nested (g.past - 1 - g.first) high (few (g.past - 1 - g.first) high) [] sources tt tt rise
        (subst (λ k. AreSpansOver g k sources) (sym e) (before_last sources over p)) in
        omega (arith, x, y)

-- What the code keeps

abbrev pub ForNested : Blocks → ℕ → ℕ → (Segment → Type 0) → Type 0
ForNested blocks first past P = (g : Segment) → g.first ≡ first → g.past ≡ past → IsFlow g.flow → IsSegment g → AreKnown g.flow blocks
    → IsNested g → P g

forward : (g : Segment) (blocks : Blocks) → IsFlow g.flow → IsSegment g → IsSite g blocks → IsNested g → AreForward blocks g.first g.past
forward g blocks flow seg site nested = λ at low high.
    (loops at (last_of blocks at) (site.lasts at low high), jumps at (span blocks g.first at) (answers_span g blocks flow seg site nested at low high))
  where
    loops : (at : ℕ) (o : Option ℕ) → EndsAt g at o → EndsFrom at o
    loops at None h = tt
    loops at (Some l) h = h.ordered

    jumps : (at : ℕ) (o : Option ℕ) → AnswersSpan g at o → EndsFrom at o
    jumps at None h = tt
    jumps at (Some t) h = let x : at < t = span_forward g blocks site at t h in omega (arith, x)

-- each loop, jump and list of the segment leads forward, where it is a nested segment
pub forward_in : (blocks : Blocks) (first past : ℕ) → ForNested blocks first past (λ g. AreForward blocks first past)
forward_in blocks first past g a b flow seg known nested =
    let f = forward g blocks flow seg (site_of g blocks seg known) nested in
    subst (λ n. AreForward blocks n past) a (subst (λ n. AreForward blocks g.first n) b f)

pub too_deep : (blocks : Blocks) (first past at : ℕ) → first ≤ at → at < past
    → (AreForward blocks first past → 64 < live at (opened blocks first (at - first) ++ spans blocks first at))
    → ForNested blocks first past (λ g. Decides false (IsShallow g))
too_deep blocks first past at low high many g a b flow seg known nested =
    (λ e. absurd cc, λ shallow. absurd (deep g blocks flow seg (site_of g blocks seg known) nested (at - first) (omega (arith, a, b, low, high)) more shallow))
  where
    more : 64 < live (g.first + (at - first)) (opened blocks g.first (suc (at - first)))
    more =
        let e : first + (at - first) ≡ at = omega (arith, low) in
        let x : 64 < live at (opened blocks first (at - first) ++ spans blocks first at) = many (forward_in blocks first past g a b flow seg known nested) in
        let y : live (first + (at - first)) (opened blocks first (suc (at - first))) ≡ live at (opened blocks first (at - first) ++ spans blocks first at) =
        ap (λ n. live n (opened blocks first (suc (at - first)))) e ∙ ap (λ n. live at (opened blocks first (at - first) ++ spans blocks first n)) e in
        subst (λ n. 64 < live (n + (at - first)) (opened blocks n (suc (at - first)))) (sym a) (omega (arith, x, y))

pub not_deep : (blocks : Blocks) (first past at : ℕ) (ends : List ℕ) (depth : ℕ) → past ≤ at
    → (AreForward blocks first past → IsCounted blocks first at ends depth)
    → ForNested blocks first past (λ g. Decides true (IsShallow g))
not_deep blocks first past at ends depth up counted g a b flow seg known nested =
    (λ e. all_shallow g blocks flow seg (site_of g blocks seg known) nested few, λ s. refl)
  where
    few : (i : ℕ) → g.first + i < g.past → live (g.first + i) (opened blocks g.first (suc i)) ≤ 64
    few i h =
        let c = counted (forward_in blocks first past g a b flow seg known nested) in
        subst (λ n. live (n + i) (opened blocks n (suc i)) ≤ 64) (sym a) (c.low i (omega (arith, h, a, b, up)))
