-- The loops that are kept are those around a block, and the first one is the innermost.
use Rattle.std.proofs.Common.{◌≡◌, ◌⊎◌, ℕ, zero, suc, ◌+◌, ◌-◌, ◌<◌, ◌≤◌, Bool, true, false, List, [], ◌∷◌, Option, Some, None, ◌++◌, cond, length, length-append, inl, inr, refl, sym, ap, subst, ◌∙◌, arith}
use Rattle.std.specs.Prelude.{nat_lt}
use Rattle.std.proofs.lemmas.Bool.{cases_lt, ltb-false, ltb-true}
use Rattle.std.proofs.lemmas.List.{get_or_append_left, get_or_push}
use Rattle.std.proofs.lemmas.Bool.Decides.{Decides-ltb}
use Rattle.stl_tree.specs.Flows.{AreNested, IsInLoop, IsInnermost, IsJump, IsLoop, IsSegment, Segment}
use Rattle.segment_plans.specs.declared.blocks.Blocks.{Blocks}
use Rattle.segment_plans.specs.Counts.{last_of}
use Rattle.segment_plans.specs.inner.Spans.{inner_at, inner_loops, innermost, leave, stack, with_loop}
use Rattle.segment_plans.proofs.Site.{EndsAt, IsSite, jump_reached, told}

-- any two loops of a segment are disjoint, or one lies inside the other
abbrev pub HasNestedLoops : Segment → Type 0
HasNestedLoops g = (h l k m : ℕ) → IsLoop g h l → IsLoop g k m → AreNested h l k m

-- a list has the last blocks of the loops with a head before one that end at another or behind it, the greatest head first
abbrev pub IsStack : Segment → ℕ → ℕ → List ℕ → Type 0
IsStack g n top [] = (h l : ℕ) → IsLoop g h l → h < top → l < n
IsStack g n top (l ∷ loops) =
    (h : ℕ) × IsLoop g h l × (h < top) × (n ≤ l) × ((k m : ℕ) → IsLoop g k m → h < k → k < top → m < n) × IsStack g n h loops

pub one_last : (g : Segment) (h l m : ℕ) → IsLoop g h l → IsLoop g h m → l ≡ m
one_last g h l m a b =
    let x : l ≤ m = b.greatest l a.back in
    let y : m ≤ l = a.greatest m b.back in
    omega (arith, x, y)

-- where the loops between have ended, more heads may come before
raise : (g : Segment) (n h top : ℕ) (loops : List ℕ) → IsStack g n h loops → h ≤ top → ((k m : ℕ) → IsLoop g k m → h ≤ k → k < top → m < n)
    → IsStack g n top loops
raise g n h top [] s up over = λ k m loop low. by k m loop low (told (nat_lt k h) (Decides-ltb k h))
  where
    by : (k m : ℕ) → IsLoop g k m → k < top → (k < h) ⊎ (k < h → ⊥) → m < n
    by k m loop low (inl l) = s k m loop l
    by k m loop low (inr l) = over k m loop (omega (arith, l)) low
raise g n h top (l ∷ loops) s up over =
    let first : s.0 < h = s.2 in
    (s.0, s.1, omega (arith, first, up), s.3, (λ k m loop a b. by k m loop a b (told (nat_lt k h) (Decides-ltb k h))), s.5)
  where
    by : (k m : ℕ) → IsLoop g k m → s.0 < k → k < top → (k < h) ⊎ (k < h → ⊥) → m < n
    by k m loop a b (inl c) = s.4 k m loop a c
    by k m loop a b (inr c) = over k m loop (omega (arith, c)) b

-- loops around one that goes on go on too
keep : (g : Segment) (n h l : ℕ) (loops : List ℕ) → HasNestedLoops g → IsLoop g h l → h ≤ n → n < l → IsStack g n h loops → IsStack g (suc n) h loops
keep g n h l [] nested loop low high s = λ k m other a. let x : m < n = s k m other a in omega (arith, x)
keep g n h l (m ∷ loops) nested loop low high s =
    let k : ℕ = s.0 in
    let before : s.0 < h = s.2 in
    let at : n ≤ m = s.3 in
    let around : l ≤ m = over (nested h l s.0 m loop s.1) before at in
    let up : suc n ≤ m = omega (arith, around, high) in (
      s.0,
      s.1,
      s.2,
      up,
      (λ p q other a b. let x : q < n = s.4 p q other a b in omega (arith, x)),
      keep g n s.0 m loops nested s.1 (omega (arith, before, low)) up s.5,
    )
  where
    over : AreNested h l s.0 m → s.0 < h → n ≤ m → l ≤ m
    over (inl a) b c = let x : h ≤ l = loop.ordered in omega (arith, a, b, x)
    over (inr (inl a)) b c = omega (arith, a, c, low)
    over (inr (inr (inl a))) b c = omega (arith, a.0, b)
    over (inr (inr (inr a))) b c = a.1

-- the loops that end at a block are left at the next one
left : (g : Segment) (n top : ℕ) (loops : List ℕ) → HasNestedLoops g → top ≤ suc n → IsStack g n top loops → IsStack g (suc n) top (leave (suc n) loops)
left g n top [] nested high s = λ h l loop low. let x : l < n = s h l loop low in omega (arith, x)
left g n top (l ∷ loops) nested high s =
    let before : s.0 < top = s.2 in
    by (left g n s.0 loops nested (omega (arith, before, high)) s.5) (nat_lt l (suc n)) refl
  where
    before : s.0 < top
    before = s.2

    by : IsStack g (suc n) s.0 (leave (suc n) loops) → (b : Bool) → nat_lt l (suc n) ≡ b
        → IsStack g (suc n) top (cond b (leave (suc n) loops) (l ∷ loops))
    by rest true e =
        let small : l < suc n = ltb-true l (suc n) e in
        raise g (suc n) s.0 top (leave (suc n) loops) rest (omega (arith, before))
        (λ k m loop a b. gone k m loop a b small (told (nat_lt s.0 k) (Decides-ltb s.0 k)))
      where
        gone : (k m : ℕ) → IsLoop g k m → s.0 ≤ k → k < top → l < suc n → (s.0 < k) ⊎ (s.0 < k → ⊥) → m < suc n
        gone k m loop a b small (inl c) = let x : m < n = s.4 k m loop c b in omega (arith, x)
        gone k m loop a b small (inr c) =
            let same : k ≡ s.0 = omega (arith, a, c) in
            let x : m ≡ l = one_last g s.0 m l (subst (λ j. IsLoop g j m) same loop) s.1 in
            omega (arith, x, small)
    by rest false e =
        let large : suc n ≤ l = ltb-false l (suc n) e in (
          s.0,
          s.1,
          s.2,
          large,
          (λ k m loop a b. let x : m < n = s.4 k m loop a b in omega (arith, x)),
          keep g n s.0 l loops nested s.1 (omega (arith, before, high)) large s.5,
        )

-- the loop that begins at a block is the first one
entered : (g : Segment) (n : ℕ) (o : Option ℕ) (loops : List ℕ) → EndsAt g n o → IsStack g n n loops → IsStack g n (suc n) (with_loop o loops)
entered g n None loops fresh s = raise g n n (suc n) loops s (omega arith) (λ k m loop a b. none k m loop (let e : k ≡ n = omega (arith, a, b) in e))
  where
    none : (k m : ℕ) → IsLoop g k m → k ≡ n → m < n
    none k m loop e = fresh m (subst (λ j. IsJump g m j) e loop.back)
entered g n (Some l) loops loop s = (n, loop, omega arith, loop.ordered, (λ k m other a b. absurd (omega (arith, a, b))), s)

-- no loop begins before the segment
pub no_head_before : (g : Segment) → IsSegment g → (h l : ℕ) → IsLoop g h l → h < g.first → ⊥
no_head_before g seg h l loop low =
    let j = jump_reached g l h loop.back in
    seg.begins.free l h j.0 j.1 (inr (low, loop.back.1.0.low))

pub stack_is : (g : Segment) (blocks : Blocks) → IsSegment g → IsSite g blocks → HasNestedLoops g → (i : ℕ) → g.first + i < g.past
    → IsStack g (g.first + i) (suc (g.first + i)) (stack blocks g.first (suc i))
stack_is g blocks seg site nested zero up =
    let e : g.first ≡ g.first + 0 = omega arith in
    entered g (g.first + 0) (last_of blocks (g.first + 0)) [] (site.lasts (g.first + 0) (omega arith) up)
    (λ h l loop low. absurd (no_head_before g seg h l loop (omega (arith, low, e))))
stack_is g blocks seg site nested (suc i) up =
    let e : suc (g.first + i) ≡ g.first + suc i = omega arith in
    let before : IsStack g (g.first + i) (suc (g.first + i)) (stack blocks g.first (suc i)) = stack_is g blocks seg site nested i (omega (arith, up)) in
    let now : IsStack g (suc (g.first + i)) (suc (g.first + i)) (leave (suc (g.first + i)) (stack blocks g.first (suc i))) =
    left g (g.first + i) (suc (g.first + i)) (stack blocks g.first (suc i)) nested (omega arith) before in
    entered g (g.first + suc i) (last_of blocks (g.first + suc i)) (leave (g.first + suc i) (stack blocks g.first (suc i)))
    (site.lasts (g.first + suc i) (omega arith) up)
    (subst (λ n. IsStack g n n (leave n (stack blocks g.first (suc i)))) e now)

-- the first one is the innermost
pub top_is : (g : Segment) (n l : ℕ) (loops : List ℕ) → IsStack g n (suc n) (l ∷ loops) → (h : ℕ) × IsInnermost g h l n
top_is g n l loops s =
    let low : s.0 < suc n = s.2 in (
      s.0,
      record {
        around = record { loop = s.1; low = omega (arith, low); high = s.3 };
        inner = λ k m around. most k m around (told (nat_lt s.0 k) (Decides-ltb s.0 k));
      },
    )
  where
    most : (k m : ℕ) → IsInLoop g k m n → (s.0 < k) ⊎ (s.0 < k → ⊥) → k ≤ s.0
    most k m around (inl a) =
        let x : m < n = s.4 k m around.loop a (let b : k ≤ n = around.low in omega (arith, b)) in
        let y : n ≤ m = around.high in
        absurd (omega (arith, x, y))
    most k m around (inr a) = omega (arith, a)

-- any innermost loop is that one
pub only_top : (g : Segment) (n l h m : ℕ) (loops : List ℕ) → IsStack g n (suc n) (l ∷ loops) → IsInnermost g h m n → m ≡ l
only_top g n l h m loops s inner =
    let top = top_is g n l loops s in
    let a : h ≤ top.0 = top.1.inner h m inner.around in
    let b : top.0 ≤ h = inner.inner top.0 l top.1.around in
    let same : h ≡ top.0 = omega (arith, a, b) in
    one_last g top.0 m l (subst (λ j. IsLoop g j m) same inner.around.loop) top.1.around.loop

-- where none is kept, there is none
pub none_around : (g : Segment) (n h m : ℕ) → IsStack g n (suc n) [] → IsInnermost g h m n → ⊥
none_around g n h m s inner =
    let low : h ≤ n = inner.around.low in
    let x : m < n = s h m inner.around.loop (omega (arith, low)) in
    let y : n ≤ m = inner.around.high in
    omega (arith, x, y)

-- The innermost loops as they are kept

inner_size : (blocks : Blocks) (first n : ℕ) → length (inner_loops blocks first n) ≡ n
inner_size blocks first zero = refl
inner_size blocks first (suc n) =
    let e : length (inner_loops blocks first n) ≡ n = inner_size blocks first n in
    length-append (inner_loops blocks first n) (innermost (stack blocks first (suc n)) ∷ [])
    ∙ (let f : length (inner_loops blocks first n) + 1 ≡ suc n = omega (arith, e) in f)

pub inner_is : (blocks : Blocks) (first n i : ℕ) → i < n → inner_at (inner_loops blocks first n) i ≡ innermost (stack blocks first (suc i))
inner_is blocks first zero i h = absurd (omega (arith, h))
inner_is blocks first (suc n) i h = by (λ x. inner_is blocks first n i x) (cases_lt i n)
  where
    size : length (inner_loops blocks first n) ≡ n
    size = inner_size blocks first n

    by : (i < n → inner_at (inner_loops blocks first n) i ≡ innermost (stack blocks first (suc i))) → (i < n) ⊎ (n ≤ i)
        → inner_at (inner_loops blocks first (suc n)) i ≡ innermost (stack blocks first (suc i))
    by before (inl x) = let e = size in
        get_or_append_left (inner_loops blocks first n) (innermost (stack blocks first (suc n)) ∷ []) None i (omega arith) ∙ before x
    by before (inr x) =
        let e : i ≡ n = omega (arith, h, x) in
        get_or_push (inner_loops blocks first n) (innermost (stack blocks first (suc n))) None i (size ∙ sym e)
        ∙ ap (λ k. innermost (stack blocks first (suc k))) (sym e)

-- What the code keeps

pub next_stack : (blocks : Blocks) (first at : ℕ) (loops : List ℕ) → first ≤ at
    → loops ≡ with_loop (last_of blocks at) (leave at (stack blocks first (at - first))) → loops ≡ stack blocks first (at + 1 - first)
next_stack blocks first at loops h e =
    let a : first + (at - first) ≡ at = omega (arith, h) in
    let b : suc (at - first) ≡ at + 1 - first = omega (arith, h) in
    e ∙ ap (λ n. with_loop (last_of blocks n) (leave n (stack blocks first (at - first)))) (sym a) ∙ ap (stack blocks first) b

pub next_inner : (blocks : Blocks) (first at : ℕ) (old new : List (Option ℕ)) (x : Option ℕ) (loops : List ℕ) → first ≤ at
    → old ≡ inner_loops blocks first (at - first) → new ≡ old ++ x ∷ [] → x ≡ innermost loops → loops ≡ stack blocks first (at + 1 - first)
    → new ≡ inner_loops blocks first (at + 1 - first)
next_inner blocks first at old new x loops h was is one e =
    let b : at + 1 - first ≡ suc (at - first) = omega (arith, h) in
    let f : x ≡ innermost (stack blocks first (suc (at - first))) = one ∙ ap innermost (e ∙ ap (stack blocks first) b) in
    is ∙ ap (λ (xs : List (Option ℕ)). xs ++ x ∷ []) was ∙ ap (λ (o : Option ℕ). inner_loops blocks first (at - first) ++ o ∷ []) f
    ∙ ap (inner_loops blocks first) (sym b)

pub inner_end : (blocks : Blocks) (first past at : ℕ) (items : List (Option ℕ)) → first ≤ at → (first ≤ past → at ≤ past) → (past < first → at ≤ first)
    → past ≤ at → items ≡ inner_loops blocks first (at - first) → items ≡ inner_loops blocks first (past - first)
inner_end blocks first past at items low up late high e = e ∙ ap (inner_loops blocks first) (by (cases_lt past first))
  where
    by : (past < first) ⊎ (first ≤ past) → at - first ≡ past - first
    by (inl x) = let y : at ≤ first = late x in omega (arith, x, y)
    by (inr x) = let y : at ≤ past = up x in omega (arith, y, high)
