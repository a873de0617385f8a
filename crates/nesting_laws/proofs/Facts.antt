-- What holds of a segment of a flow: where its blocks lead, which paths are in it, and which blocks are heads of loops.
use Rattle.std.proofs.Common.{◌≡◌, ◌⊎◌, inl, inr, ⊎_elim, ℕ, zero, suc, ◌<◌, ◌≤◌, List, [], ◌∷◌, length, get_or, Some, slice_get, true, refl, sym, ap, subst, ◌∙◌, arith}
use Rattle.std.specs.Option.{option_map}
use Rattle.std.proofs.lemmas.Bool.{cases_eq, cases_lt}
use Rattle.std.proofs.lemmas.Option.{same_Some, slice_get-get_or, slice_get-map, slice_get_within}
use Rattle.std.proofs.lemmas.List.{length-map}
use Rattle.std.proofs.lemmas.List.Elements.{recursion_from_All}
use Rattle.std.specs.List.{AllByRecursion}
use Rattle.stl_tree.specs.Blocks.{Way, stops}
use Rattle.stl_tree.specs.Segments.{IsOneOf, IsReached, JumpsTo, Ways, fall, first, jump}
use Rattle.stl_tree.specs.Flows.{GoesOn, IsEndBlock, IsExitJump, IsIn, IsInLoop, IsInnermost, IsJump, IsList, IsLoop, IsSegment, Segment, blocks_of, jumps_of, ways_by}
use Rattle.nesting_laws.specs.PlanLaws.{IsFlow}
use Rattle.nesting_laws.specs.Plans.{LeadsTo}
use Rattle.nesting_laws.proofs.Exits.{jump_in, jump_leads, leads_cases, list_jumps, list_or_not, same_way, source_in}
use Rattle.nesting_laws.proofs.Reaching.{IsKnown, known_one, known_reached}

-- a block stands outside of two
abbrev pub IsOutside : ℕ → ℕ → ℕ → Type 0
IsOutside lo hi b = (b ≤ lo) ⊎ (hi ≤ b)

-- what proofs use of a segment
pub record Facts (g : Segment) : Type 0 where
  pub goes : (b : ℕ) → IsIn g b → (way : Way) × GoesOn g b way
  pub leads_reached : (b t : ℕ) → LeadsTo g b t → IsReached (blocks_of g.flow) t
  pub leads_low : (b t : ℕ) → LeadsTo g b t → g.first ≤ t
  pub leads_high : (b t : ℕ) → LeadsTo g b t → t ≤ g.past
  -- the block of the end word alone is the last one of its body, and has no jump
  pub before_end : (s t e : ℕ) → IsJump g s t → IsEndBlock g.flow e → s < e
  pub up_to_end : (b t e : ℕ) → LeadsTo g b t → IsEndBlock g.flow e → t ≤ e
  -- what leads to reached blocks of the segment comes from its first block
  pub by_paths : (lo hi : ℕ) → g.first ≤ lo → ((b t : ℕ) → LeadsTo g b t → IsOutside lo hi b → IsOutside lo hi t)
      → (q : ℕ) → IsIn g q → IsOutside lo hi q
  pub head_or_not : (h : ℕ) → ((l : ℕ) × IsLoop g h l) ⊎ ((s : ℕ) → IsJump g s h → s < h)
  pub known_jump : (s t : ℕ) → IsKnown (IsJump g s t)
  pub known_list : (x : ℕ) → IsKnown (IsList g x)
  -- the label of a jump list is the next block
  pub label : (x : ℕ) → IsList g x → IsJump g x (suc x)

pub known_in : (g : Segment) (b : ℕ) → IsKnown (IsIn g b)
known_in g b = by (known_reached (blocks_of g.flow) b) (cases_lt b g.first) (cases_lt b g.past)
  where
    by : IsKnown (IsReached (blocks_of g.flow) b) → (b < g.first) ⊎ (g.first ≤ b) → (b < g.past) ⊎ (g.past ≤ b) → IsKnown (IsIn g b)
    by (inl r) (inr x) (inl y) = inl (record { reached = r; low = x; high = y })
    by (inr n) x y = inr (λ is. n is.reached)
    by r (inl x) y = inr (λ is. omega (arith, is.low))
    by r x (inr y) = inr (λ is. omega (arith, is.high))

all_one : (P : ℕ → Type 0) (xs : List ℕ) (n : ℕ) → AllByRecursion P xs → IsOneOf n xs → P n
all_one P [] n all o = absurd o
all_one P (x ∷ xs) n all (inl e) = subst P (sym e) all.0
all_one P (x ∷ xs) n all (inr o) = all_one P xs n all.1 o

module _ (g : Segment) (flow : IsFlow g.flow) (segment : IsSegment g) where
  pub way_at : (b : ℕ) (way : Way) → slice_get g.flow.ways b ≡ Some way → slice_get (blocks_of g.flow) b ≡ Some (ways_by way)
  way_at b way e = slice_get-map ways_by g.flow.ways b ∙ ap (option_map ways_by) e

  length_blocks : length (blocks_of g.flow) ≡ length g.flow.ways
  length_blocks = length-map g.flow.ways ways_by

  pub length_past : g.past ≤ length g.flow.ways
  length_past = let e = length_blocks in ⊎_elim (λ f. omega arith) (λ c. omega (arith, c.there)) segment.ends

  way_in : (b : ℕ) → IsIn g b → (way : Way) × GoesOn g b way
  way_in b is = let x = length_past in (get_or g.flow.ways b stops, (is, slice_get-get_or g.flow.ways b stops (omega (arith, is.high))))

  -- Where blocks lead

  lead_reached : (b t : ℕ) → LeadsTo g b t → IsReached (blocks_of g.flow) t
  lead_reached b t (way, goes, inl o) = jump goes.0.reached (ways_by way, way_at b way goes.1, o)
  lead_reached b t (way, goes, inr f) =
      subst (λ t. IsReached (blocks_of g.flow) t) (sym f.1) (fall goes.0.reached (ways_by way, way_at b way goes.1, f.0))

  jump_on : (s t : ℕ) → IsJump g s t → JumpsTo (blocks_of g.flow) s t
  jump_on s t (way, goes, o) = (ways_by way, way_at s way goes.1, o)

  pub jump_within : (s t : ℕ) → IsJump g s t → t < length g.flow.ways
  jump_within s t (way, goes, o) = all_one (λ t. t < length g.flow.ways) (jumps_of way) t (recursion_from_All _ (jumps_of way) (flow.jumps s way goes.1)) o

  lead_within : (b t : ℕ) → LeadsTo g b t → t < length g.flow.ways
  lead_within b t (way, goes, inl o) = jump_within b t (way, goes, o)
  lead_within b t (way, goes, inr f) = subst (λ t. t < length g.flow.ways) (sym f.1) (flow.falls b way goes.1 f.0)

  lead_low : (b t : ℕ) → LeadsTo g b t → g.first ≤ t
  lead_low b t lead = ⊎_elim
      (λ j. ⊎_elim (λ x. absurd (segment.begins.free b t is.reached (jump_on b t j) (inr (x, is.low)))) (λ x. x) (cases_lt t g.first))
      (λ e. omega (arith, is.low)) (leads_cases g b t lead)
    where
      is : IsIn g b
      is = source_in g b t lead

  lead_high : (b t : ℕ) → LeadsTo g b t → t ≤ g.past
  lead_high b t lead = ⊎_elim
      (λ j. ⊎_elim (λ e. omega (arith, lead_within b t lead))
      (λ c. ⊎_elim (λ x. absurd (c.free b t is.reached (jump_on b t j) (inl (is.high, x)))) (λ x. x) (cases_lt g.past t)) segment.ends)
      (λ e. omega (arith, is.high)) (leads_cases g b t lead)
    where
      is : IsIn g b
      is = source_in g b t lead

  -- The block of the end word alone

  end_stops : (s t e : ℕ) → IsJump g s t → IsEndBlock g.flow e → s ≡ e → ⊥
  end_stops s t e (way, goes, o) end same = subst (λ way. IsOneOf t (jumps_of way)) (same_Some way stops (sym goes.1 ∙ there)) o
    where
      there : slice_get g.flow.ways s ≡ Some stops
      there = flow.ends end.0 s (ap suc same ∙ end.1)

  jump_before_end : (s t e : ℕ) → IsJump g s t → IsEndBlock g.flow e → s < e
  jump_before_end s t e j end =
      let x = length_past in let y = (jump_in g s t j).high in let z : suc e ≡ length g.flow.ways = end.1 in
      ⊎_elim (λ f. absurd (end_stops s t e j end f)) (λ n. omega arith) (cases_eq s e)

  lead_up_to_end : (b t e : ℕ) → LeadsTo g b t → IsEndBlock g.flow e → t ≤ e
  lead_up_to_end b t e lead end = omega (arith, lead_within b t lead, end.1)

  -- Paths

  module _ (lo hi : ℕ) (low : g.first ≤ lo) (on : (b t : ℕ) → LeadsTo g b t → IsOutside lo hi b → IsOutside lo hi t) where
    abbrev Is : ℕ → Type 0
    Is q = IsOutside lo hi q ⊎ (g.past ≤ q)

    -- the part of the body in which a block stands
    abbrev IsWhere : ℕ → Type 0
    IsWhere s = (s < g.first) ⊎ (IsIn g s ⊎ (g.past ≤ s))

    where_is : (s : ℕ) → IsReached (blocks_of g.flow) s → IsWhere s
    where_is s r = ⊎_elim inl
        (λ x. inr (⊎_elim (λ y. inl (record { reached = r; low = x; high = y })) inr (cases_lt s g.past))) (cases_lt s g.first)

    lead_is : (s t : ℕ) → IsIn g s → LeadsTo g s t → Is s → Is t
    lead_is s t is lead (inl o) = inl (on s t lead o)
    lead_is s t is lead (inr x) = absurd (omega (arith, is.high))

    step_is : (s t : ℕ) → (IsIn g s → LeadsTo g s t) → IsWhere s → Is s → (s < g.first → t ≤ g.first) → (g.past ≤ s → g.past ≤ t) → Is t
    step_is s t lead (inl x) o before behind = let y = before x in inl (inl (omega arith))
    step_is s t lead (inr (inl is)) o before behind = lead_is s t is (lead is) o
    step_is s t lead (inr (inr x)) o before behind = inr (behind x)

    lead_by : (s t : ℕ) (ways : Ways) → slice_get (blocks_of g.flow) s ≡ Some ways → IsOneOf t ways.jumps ⊎ ((ways.falls ≡ true) × (t ≡ suc s))
        → IsIn g s → LeadsTo g s t
    lead_by s t ways at o is = by (way_in s is)
      where
        by : (way : Way) × GoesOn g s way → LeadsTo g s t
        by (way, goes) = (
          way,
          goes,
          subst (λ (w : Ways). IsOneOf t w.jumps ⊎ ((w.falls ≡ true) × (t ≡ suc s)))
              (same_Some ways (ways_by way) (sym at ∙ way_at s way goes.1)) o,
        )

    jump_before : (s t : ℕ) → IsReached (blocks_of g.flow) s → JumpsTo (blocks_of g.flow) s t → s < g.first → t ≤ g.first
    jump_before s t r j x = ⊎_elim (λ y. absurd (segment.begins.free s t r j (inl (x, y)))) (λ y. y) (cases_lt g.first t)

    jump_behind : (s t : ℕ) → IsReached (blocks_of g.flow) s → JumpsTo (blocks_of g.flow) s t → g.past ≤ s → g.past ≤ t
    jump_behind s t r j x = ⊎_elim
        (λ e. let y = slice_get_within (blocks_of g.flow) s j.0 j.1 in let z = length_blocks in absurd (omega arith))
        (λ c. ⊎_elim (λ y. absurd (c.free s t r j (inr (y, x)))) (λ y. y) (cases_lt t g.past)) segment.ends

    all_is : (q : ℕ) → IsReached (blocks_of g.flow) q → Is q
    all_is q first = inl (inl (omega arith))
    all_is q (jump {s = s} {t = t} r j) =
        step_is s t (lead_by s t j.0 j.1 (inl j.2)) (where_is s r) (all_is s r) (jump_before s t r j) (jump_behind s t r j)
    all_is q (fall {s = s} r f) =
        step_is s (suc s) (lead_by s (suc s) f.0 f.1 (inr (f.2, refl))) (where_is s r) (all_is s r) (λ x. x) (λ x. omega arith)

    in_outside : (q : ℕ) → IsIn g q → IsOutside lo hi q
    in_outside q is = ⊎_elim (λ o. o) (λ x. absurd (omega (arith, is.high))) (all_is q is.reached)

  -- Heads

  known_jump : (s t : ℕ) → IsKnown (IsJump g s t)
  known_jump s t = by (known_in g s)
    where
      by : IsKnown (IsIn g s) → IsKnown (IsJump g s t)
      by (inr n) = inr (λ j. n (jump_in g s t j))
      by (inl is) = at (way_in s is)
        where
          at : (way : Way) × GoesOn g s way → IsKnown (IsJump g s t)
          at (way, goes) = ⊎_elim (λ o. inl (way, goes, o))
              (λ n. inr (λ j. n (subst (λ way. IsOneOf t (jumps_of way)) (same_way g s j.0 way j.1 goes) j.2))) (known_one t (jumps_of way))

  -- of the jumps to a block from blocks below a number, the last one that is a jump back
  abbrev IsLast : ℕ → ℕ → Type 0
  IsLast h n = ((l : ℕ) × IsJump g l h × (h ≤ l) × ((s : ℕ) → IsJump g s h → s < n → s ≤ l)) ⊎ ((s : ℕ) → IsJump g s h → s < n → s < h)

  next_last : (h n : ℕ) → IsKnown (IsJump g n h) → (n < h) ⊎ (h ≤ n) → IsLast h n → IsLast h (suc n)
  next_last h n j (inl x) (inl (l, k, y, f)) = inl (l, k, y, λ s i z. omega arith)
  next_last h n j (inl x) (inr f) = inr (λ s i z. omega arith)
  next_last h n (inl j) (inr x) o = inl (n, j, x, λ s i z. omega arith)
  next_last h n (inr m) (inr x) (inl (l, k, y, f)) =
      inl (l, k, y, λ s i z. ⊎_elim (λ e. absurd (m (subst (λ s. IsJump g s h) e i))) (λ d. f s i (omega arith)) (cases_eq s n))
  next_last h n (inr m) (inr x) (inr f) =
      inr (λ s i z. ⊎_elim (λ e. absurd (m (subst (λ s. IsJump g s h) e i))) (λ d. f s i (omega arith)) (cases_eq s n))

  last_of : (h n : ℕ) → IsLast h n
  last_of h zero = inr (λ s i z. absurd (omega arith))
  last_of h (suc n) = next_last h n (known_jump n h) (cases_lt n h) (last_of h n)

  loop_at : (h : ℕ) → ((l : ℕ) × IsLoop g h l) ⊎ ((s : ℕ) → IsJump g s h → s < h)
  loop_at h = ⊎_elim
      (λ (l, j, x, f). inl (l, record { back = j; ordered = x; greatest = λ s i. f s i (jump_in g s h i).high }))
      (λ f. inr (λ s i. f s i (jump_in g s h i).high)) (last_of h g.past)

  known_list : (x : ℕ) → IsKnown (IsList g x)
  known_list x = by (known_in g x)
    where
      at : (way : Way) × GoesOn g x way → IsKnown (IsList g x)
      at (way, goes) = list_or_not g x way goes

      by : IsKnown (IsIn g x) → IsKnown (IsList g x)
      by (inl is) = at (way_in x is)
      by (inr n) = inr (λ list. n list.2.0)

  label_of : (x : ℕ) → IsList g x → IsJump g x (suc x)
  label_of x (targets, label, goes) =
      subst (λ t. IsJump g x t) (flow.labels x targets label goes.1) (list_jumps g x label targets goes)

  pub facts_of : Facts g
  facts_of = record {
    goes = way_in;
    leads_reached = lead_reached;
    leads_low = lead_low;
    leads_high = lead_high;
    before_end = jump_before_end;
    up_to_end = lead_up_to_end;
    by_paths = in_outside;
    head_or_not = loop_at;
    known_jump = known_jump;
    known_list = known_list;
    label = label_of;
  }

-- Loops

module _ {g : Segment} (facts : Facts g) where
  pub low_head : (h l : ℕ) → IsLoop g h l → g.first ≤ h
  low_head h l loop = facts.leads_low l h (jump_leads g l h loop.back)

  pub high_head : (h l : ℕ) → IsLoop g h l → h < g.past
  high_head h l loop = omega (arith, loop.ordered, (jump_in g l h loop.back).high)

  pub same_last : (h l k m : ℕ) → IsLoop g h l → IsLoop g k m → k ≡ h → m ≤ l
  same_last h l k m loop other e = loop.greatest m (subst (λ k. IsJump g m k) e other.back)

  -- a block that leads back leads to a head
  pub back_loop : (b t : ℕ) → LeadsTo g b t → t ≤ b → (l : ℕ) × IsLoop g t l × (b ≤ l)
  back_loop b t lead x = ⊎_elim
      (λ j. ⊎_elim (λ (l, loop). (l, loop, loop.greatest b j)) (λ f. absurd (omega (arith, f b j))) (facts.head_or_not t))
      (λ e. absurd (omega arith)) (leads_cases g b t lead)

  -- of the loops around a block with a head before `k`, the one with the greatest head
  abbrev Found : ℕ → ℕ → ℕ → ℕ → Type 0
  Found b k h l = IsInLoop g h l b × ((i m : ℕ) → IsInLoop g i m b → i < k → i ≤ h)

  abbrev IsSearch : ℕ → ℕ → Type 0
  IsSearch b k = ((h : ℕ) × (l : ℕ) × Found b k h l) ⊎ ((h l : ℕ) → IsInLoop g h l b → h < k → ⊥)

  -- with one block more that is no head of such a loop
  search_on : (b k : ℕ) → ((j n : ℕ) → IsInLoop g j n b → j ≡ k → ⊥) → IsSearch b k → IsSearch b (suc k)
  search_on b k none (inl (h, l, found)) =
      inl (h, l, (found.0, λ j n is y. ⊎_elim (λ e. absurd (none j n is e)) (λ d. found.1 j n is (omega arith)) (cases_eq j k)))
  search_on b k none (inr m) = inr (λ j n is y. ⊎_elim (λ e. none j n is e) (λ d. m j n is (omega arith)) (cases_eq j k))

  next_search : (b k : ℕ) → k ≤ b → IsSearch b k → ((l : ℕ) × IsLoop g k l) ⊎ ((s : ℕ) → IsJump g s k → s < k) → IsSearch b (suc k)
  next_search b k x o (inl (l, loop)) = ⊎_elim
      (λ y. search_on b k (λ j n is e. omega (arith, same_last k l j n loop is.loop e, is.high)) o)
      (λ y. inl (k, l, (record { loop = loop; low = x; high = y }, λ j n is z. omega arith))) (cases_lt l b)
  next_search b k x o (inr f) =
      search_on b k (λ j n is e. omega (arith, f n (subst (λ j. IsJump g n j) e is.loop.back), is.loop.ordered)) o

  search_heads : (b k : ℕ) → k ≤ suc b → IsSearch b k
  search_heads b zero x = inr (λ h l is y. omega arith)
  search_heads b (suc k) x = next_search b k (omega arith) (search_heads b k (omega arith)) (facts.head_or_not k)

  pub innermost : (b h l : ℕ) → IsInLoop g h l b → (k : ℕ) × (m : ℕ) × IsInnermost g k m b
  innermost b h l is = ⊎_elim
      (λ (k, m, f). (k, m, record { around = f.0; inner = λ i n other. f.1 i n other (omega (arith, other.low)) }))
      (λ f. absurd (f h l is (omega (arith, is.low)))) (search_heads b (suc b) (omega arith))

  -- whether a jump leaves the innermost loop around its block
  pub known_exit : (b t : ℕ) → IsKnown (IsExitJump g b t)
  known_exit b t = ⊎_elim
      (λ (k, m, f). at k m (record { around = f.0; inner = λ i n other. f.1 i n other (omega (arith, other.low)) }) (cases_eq t (suc m)))
      (λ f. inr (λ (h, l, is, e). f h l is.around (omega (arith, is.around.low)))) (search_heads b (suc b) (omega arith))
    where
      at : (k m : ℕ) → IsInnermost g k m b → IsKnown (t ≡ suc m) → IsKnown (IsExitJump g b t)
      at k m is (inl e) = inl (k, m, is, e)
      at k m is (inr n) = inr (λ (h, l, other, e). n (
          let x = is.inner h l other.around in let y = other.inner k m is.around in
          let z = same_last h l k m other.around.loop is.around.loop (omega arith) in
          let w = same_last k m h l is.around.loop other.around.loop (omega arith) in omega arith
          ))
