-- The heads of the loops of a segment that is written by a plan: the blocks that are marked so.
use Rattle.std.proofs.Common.{◌≡◌, inl, inr, ⊎_elim, ℕ, zero, suc, ◌+◌, ◌-◌, ◌<◌, ◌≤◌, Bool, true, false, if◌then◌else◌, List, [], ◌∷◌, length, refl, sym, ap, ◌∙◌, arith}
use Rattle.std.proofs.lemmas.Bool.{cases_eq, cases_lt, cond_both}
use Rattle.stl_tree.specs.Segments.{AreAscending, AreAscendingAfter, IsOneOf}
use Rattle.stl_tree.specs.Flows.{AreHeads, IsLoop, IsSegment, Segment}
use Rattle.nesting_laws.specs.Splitting.{HasOneLoop}
use Rattle.region_laws.specs.Regions.{Mark, arm_of, loop_head, unmarked}
use Rattle.region_plans.specs.Charts.{IsHeaded}
use Rattle.region_plans.specs.PlanRegion.{Chart}
use Rattle.region_plans.specs.RegionCounts.{before, mark_weight}
use Rattle.region_plans.specs.TextCounts.{block_whiles, of_whiles}
use Rattle.unit_regions.specs.UnitCharts.{IsCutUp, segment_of}
use Rattle.unit_regions.proofs.Cutting.{stay}

abbrev is_head : Mark → Bool
is_head unmarked = false
is_head loop_head = true
is_head (arm_of k) = false

head_is : (m : Mark) → is_head m ≡ true → m ≡ loop_head
head_is unmarked e = absurd cc
head_is loop_head e = refl
head_is (arm_of k) e = absurd cc

head_weight : (m : Mark) → mark_weight of_whiles m ≡ (if is_head m then 1 else 0)
head_weight unmarked = refl
head_weight loop_head = refl
head_weight (arm_of k) = refl

-- where there is at most one loop, there is at most one head
pub one_head : (g : Segment) (heads : List ℕ) → AreHeads g heads → HasOneLoop g → length heads ≤ 1
one_head g [] are one = omega arith
one_head g (h ∷ []) are one = omega arith
one_head g (h ∷ k ∷ rest) are one =
    let (l, loop) = are.each h (inl refl) in let (m, loop') = are.each k (inr (inl refl)) in
    let same : h ≡ k = one h l k m loop loop' in let x : h < k = are.ascending.0 in absurd (omega arith)

module _ (c : Chart) where
  -- of so many blocks from one on those that are marked as heads
  abbrev pub heads_from : ℕ → ℕ → List ℕ
  heads_from b zero = []
  heads_from b (suc n) = if is_head (c.unit.marks b) then b ∷ heads_from (suc b) n else heads_from (suc b) n

  ascend_after : (m b n : ℕ) → m < b → AreAscendingAfter m (heads_from b n)
  ascend_after m b zero x = tt
  ascend_after m b (suc n) x =
      cond_both (is_head (c.unit.marks b)) (b ∷ heads_from (suc b) n) (heads_from (suc b) n) (AreAscendingAfter m)
      (λ e. (x, ascend_after b (suc b) n (omega arith))) (λ e. ascend_after m (suc b) n (omega arith))

  ascend : (b n : ℕ) → AreAscending (heads_from b n)
  ascend b zero = tt
  ascend b (suc n) =
      cond_both (is_head (c.unit.marks b)) (b ∷ heads_from (suc b) n) (heads_from (suc b) n) AreAscending
      (λ e. ascend_after b (suc b) n (omega arith)) (λ e. ascend (suc b) n)

  sound_heads : (b n h : ℕ) → IsOneOf h (heads_from b n) → (b ≤ h) × (h < b + n) × (c.unit.marks h ≡ loop_head)
  sound_heads b zero h o = absurd o
  sound_heads b (suc n) h o =
      cond_both (is_head (c.unit.marks b)) (b ∷ heads_from (suc b) n) (heads_from (suc b) n)
      (λ heads. IsOneOf h heads → (b ≤ h) × (h < b + suc n) × (c.unit.marks h ≡ loop_head))
      (λ e o. ⊎_elim
      (λ same. (omega arith, omega arith, ap c.unit.marks same ∙ head_is (c.unit.marks b) e))
      (λ p. let r = sound_heads (suc b) n h p in (omega (arith, r.0), omega (arith, r.1), r.2)) o)
      (λ e o. let r = sound_heads (suc b) n h o in (omega (arith, r.0), omega (arith, r.1), r.2)) o

  found_heads : (b n h : ℕ) → b ≤ h → h < b + n → c.unit.marks h ≡ loop_head → IsOneOf h (heads_from b n)
  found_heads b zero h x y e = absurd (omega arith)
  found_heads b (suc n) h x y e =
      cond_both (is_head (c.unit.marks b)) (b ∷ heads_from (suc b) n) (heads_from (suc b) n) (IsOneOf h)
      (λ f. ⊎_elim (λ same. inl same) (λ other. inr (found_heads (suc b) n h (before_other other) (omega arith) e)) (cases_eq h b))
      (λ f. found_heads (suc b) n h
      (⊎_elim (λ same. absurd (unmarked_there f same)) before_other (cases_eq h b)) (omega arith) e)
    where
      unmarked_there : is_head (c.unit.marks b) ≡ false → h ≡ b → ⊥
      unmarked_there f same = let g : true ≡ false = sym (ap is_head (sym (ap c.unit.marks same) ∙ e)) ∙ f in cc

      before_other : (h ≡ b → ⊥) → suc b ≤ h
      before_other other = ⊎_elim (λ z. z) (λ z. absurd (other (omega arith))) (cases_lt b h)

  -- as many as are counted
  pub heads_count : (b n : ℕ) → length (heads_from b n) + before (block_whiles c) b ≡ before (block_whiles c) (b + n)
  heads_count b zero =
      let same : before (block_whiles c) b ≡ before (block_whiles c) (b + 0)
      = ap (before (block_whiles c)) (let e : b ≡ b + 0 = omega arith in e) in omega arith
  heads_count b (suc n) =
      let h : length (heads_from (suc b) n) + (before (block_whiles c) b + block_whiles c b) ≡ before (block_whiles c) (suc b + n)
      = heads_count (suc b) n in
      let same : before (block_whiles c) (suc b + n) ≡ before (block_whiles c) (b + suc n)
      = ap (before (block_whiles c)) (let e : suc b + n ≡ b + suc n = omega arith in e) in
      let w = head_weight (c.unit.marks b) in
      cond_both (is_head (c.unit.marks b)) (b ∷ heads_from (suc b) n) (heads_from (suc b) n)
      (λ heads. length heads + before (block_whiles c) b ≡ before (block_whiles c) (b + suc n))
      (λ e. let one : block_whiles c b ≡ 1 = w ∙ ap (λ (t : Bool). if t then 1 else 0) e in omega arith)
      (λ e. let none : block_whiles c b ≡ 0 = w ∙ ap (λ (t : Bool). if t then 1 else 0) e in omega arith)

  module _ (cuts : List ℕ) (ok : IsCutUp c.unit.nodes c.unit.reached cuts) (first past : ℕ) (is : IsSegment (segment_of c first past))
      (headed : (h : ℕ) → first ≤ h → h < past → IsHeaded c (segment_of c first past) h) where
    abbrev G : Segment
    G = segment_of c first past

    marked_loop : (h : ℕ) → first ≤ h → h < past → c.unit.marks h ≡ loop_head → (l : ℕ) × IsLoop G h l
    marked_loop h x y e =
        ⊎_elim (λ (l, loop, f). (l, loop)) (λ (none, f). absurd (let g : loop_head ≡ unmarked = sym e ∙ f in cc)) (headed h x y)

    loop_marked : (h l : ℕ) → IsLoop G h l → first ≤ h → h < past → c.unit.marks h ≡ loop_head
    loop_marked h l loop x y = ⊎_elim (λ (k, own, f). f) (λ (none, f). absurd (none l loop)) (headed h x y)

    loop_within : (h l : ℕ) → IsLoop G h l → (first ≤ h) × (h < past)
    loop_within h l loop =
        let (way, goes, o) = loop.back in let low = (stay c cuts ok first past is l h (way, goes, inl o)).0 in
        let high : l < past = goes.0.high in let x : h ≤ l = loop.ordered in (low, omega arith)

    pub are_heads : AreHeads G (heads_from first (past - first))
    are_heads =
        let some : first < past = is.some in
        record {
          ascending = ascend first (past - first);
          each = λ h o. let (x, y, e) = sound_heads first (past - first) h o in marked_loop h x (omega arith) e;
          all = λ h l loop.
              let (x, y) = loop_within h l loop in found_heads first (past - first) h x (omega arith) (loop_marked h l loop x y);
        }

    pub heads_are : length (heads_from first (past - first)) + before (block_whiles c) first ≡ before (block_whiles c) past
    heads_are =
        let some : first < past = is.some in
        heads_count first (past - first) ∙ ap (before (block_whiles c)) (let e : first + (past - first) ≡ past = omega arith in e)
