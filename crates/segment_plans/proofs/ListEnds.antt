-- Where the arms of a jump list of a nested segment end, it is found, from the innermost loop around the list alone.
use Rattle.std.proofs.Common.{◌≡◌, ◌⊎◌, ℕ, suc, ◌+◌, ◌-◌, ◌<◌, ◌≤◌, Option, Some, None, inl, inr, ⊎_elim, refl, sym, subst, arith}
use Rattle.std.proofs.lemmas.Bool.{cases_lt}
use Rattle.stl_tree.specs.Flows.{IsEndBlock, IsExitJump, IsInLoop, IsInnermost, IsJump, IsList, IsSegment, Segment}
use Rattle.stl_tree.specs.WellNested.{IsCaseEnd, IsInArms, IsTarget}
use Rattle.nesting_laws.specs.PlanLaws.{IsFlow, IsNested}
use Rattle.nesting_laws.specs.Plans.{IsWayOut}
use Rattle.nesting_laws.proofs.Ends.{no_list}
use Rattle.nesting_laws.proofs.Exits.{jump_leads}
use Rattle.nesting_laws.proofs.Facts.{Facts, facts_of, innermost, same_last}
use Rattle.nesting_laws.proofs.Lists.{forced, in_arms}
use Rattle.segment_plans.specs.Arms.{jump_over, last_target}
use Rattle.segment_plans.specs.Planned.{around_of}
use Rattle.segment_plans.specs.declared.blocks.Blocks.{Blocks}
use Rattle.segment_plans.specs.inner.Spans.{list_end, loop_by}
use Rattle.segment_plans.proofs.Overs.{IsOver, IsSomeOver, over_found, over_is, over_sound}
use Rattle.segment_plans.proofs.Site.{IsSite}
use Rattle.segment_plans.proofs.Targets.{last_most, last_target_is}

-- the innermost loop around a block is known
abbrev pub IsAroundBy : Segment → ℕ → Option ℕ → Type 0
IsAroundBy g b None = (h m : ℕ) → IsInnermost g h m b → ⊥
IsAroundBy g b (Some l) = (h : ℕ) × IsInnermost g h l b

module _ (g : Segment) (blocks : Blocks) (facts : Facts g) (site : IsSite g blocks) (nested : IsNested g) (x e : ℕ) (case : IsCaseEnd g x e) where
  abbrev w : ℕ
  w = last_target blocks x

  last : IsTarget g x (last_target blocks x)
  last = last_target_is g blocks site x case.list

  most : (t : ℕ) → IsTarget g x t → t ≤ last_target blocks x
  most = last_most g blocks site x case.list

  low : x < w
  low = (case.fits.after w last).0

  high : w ≤ e
  high = (case.fits.after w last).1

  up : e ≤ g.past
  up = by (forced facts case)
    where
      by : IsTarget g x e ⊎ ((s : ℕ) × (t : ℕ) × IsTarget g x t × (x < s) × (s < t) × IsJump g s e × (IsExitJump g s e ⊎ IsEndBlock g.flow e → ⊥)) → e ≤ g.past
      by (inl is) = facts.leads_high x e (jump_leads g x e is.jump)
      by (inr (s, t, is, y, z, jump, stays)) = facts.leads_high s e (jump_leads g s e jump)

  arms : (s : ℕ) → x < s → s < w → IsInArms g x e s
  arms s y z = let h = high in in_arms facts x e s case.list y (omega arith)

  -- a loop around the list is around its arms
  holds : (h m s : ℕ) → IsInLoop g h m x → x < s → s < w → IsInLoop g h m s
  holds h m s is y z = record { loop = is.loop; low = omega (arith, is.low); high = case.fits.loops h m s is (arms s y z) }

  -- a loop around a block of an arm that ends behind the last target is the innermost one around the list
  module _ (s h m : ℕ) (y : x < s) (z : s < w) (inner : IsInnermost g h m s) (far : w ≤ m) where
    begins : h ≤ x
    begins = ⊎_elim
        (λ i. absurd (by (nested.entries x w h m last.jump (record { loop = inner.around.loop; low = omega (arith, inner.around.low); high = far })) i))
        (λ i. i) (cases_lt x h)
      where
        by : IsInLoop g h m x ⊎ (w ≡ h) → x < h → ⊥
        by (inl is) i = omega (arith, is.low)
        by (inr q) i = omega (arith, inner.around.low)

    around_list : IsInnermost g h m x
    around_list = record {
      around = let i = begins in record { loop = inner.around.loop; low = i; high = omega arith };
      inner = λ k n is. inner.inner k n (holds k n s is y z);
    }

  -- that the innermost loop is left is known by its last block
  exit_way : (o : Option ℕ) → IsAroundBy g x o → (h m t : ℕ) → IsInnermost g h m x → t ≡ suc m → IsWayOut (around_of (loop_by x o)) t
  exit_way None none h m t inner q = absurd (none h m inner)
  exit_way (Some l) (k, is) h m t inner q =
      let a : h ≤ k = is.inner h m inner.around in
      let b : k ≤ h = inner.inner k l is.around in
      let c : l ≤ m = same_last facts h m k l inner.around.loop is.around.loop (omega arith) in
      let d : m ≤ l = same_last facts k l h m is.around.loop inner.around.loop (omega arith) in
      inr (refl, omega arith)

  -- a jump out of it from an arm is an exit jump, or one to the end word
  way_exit : (o : Option ℕ) → IsAroundBy g x o → (s : ℕ) → x < s → s < w → IsJump g s e → IsWayOut (around_of (loop_by x o)) e
      → IsExitJump g s e ⊎ IsEndBlock g.flow e
  way_exit None none s y z jump way = absurd way
  way_exit (Some l) (k, is) s y z jump (inl q) = let a = high in absurd (omega arith)
  way_exit (Some l) (k, is) s y z jump (inr (f, q)) = by (innermost facts s k l (holds k l s is.around y z))
    where
      by : (h : ℕ) × (m : ℕ) × IsInnermost g h m s → IsExitJump g s e ⊎ IsEndBlock g.flow e
      by (h, m, inner) = to (nested.exits s e h m jump inner)
        where
          inside : e ≤ m → ⊥
          inside i =
              let a = inner.inner k l (holds k l s is.around y z) in
              let b = (holds k l s is.around y z).high in
              ⊎_elim (λ o. omega (arith, inner.around.low)) (λ o. ⊎_elim (λ o. omega (arith, is.around.low, inner.around.high)) (λ o. ⊎_elim (λ o. omega arith)
              (λ o. let c = same_last facts k l h m is.around.loop inner.around.loop (omega arith) in
              let d = same_last facts h m k l inner.around.loop is.around.loop (omega arith) in omega arith) o) o)
              (nested.loops k l h m is.around.loop inner.around.loop)

          to : ((h ≤ e) × (e ≤ m)) ⊎ ((e ≡ suc m) ⊎ IsEndBlock g.flow e) → IsExitJump g s e ⊎ IsEndBlock g.flow e
          to (inl o) = absurd (inside o.1)
          to (inr (inl o)) = inl (h, m, inner, o)
          to (inr (inr o)) = inr o

  module _ (o : Option ℕ) (around : IsAroundBy g x o) where
    all : (s t : ℕ) → x + 1 ≤ s → s < x + 1 + (w - (x + 1)) → jump_over blocks (loop_by x o) w s ≡ Some t → t ≡ e
    all s t y z q =
        let a : x < w = low in
        let b : w ≤ e = high in
        let c : e ≤ g.past = up in
        let below : s < w = omega (arith, z, a) in
        to (over_sound g blocks site (loop_by x o) w s (omega (arith, y, case.list.2.0.low)) (omega (arith, below, b, c)) t q) (omega (arith, y)) below
      where
        to : IsOver g (loop_by x o) w s t → x < s → s < w → t ≡ e
        to is i j = by (case.fits.exits s t is.jump (arms s i j))
          where
            far : w < t
            far = is.over

            by : (IsInArms g x e t × ((u : ℕ) → IsTarget g x u → ((u ≤ s → u ≤ t) × (u ≤ t → u ≤ s))))
                ⊎ ((t ≡ e) ⊎ (((l : ℕ) × IsInnermost g t l s) ⊎ (IsExitJump g s t ⊎ IsEndBlock g.flow t))) → t ≡ e
            by (inl k) = let n = (k.1 w last).1 (let f = far in omega arith) in absurd (omega arith)
            by (inr (inl k)) = k
            by (inr (inr (inl (l, inner)))) = let f = far in absurd (omega (arith, inner.around.low))
            by (inr (inr (inr (inl (h, m, inner, k))))) = let f = far in
                absurd (is.free (inl (exit_way o around h m t (around_list s h m i j inner (omega arith)) k)))
            by (inr (inr (inr (inr end)))) = absurd (is.free (inr end))

    some : (e ≡ w) ⊎ IsSomeOver blocks (loop_by x o) w (x + 1) (w - (x + 1)) e
    some = by (forced facts case) (cases_lt w e)
      where
        by : IsTarget g x e ⊎ ((s : ℕ) × (t : ℕ) × IsTarget g x t × (x < s) × (s < t) × IsJump g s e × (IsExitJump g s e ⊎ IsEndBlock g.flow e → ⊥))
            → (w < e) ⊎ (e ≤ w) → (e ≡ w) ⊎ IsSomeOver blocks (loop_by x o) w (x + 1) (w - (x + 1)) e
        by p (inr y) = let h = high in inl (omega arith)
        by (inl is) (inl y) = let m = most e is in absurd (omega arith)
        by (inr (s, t, is, y, z, jump, stays)) (inl far) =
            let m : t ≤ w = most t is in
            let h : w ≤ e = high in
            let k : e ≤ g.past = up in
            inr (
              s,
              omega (arith, y),
              omega (arith, z, m, y),
              over_found g blocks site (loop_by x o) w s (omega (arith, y, case.list.2.0.low)) (omega (arith, z, m, h, k)) e (record {
                jump = jump;
                over = far;
                free = λ p. stays (⊎_elim (λ way. way_exit o around s y (omega (arith, z, m)) jump way) (λ end. inr end) p);
                single = λ list. no_list facts x w e (record { target = last; last = most }) case s y (omega (arith, z, m)) jump far (nested.cases s list);
              }),
            )

    pub end_is : list_end blocks o x ≡ e
    end_is = over_is blocks (loop_by x o) (last_target blocks x) (x + 1) (last_target blocks x - (x + 1)) e all some

pub case_end_is : (g : Segment) (blocks : Blocks) → IsFlow g.flow → IsSegment g → IsSite g blocks → IsNested g → (x : ℕ) → IsList g x
    → (o : Option ℕ) → IsAroundBy g x o → IsCaseEnd g x (list_end blocks o x)
case_end_is g blocks flow seg site nested x list o around = by (nested.cases x list)
  where
    by : (e : ℕ) × IsCaseEnd g x e → IsCaseEnd g x (list_end blocks o x)
    by (e, case) = subst (λ n. IsCaseEnd g x n) (sym (end_is g blocks (facts_of g flow seg) site nested x e case o around)) case
