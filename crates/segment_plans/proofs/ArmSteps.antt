-- Whether the arms of a jump list have plans, looked at from arm to arm.
use Rattle.std.proofs.Common.{◌≡◌, ◌⊎◌, ℕ, suc, ◌+◌, ◌<◌, ◌≤◌, Bool, true, false, ◌&&◌, List, [], ◌∷◌, cond, fold, max, inl, inr, ⊎_elim, refl, sym, ap, subst, ◌∙◌, arith}
use Rattle.std.specs.Bool.{Decides}
use Rattle.std.specs.Prelude.{nat_lt}
use Rattle.std.proofs.lemmas.Bool.{cases_lt}
use Rattle.std.proofs.lemmas.Bool.Decides.{Decides-and, Decides-ltb}
use Rattle.stl_tree.specs.Segments.{IsOneOf}
use Rattle.stl_tree.specs.Flows.{IsList, IsSegment, Segment}
use Rattle.stl_tree.specs.WellNested.{IsTarget}
use Rattle.nesting_laws.specs.Plans.{IsNextArm, IsPlan, Plan, arm as arm_plan, arms as arms_plan, cases as cases_plan, done, levels, list_arm as in_list_arm, list_arms, loop as loop_plan, next as next_plan, one as one_plan, skip as skip_plan}
use Rattle.segment_plans.specs.Arms.{nearer, next_arm, targets_at}
use Rattle.segment_plans.specs.Known.{AreKnown}
use Rattle.segment_plans.specs.Planned.{HasArms, HasPlan, IsPartOf, IsPiece, around_of, list_arm}
use Rattle.segment_plans.specs.declared.blocks.Blocks.{Blocks}
use Rattle.segment_plans.specs.declared.planning.Part.{Part}
use Rattle.segment_plans.specs.declared.planning.Piece.TheVariants as piece
use Rattle.segment_plans.proofs.PlanSteps.{ForEach}
use Rattle.segment_plans.proofs.Site.{IsSite, site_of}
use Rattle.segment_plans.proofs.Targets.{target_in, target_of}

-- The next arm

-- of some blocks behind one, the first one that is before an end, or that
record IsNearest (at end : ℕ) (ts : List ℕ) (d : ℕ) : Type 0 where
  above : at < d
  within : d ≤ end
  one : IsOneOf d ts ⊎ (d ≡ end)
  alone : (t : ℕ) → IsOneOf t ts → (t ≤ at) ⊎ (d ≤ t)

nearer_is : (at end t : ℕ) → at < end → IsNearest at end (t ∷ []) (nearer at end t)
nearer_is at end t x = by (nat_lt at t && nat_lt t end) (Decides-and (nat_lt at t) (nat_lt t end) (Decides-ltb at t) (Decides-ltb t end))
  where
    by : (b : Bool) → Decides b ((at < t) × (t < end)) → IsNearest at end (t ∷ []) (cond b t end)
    by true d = let h = d.0 refl in let y : t < end = h.1 in record {
      above = h.0;
      within = omega (arith, y);
      one = inl (inl refl);
      alone = λ u o. ⊎_elim (λ e. inr (omega (arith, e))) (λ n. absurd n) o;
    }
    by false d = record {
      above = x;
      within = omega arith;
      one = inr refl;
      alone = λ u o. ⊎_elim (λ e. ⊎_elim
          (λ y. ⊎_elim (λ z. let bad : false ≡ true = d.1 (y, z) in absurd cc) (λ z. inr (omega (arith, e, z))) (cases_lt t end))
          (λ y. inl (omega (arith, e, y))) (cases_lt at t)) (λ n. absurd n) o;
    }

nearest : (at end : ℕ) (ts : List ℕ) → at < end → IsNearest at end ts (fold (nearer at) end ts)
nearest at end [] x = record { above = x; within = omega arith; one = inr refl; alone = λ t o. absurd o }
nearest at end (t ∷ ts) x = by (nearest at (nearer at end t) ts (nearer_is at end t x).above) (nearer_is at end t x)
  where
    by : IsNearest at (nearer at end t) ts (fold (nearer at) (nearer at end t) ts) → IsNearest at end (t ∷ []) (nearer at end t)
        → IsNearest at end (t ∷ ts) (fold (nearer at) (nearer at end t) ts)
    by more here = record {
      above = more.above;
      within = omega (arith, more.within, here.within);
      one = ⊎_elim (λ o. inl (inr o)) (λ e. first e here.one) more.one;
      alone = λ u o. ⊎_elim
          (λ e. ⊎_elim (λ y. inl y) (λ y. inr (omega (arith, y, more.within))) (here.alone u (inl e))) (λ o. more.alone u o) o;
    }
      where
        first : fold (nearer at) (nearer at end t) ts ≡ nearer at end t → IsOneOf (nearer at end t) (t ∷ []) ⊎ (nearer at end t ≡ end)
            → IsOneOf (fold (nearer at) (nearer at end t) ts) (t ∷ ts) ⊎ (fold (nearer at) (nearer at end t) ts ≡ end)
        first e (inl (inl f)) = inl (inl (omega (arith, e, f)))
        first e (inl (inr n)) = absurd n
        first e (inr f) = inr (omega (arith, e, f))

pub next_arm_is : (g : Segment) (blocks : Blocks) → IsSite g blocks → (x at end : ℕ) → IsTarget g x at → at < end
    → IsNextArm g x at end (next_arm blocks x at end)
next_arm_is g blocks site x at end target low = by (nearest at end (targets_at blocks x) low)
  where
    list : IsList g x
    list = target.list

    by : IsNearest at end (targets_at blocks x) (next_arm blocks x at end) → IsNextArm g x at end (next_arm blocks x at end)
    by is = record {
      begins = target;
      some = is.above;
      within = is.within;
      ends = ⊎_elim (λ o. inl (target_of g blocks site x list (next_arm blocks x at end) o)) inr is.one;
      alone = λ u o. is.alone u (target_in g blocks site x list u o);
    }

-- an arm ends before one block alone
pub same_next : (g : Segment) (x lo hi d e : ℕ) → IsNextArm g x lo hi d → IsNextArm g x lo hi e → d ≡ e
same_next g x lo hi d e p q = ⊎_elim (λ z. absurd (above d e p q z)) (λ z. ⊎_elim (λ w. absurd (above e d q p w)) (λ w. omega arith) (cases_lt e d))
    (cases_lt d e)
  where
    above : (d e : ℕ) → IsNextArm g x lo hi d → IsNextArm g x lo hi e → d < e → ⊥
    above d e p q z = let some = p.some in let top = q.within in
        ⊎_elim (λ t. ⊎_elim (λ i. omega arith) (λ i. omega arith) (q.alone d t)) (λ i. omega arith) p.ends

-- where a plan has the end of an arm, it is found
pub planned_arm : (g : Segment) (blocks : Blocks) → IsSite g blocks → (x at end d : ℕ) → IsNextArm g x at end d → d ≡ next_arm blocks x at end
planned_arm g blocks site x at end d is = same_next g x at end d (next_arm blocks x at end) is
    (next_arm_is g blocks site x at end is.begins (let a : at < d = is.some in let b : d ≤ end = is.within in omega (arith, a, b)))

-- The loop over the arms

-- plans of the arms from one on are there exactly where those from the first one on are
pub record ArmsTrack (g : Segment) (left : ℕ) (part : Part) (list end at : ℕ) : Type 0 where
  pub target : at < end → IsTarget g list at
  pub forth : HasArms g left part list end at → HasArms g left part list end (list + 1)
  pub back : HasArms g left part list end (list + 1) → HasArms g left part list end at

-- for each segment where the arms may stand there
abbrev pub ForArms : Blocks → Part → ℕ → ℕ → (Segment → Type 0) → Type 0
ForArms blocks part list end P = (g : Segment) → IsSegment g → AreKnown g.flow blocks → IsPartOf g part list → (paid : Bool)
    → IsPiece g blocks part paid list (piece.Cases end) → P g

pub arms_first : (blocks : Blocks) (left : ℕ) (part : Part) (list end : ℕ) → ForArms blocks part list end (λ g. ArmsTrack g left part list end (list + 1))
arms_first blocks left part list end = λ g seg known inside paid is. record {
  target = λ x. subst (IsTarget g list) (let e : suc list ≡ list + 1 = omega arith in e) is.2;
  forth = λ h. h;
  back = λ h. h;
}

module _ (blocks : Blocks) (left : ℕ) (part : Part) (list end at : ℕ) (low : list + 1 ≤ at)
    (tracks : ForArms blocks part list end (λ g. ArmsTrack g left part list end at)) where
  abbrev pub Past : ℕ
  Past = next_arm blocks list at end

  -- the first arm of some that have plans, and the others
  parted : (g : Segment) → IsSite g blocks → IsTarget g list at → at < end → HasArms g left part list end at
      → HasPlan g left (list_arm part Past end) false at × HasArms g left part list end Past
  parted g site target up (plan, is, few) = by plan is few
    where
      by : (plan : Plan) → IsPlan g plan false at end end (around_of part.around) (list_arms list) → levels plan ≤ left
          → HasPlan g left (list_arm part (next_arm blocks list at end) end) false at × HasArms g left part list end (next_arm blocks list at end)
      by done is few = let e : at ≡ end = is in absurd (omega (arith, e, up))
      by (skip_plan rest) is few = absurd is.1
      by (one_plan rest) is few = absurd is.1
      by (arm_plan t c inner rest) is few = absurd is.1
      by (arms_plan t u c first second rest) is few = absurd is.1
      by (loop_plan leaves l inner rest) is few = absurd is.0
      by (cases_plan e inner rest) is few = absurd is.1
      by (next_plan d inner others) is few =
          let all : max (levels inner) (levels others) ≤ left = few in
          let e : d ≡ next_arm blocks list at end = planned_arm g blocks site list at end d is.1 in (
            (inner, subst (λ n. IsPlan g inner false at n end (around_of part.around) in_list_arm) e is.2, omega (arith, all)),
            (others, subst (λ n. IsPlan g others false n end end (around_of part.around) (list_arms list)) e is.3, omega (arith, all)),
          )

  joined : (g : Segment) → IsSite g blocks → IsTarget g list at → at < end → HasPlan g left (list_arm part Past end) false at
      → HasArms g left part list end Past → HasArms g left part list end at
  joined g site target up inner others =
      let some : levels inner.0 ≤ left = inner.2 in
      let more : levels others.0 ≤ left = others.2 in (
        next_plan Past inner.0 others.0,
        (refl, next_arm_is g blocks site list at end target up, inner.1, others.1),
        omega (arith, some, more),
      )

  arm_part : (g : Segment) → IsPartOf g part list → end ≤ part.past → at < Past → Past ≤ end → IsPartOf g (list_arm part Past end) at
  arm_part g inside high above within =
      record { low = omega (arith, inside.low, low); ordered = omega (arith, above); high = omega (arith, within, high, inside.high) }

  module _ (up : at < end) (above : at < Past) (within : Past ≤ end) where
    pub arms_on : ForEach blocks (list_arm part Past end) at (λ g. Decides true (HasPlan g left (list_arm part Past end) false at))
        → ForArms blocks part list end (λ g. ArmsTrack g left part list end Past)
    arms_on inner = λ g seg known inside paid is.
        let t = tracks g seg known inside paid is in
        let site = site_of g blocks seg known in
        let target = t.target up in
        let has = (inner g seg known (arm_part g inside is.1.within above within)).0 refl in
        let next = next_arm_is g blocks site list at end target up in
        record {
          target = λ x. ⊎_elim (λ o. o) (λ e. absurd (omega (arith, x, e))) next.ends;
          forth = λ h. t.forth (joined g site target up has h);
          back = λ h. (parted g site target up (t.back h)).1;
        }

    pub arms_stop : ForEach blocks (list_arm part Past end) at (λ g. Decides false (HasPlan g left (list_arm part Past end) false at))
        → ForArms blocks part list end (λ g. Decides false (HasArms g left part list end (list + 1)))
    arms_stop inner = λ g seg known inside paid is.
        let t = tracks g seg known inside paid is in
        let site = site_of g blocks seg known in (
          λ f. absurd cc,
          λ h. (inner g seg known (arm_part g inside is.1.within above within)).1 (parted g site (t.target up) up (t.back h)).0,
        )

-- What the code finds

module _ (blocks : Blocks) (left : ℕ) (part : Part) (list end at : ℕ) (low : list + 1 ≤ at)
    (tracks : ForArms blocks part list end (λ g. ArmsTrack g left part list end at)) (up : at < end) (past : ℕ) (is : past ≡ next_arm blocks list at end)
    (above : at < past) (within : past ≤ end) (arm : Part) (same : arm ≡ list_arm part past end) where
  after : at < next_arm blocks list at end
  after = omega (arith, above, is)

  before : next_arm blocks list at end ≤ end
  before = omega (arith, within, is)

  arm_is : arm ≡ list_arm part (next_arm blocks list at end) end
  arm_is = same ∙ ap (λ n. list_arm part n end) is

  pub next_tracks : ForEach blocks arm at (λ g. Decides true (HasPlan g left arm false at))
      → ForArms blocks part list end (λ g. ArmsTrack g left part list end past)
  next_tracks inner = subst (λ n. ForArms blocks part list end (λ g. ArmsTrack g left part list end n)) (sym is)
      (arms_on blocks left part list end at low tracks up after before
      (subst (λ (p : Part). ForEach blocks p at (λ g. Decides true (HasPlan g left p false at))) arm_is inner))

  pub next_stops : ForEach blocks arm at (λ g. Decides false (HasPlan g left arm false at))
      → ForArms blocks part list end (λ g. Decides false (HasArms g left part list end (list + 1)))
  next_stops inner = arms_stop blocks left part list end at low tracks up after before
      (subst (λ (p : Part). ForEach blocks p at (λ g. Decides false (HasPlan g left p false at))) arm_is inner)

pub arms_end_there : (blocks : Blocks) (left : ℕ) (part : Part) (list end at : ℕ)
    → ForArms blocks part list end (λ g. ArmsTrack g left part list end at) → at ≤ end → end ≤ at
    → ForArms blocks part list end (λ g. Decides true (HasArms g left part list end (list + 1)))
arms_end_there blocks left part list end at tracks low up = λ g seg known inside paid is.
    let e : at ≡ end = omega (arith, low, up) in
    (λ f. (tracks g seg known inside paid is).forth (done, e, omega arith), λ h. refl)
