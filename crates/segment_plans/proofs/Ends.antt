-- Where a plan has the end of the arms of a jump list, it is found.
use Rattle.std.proofs.Common.{◌≡◌, ◌⊎◌, ℕ, suc, ◌+◌, ◌-◌, ◌<◌, ◌≤◌, Bool, true, false, Some, inl, inr, ⊎_elim, sym, subst, arith}
use Rattle.std.proofs.lemmas.Bool.{cases_lt}
use Rattle.stl_tree.specs.Flows.{IsEndBlock, IsJump, Segment}
use Rattle.stl_tree.specs.WellNested.{IsTarget}
use Rattle.nesting_laws.specs.Plans.{Around, IsChoice, IsPlan, IsWayOut, Kind, Plan, arm, arms, blocks as in_blocks, cases, done, inside, list_arm, list_arms, loop, next, one, skip}
use Rattle.nesting_laws.proofs.Cases.{of_four}
use Rattle.nesting_laws.proofs.Contexts.{ends_high}
use Rattle.nesting_laws.proofs.Exits.{jump_leads, made_no_list}
use Rattle.nesting_laws.proofs.ListPlans.{IsArmAt, arm_at}
use Rattle.segment_plans.specs.Arms.{arms_end, jump_over, last_target}
use Rattle.segment_plans.specs.Planned.{around_of}
use Rattle.segment_plans.specs.declared.blocks.Blocks.{Blocks}
use Rattle.segment_plans.specs.declared.planning.Around.{Around as Loop}
use Rattle.segment_plans.proofs.Overs.{IsOver, IsSomeOver, over_found, over_is, over_sound}
use Rattle.segment_plans.proofs.Site.{IsSite}
use Rattle.segment_plans.proofs.Targets.{last_most, last_target_is}

moved : (g : Segment) (lo b t : ℕ) → lo ≤ b → b ≤ lo → IsTarget g b t → IsTarget g lo t
moved g lo b t x y is = subst (λ n. IsTarget g n t) (let e : b ≡ lo = omega arith in e) is

-- a jump list of a planned part leads no further than to its end
list_low : (g : Segment) (plan : Plan) (paid : Bool) (lo hi follow : ℕ) (a : Around) (k : Kind) → IsPlan g plan paid lo hi follow a k
    → (b t : ℕ) → lo ≤ b → b < hi → IsTarget g b t → t ≤ hi
list_low g done paid lo hi follow a k is b t x y target = absurd (omega arith)
list_low g (skip rest) paid lo hi follow a k (z, row, none, is) b t x y target = ⊎_elim
    (λ i. list_low g rest false (suc lo) hi follow a k is b t i y target)
    (λ i. absurd (none (moved g lo b t x i target).list.2.0.reached)) (cases_lt lo b)
list_low g (one rest) paid lo hi follow a k (z, row, at, is) b t x y target = ⊎_elim
    (λ i. list_low g rest false (suc lo) hi follow a k is b t i y target)
    (λ i. absurd (at.no_list (moved g lo b t x i target).list)) (cases_lt lo b)
list_low g (arm u c inner rest) paid lo hi follow a k (z, row, fresh, branch, none, is, more) b t x y target =
    let top = (ends_high hi follow k u c branch.ends).0 in ⊎_elim
    (λ i. ⊎_elim
    (λ j. let m = list_low g inner false (suc lo) c u a k is b t i j target in omega arith)
    (λ j. list_low g rest false c hi follow a k more b t j y target) (cases_lt b c))
    (λ i. absurd (made_no_list g lo u branch.jump (moved g lo b t x i target).list)) (cases_lt lo b)
list_low g (arms u v c first second rest) paid lo hi follow a k (z, row, fresh, branch, other, is, is', more) b t x y target =
    let far = other.ahead in let top = (ends_high hi follow k v c other.ends).0 in ⊎_elim
    (λ i. ⊎_elim
    (λ j. let m = list_low g first false (suc lo) u v a in_blocks is b t i j target in omega arith)
    (λ j. ⊎_elim
    (λ n. let m = list_low g second false u c v a k is' b t j n target in omega arith)
    (λ n. list_low g rest false c hi follow a k more b t n y target) (cases_lt b c)) (cases_lt b u))
    (λ i. absurd (made_no_list g lo u branch.jump (moved g lo b t x i target).list)) (cases_lt lo b)
list_low g (loop left l body rest) paid lo hi follow a k (row, opened, leaves, is, more) b t x y target =
    let low = opened.within in ⊎_elim
    (λ i. let m = list_low g body true lo (suc l) lo (inside left lo l) in_blocks is b t x i target in omega arith)
    (λ i. list_low g rest false (suc l) hi follow a k more b t i y target) (cases_lt b (suc l))
list_low g (cases e inner rest) paid lo hi follow a k (z, row, fresh, choice, is, more) b t x y target =
    let top = choice.within in ⊎_elim
    (λ i. ⊎_elim
    (λ j. let m = list_low g inner false (suc lo) e e a (list_arms lo) is b t i j target in omega arith)
    (λ j. list_low g rest false e hi follow a k more b t j y target) (cases_lt b e))
    (λ i. omega (arith, (choice.after t (moved g lo b t x i target)).1)) (cases_lt lo b)
list_low g (next d inner others) paid lo hi follow a in_blocks is b t x y target = absurd is
list_low g (next d inner others) paid lo hi follow a list_arm is b t x y target = absurd is
list_low g (next d inner others) paid lo hi follow a (list_arms v) (q, here, is, more) b t x y target =
    let top = here.within in ⊎_elim
    (λ i. let m = list_low g inner false lo d follow a list_arm is b t x i target in omega arith)
    (λ i. list_low g others false d hi follow a (list_arms v) more b t i y target) (cases_lt b d)

-- one in an arm before the last one leads no further than to that
chain_low : (g : Segment) (plan : Plan) (paid : Bool) (lo e : ℕ) (a : Around) (x w : ℕ) → IsPlan g plan paid lo e e a (list_arms x) → IsTarget g x w
    → (b t : ℕ) → lo ≤ b → b < w → w ≤ e → IsTarget g b t → t ≤ w
chain_low g done paid lo e a x w is last b t y z v target = let q : lo ≡ e = is in absurd (omega arith)
chain_low g (skip rest) paid lo e a x w is last b t y z v target = absurd is.1
chain_low g (one rest) paid lo e a x w is last b t y z v target = absurd is.1
chain_low g (arm u c inner rest) paid lo e a x w is last b t y z v target = absurd is.1
chain_low g (arms u n c first second rest) paid lo e a x w is last b t y z v target = absurd is.1
chain_low g (loop left l body rest) paid lo e a x w is last b t y z v target = absurd is.0
chain_low g (cases d inner rest) paid lo e a x w is last b t y z v target = absurd is.1
chain_low g (next d inner others) paid lo e a x w (q, here, is, more) last b t y z v target = ⊎_elim
    (λ i. let m = list_low g inner false lo d e a list_arm is b t y i target in
    ⊎_elim (λ j. absurd (omega arith)) (λ j. omega arith) (here.alone w last))
    (λ i. chain_low g others false d e a x w more last b t i z v target) (cases_lt b d)

-- where a plan has the end of all arms, it is found
module _ (g : Segment) (blocks : Blocks) (site : IsSite g blocks) (a : Loop) (at hi follow e : ℕ) (inner : Plan) (top : hi ≤ g.past)
    (choice : IsChoice g at hi follow (around_of a) e) (plan : IsPlan g inner false (suc at) e e (around_of a) (list_arms at)) where
  abbrev w : ℕ
  w = last_target blocks at

  last : IsTarget g at (last_target blocks at)
  last = last_target_is g blocks site at choice.list

  most : (t : ℕ) → IsTarget g at t → t ≤ w
  most = last_most g blocks site at choice.list

  low : at < w
  low = (choice.after w last).0

  high : w ≤ e
  high = (choice.after w last).1

  up : e ≤ g.past
  up = omega (arith, choice.within, top)

  all : (s t : ℕ) → at + 1 ≤ s → s < at + 1 + (w - (at + 1)) → jump_over blocks a w s ≡ Some t → t ≡ e
  all s t x y q =
      let z : at < w = low in
      let below : s < w = omega (arith, y, z) in
      let far : w ≤ e = high in
      let is = over_sound g blocks site a w s (omega (arith, x, choice.list.2.0.low)) (omega (arith, below, far, up)) t q in
      by is (arm_at g inner false (suc at) e (around_of a) at plan s (omega (arith, x)) (omega (arith, below, far))) below
    where
      by : IsOver g a w s t → IsArmAt g at e (around_of a) s → s < w → t ≡ e
      by is here below = of_four
          (λ i. absurd (⊎_elim (λ j. omega (arith, here.low)) (λ j. omega (arith, i.1, is.over)) (here.next.alone w last)))
          (λ h. absurd (is.free (inl h))) (λ h. absurd (is.free (inr h))) (λ h. h.0)
          (here.land s t (jump_leads g s t is.jump) here.low here.high)

  some : (e ≡ w) ⊎ IsSomeOver blocks a w (at + 1) (w - (at + 1)) e
  some = by choice.ends (cases_lt w e)
    where
      over : (s t : ℕ) → IsTarget g at t → at < s → s < t → IsJump g s e → (IsWayOut (around_of a) e → ⊥) → (IsEndBlock g.flow e → ⊥) → w < e
          → IsSomeOver blocks a w (at + 1) (w - (at + 1)) e
      over s t target x y jump stays free far =
          let m : t ≤ w = most t target in
          let z : at < w = low in
          let h : w ≤ e = high in (
            s,
            omega (arith, x),
            omega (arith, y, m, z),
            over_found g blocks site a w s (omega (arith, x, choice.list.2.0.low)) (omega (arith, y, m, h, up)) e (record {
              jump = jump;
              over = far;
              free = λ o. ⊎_elim stays free o;
              single = λ list. let n = chain_low g inner false (suc at) e (around_of a) at w plan last s e (omega (arith, x)) (omega (arith, y, m)) h
                  (record { list = list; jump = jump }) in omega (arith, n, far);
            }),
          )

      by : IsTarget g at e ⊎ ((s : ℕ) × (t : ℕ) × IsTarget g at t × (at < s) × (s < t) × IsJump g s e × (IsWayOut (around_of a) e → ⊥)
          × (IsEndBlock g.flow e → ⊥)) → (w < e) ⊎ (e ≤ w) → (e ≡ w) ⊎ IsSomeOver blocks a w (at + 1) (w - (at + 1)) e
      by o (inr x) = let h : w ≤ e = high in inl (omega (arith, h, x))
      by (inl is) (inl x) = let m : e ≤ w = most e is in absurd (omega (arith, m, x))
      by (inr (s, t, is, x, y, jump, stays, free)) (inl far) = inr (over s t is x y jump stays free far)

  pub ends_found : e ≡ arms_end blocks a at
  ends_found = sym (over_is blocks a (last_target blocks at) (at + 1) (last_target blocks at - (at + 1)) e all some)
