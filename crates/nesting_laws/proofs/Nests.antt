-- The loops that begin in a planned part are nested, and what jumps from the part stays in them or leaves one of them.
use Rattle.std.proofs.Common.{◌≡◌, ◌⊎◌, inl, inr, ⊎_elim, ℕ, suc, ◌<◌, ◌≤◌, Bool, true, false, sym, subst, arith}
use Rattle.std.proofs.lemmas.Bool.{cases_lt}
use Rattle.stl_tree.specs.Segments.{IsReached}
use Rattle.stl_tree.specs.Flows.{IsInnermost, IsJump, IsLoop, Segment, blocks_of}
use Rattle.nesting_laws.specs.Plans.{Around, IsFresh, IsPlan, IsRow, Kind, Plan, arm, arms, blocks, cases, done, inside, list_arm, list_arms, loop, next, one, skip}
use Rattle.nesting_laws.proofs.Contexts.{AllLand, IsContext, all_land, arm_context, arm_of_context, arm_rest_context, arms_rest_context, body_cases, body_context, choice_behind, choice_context, choice_rest_context, ends_high, first_context, loop_rest_context, one_context, others_context, row_source, second_context, skip_context}
use Rattle.nesting_laws.proofs.Exits.{jump_leads}
use Rattle.nesting_laws.proofs.Facts.{Facts}
use Rattle.nesting_laws.proofs.Parts.{LoopLands}

-- the first block at which a loop may begin
abbrev pub first_head : Bool → ℕ → ℕ
first_head true lo = suc lo
first_head false lo = lo

low_first : (paid : Bool) (lo : ℕ) → lo ≤ first_head paid lo
low_first true lo = omega arith
low_first false lo = omega arith

fresh_head : (g : Segment) (paid : Bool) (lo h l : ℕ) → IsFresh g paid lo → IsLoop g h l → first_head paid lo ≤ h → lo < h
fresh_head g true lo h l fresh is x = x
fresh_head g false lo h l fresh is x = ⊎_elim (λ y. y)
    (λ y. absurd (omega (arith, fresh l (subst (λ h. IsJump g l h) (let e : h ≡ lo = omega arith in e) is.back), is.ordered))) (cases_lt lo h)

pub record IsNest (g : Segment) (from lo hi : ℕ) : Type 0 where
  pub apart : (h l k m : ℕ) → IsLoop g h l → IsLoop g k m → from ≤ h → h < k → k < hi → (l < k) ⊎ (m ≤ l)
  pub enters : (s t h l : ℕ) → IsJump g s t → IsLoop g h l → from ≤ h → h < hi → s < h → h < t → t ≤ l → ⊥
  pub exits : (s t h l : ℕ) → IsJump g s t → IsInnermost g h l s → lo ≤ s → s < hi → from ≤ h → LoopLands g h l t

nothing_nest : (g : Segment) (paid : Bool) (lo : ℕ) → IsNest g (first_head paid lo) lo lo
nothing_nest g paid lo = let x = low_first paid lo in record {
  apart = λ h l k m is other y z w. absurd (omega arith);
  enters = λ s t h l jump is y z w v u. omega arith;
  exits = λ s t h l jump is y z w. absurd (omega arith);
}

-- two parts, one behind the other
joined_nest : (g : Segment) (c d hi to : ℕ) (a : Around) (k : Kind) → c ≤ d → d ≤ hi → IsContext g c d to a k → IsNest g c c d → IsNest g d d hi
    → IsNest g c c hi
joined_nest g c d hi to a k x y ctx first rest = record {
  apart = λ h l k m is other z w v. ⊎_elim
      (λ i. ⊎_elim (λ j. first.apart h l k m is other z w j)
      (λ j. inl (⊎_elim (λ n. omega arith) (λ n. absurd (ctx.back l h is.back n z i)) (cases_lt l d))) (cases_lt k d))
      (λ i. rest.apart h l k m is other i w v) (cases_lt h d);
  enters = λ s t h l jump is z w v i j. ⊎_elim
      (λ k. first.enters s t h l jump is z k v i j) (λ k. rest.enters s t h l jump is k w v i j) (cases_lt h d);
  exits = λ s t h l jump is z w v. ⊎_elim (λ k. first.exits s t h l jump is z k v)
      (λ k. ⊎_elim (λ n. absurd (ctx.back l h is.around.loop.back (omega (arith, is.around.high)) v n))
      (λ n. rest.exits s t h l jump is k w n) (cases_lt h d)) (cases_lt s d);
}

-- one block more, at which no loop begins
further_nest : (g : Segment) (paid : Bool) (lo hi : ℕ) → IsFresh g paid lo → IsNest g (suc lo) (suc lo) hi → IsNest g (first_head paid lo) lo hi
further_nest g paid lo hi fresh rest = record {
  apart = λ h l k m is other z w v. rest.apart h l k m is other (fresh_head g paid lo h l fresh is z) w v;
  enters = λ s t h l jump is z w v i j. rest.enters s t h l jump is (fresh_head g paid lo h l fresh is z) w v i j;
  exits = λ s t h l jump is z w v. let n = fresh_head g paid lo h l fresh is.around.loop v in
      rest.exits s t h l jump is (omega (arith, is.around.low)) w n;
}

module _ {g : Segment} (facts : Facts g) where
  unreached_fresh : (paid : Bool) (lo : ℕ) → (IsReached (blocks_of g.flow) lo → ⊥) → IsFresh g paid lo
  unreached_fresh true lo none = tt
  unreached_fresh false lo none = λ s jump. absurd (none (facts.leads_reached s lo (jump_leads g s lo jump)))

  module _ {lo hi follow : ℕ} {a : Around} {i : Kind} (left : Bool) (l : ℕ) (ctx : IsContext g lo hi follow a i) (row : IsRow i)
      (is_loop : IsLoop g lo l) (low : l < hi)
      (land : AllLand g lo (suc l) lo (inside left lo l) blocks) (ctx' : IsContext g lo (suc l) lo (inside left lo l) blocks)
      (body : IsNest g (suc lo) lo (suc l)) (rest : IsNest g (suc l) (suc l) hi) where
    -- a loop that begins in the loop ends in it
    ends_within : (h m : ℕ) → IsLoop g h m → lo ≤ h → h ≤ l → m ≤ l
    ends_within h m is x y = ⊎_elim (λ n. omega arith) (λ n. absurd (ctx'.back m h is.back n x (omega arith))) (cases_lt m (suc l))

    same_end : (h m : ℕ) → IsLoop g h m → h ≡ lo → l ≤ m
    same_end h m is e = is.greatest l (subst (λ h. IsJump g l h) (sym e) is_loop.back)

    loop_enters : (s t h m : ℕ) → IsJump g s t → IsLoop g h m → h ≤ lo → lo ≤ h → s < h → h < t → t ≤ m → ⊥
    loop_enters s t h m jump is x y z w v =
        let p = ends_within h m is y (omega (arith, is_loop.ordered)) in
        ctx.entry s t jump (omega arith) (omega arith) (omega arith) (λ c. omega (arith, facts.before_end m h t is.back c))
        (row_source i s row) lo (omega arith) (omega arith)
        (facts.leads_reached l lo (jump_leads g l lo is_loop.back))

    loop_exits : (s t h m : ℕ) → IsJump g s t → IsLoop g h m → h ≤ lo → lo ≤ h → lo ≤ s → s ≤ l → LoopLands g h m t
    loop_exits s t h m jump is x y z w =
        let p = ends_within h m is y (omega (arith, is_loop.ordered)) in let q = same_end h m is (omega arith) in
        ⊎_elim (λ n. inl (omega arith, omega arith)) (λ n. inr (⊎_elim (λ e. inl (omega arith)) inr n))
        (body_cases g left lo l land s t jump z w is_loop.ordered)

    loop_nest : IsNest g lo lo hi
    loop_nest = record {
      apart = λ h m k n is other z w v. ⊎_elim
          (λ i. ⊎_elim
          (λ j. ⊎_elim (λ o. body.apart h m k n is other o w (omega arith))
          (λ o. inr (let p = same_end h m is (omega arith) in let q = ends_within k n other (omega arith) (omega arith) in omega arith)) (cases_lt lo h))
          (λ j. inl (let p = ends_within h m is z (omega arith) in omega arith)) (cases_lt k (suc l)))
          (λ i. rest.apart h m k n is other i w v) (cases_lt h (suc l));
      enters = λ s t h m jump is z w v i j. ⊎_elim
          (λ k. ⊎_elim (λ o. body.enters s t h m jump is o k v i j) (λ o. loop_enters s t h m jump is o z v i j) (cases_lt lo h))
          (λ k. rest.enters s t h m jump is k w v i j) (cases_lt h (suc l));
      exits = λ s t h m jump is z w v. ⊎_elim
          (λ k. ⊎_elim (λ o. body.exits s t h m jump is z k o)
          (λ o. loop_exits s t h m jump is.around.loop o v z (omega arith)) (cases_lt lo h))
          (λ k. ⊎_elim (λ o. absurd (let p = ends_within h m is.around.loop v (omega arith) in omega (arith, is.around.high)))
          (λ o. rest.exits s t h m jump is k w o) (cases_lt h (suc l))) (cases_lt s (suc l));
    }

  -- whether the first block is paid or not
  paid_nest : (paid : Bool) (lo hi : ℕ) → IsNest g lo lo hi → IsNest g (first_head paid lo) lo hi
  paid_nest paid lo hi nest = let x = low_first paid lo in record {
    apart = λ h l k m is other y z w. nest.apart h l k m is other (omega arith) z w;
    enters = λ s t h l jump is y z w v u. nest.enters s t h l jump is (omega arith) z w v u;
    exits = λ s t h l jump is y z w. nest.exits s t h l jump is y z (omega arith);
  }

  pub plan_nest : (plan : Plan) (paid : Bool) (lo hi follow : ℕ) (a : Around) (k : Kind) → IsPlan g plan paid lo hi follow a k → IsContext g lo hi follow a k
      → IsNest g (first_head paid lo) lo hi
  plan_nest done paid lo hi follow a k is ctx = subst (λ hi. IsNest g (first_head paid lo) lo hi) is (nothing_nest g paid lo)
  plan_nest (skip rest) paid lo hi follow a k (x, row, none, is) ctx =
      further_nest g paid lo hi (unreached_fresh paid lo none) (plan_nest rest false (suc lo) hi follow a k is (skip_context facts ctx row x none))
  plan_nest (one rest) paid lo hi follow a k (x, row, at, is) ctx =
      further_nest g paid lo hi at.fresh (plan_nest rest false (suc lo) hi follow a k is (one_context facts ctx row paid x at))
  plan_nest (arm t c inner rest) paid lo hi follow a k (x, row, fresh, branch, none, is, more) ctx =
      let land = all_land g inner false (suc lo) c t a k is in let land' = all_land g rest false c hi follow a k more in
      let inside_of = arm_context facts ctx row t c branch land land' in
      further_nest g paid lo hi fresh (joined_nest g (suc lo) c hi t a k branch.ahead (ends_high hi follow k t c branch.ends).0 inside_of
      (plan_nest inner false (suc lo) c t a k is inside_of)
      (plan_nest rest false c hi follow a k more (arm_rest_context facts ctx row t c branch land land')))
  plan_nest (arms t u c first second rest) paid lo hi follow a k (x, row, fresh, branch, other, is, is', more) ctx =
      let land = all_land g first false (suc lo) t u a blocks is in let land' = all_land g second false t c u a k is' in
      let land'' = all_land g rest false c hi follow a k more in
      let one = first_context facts ctx row t branch u c other land land' land'' in
      let two = second_context facts ctx row t branch u c other land land' land'' in
      further_nest g paid lo hi fresh (joined_nest g (suc lo) t hi u a blocks branch.ahead (ends_high hi follow k t t branch.ends).0 one
      (plan_nest first false (suc lo) t u a blocks is one)
      (joined_nest g t c hi u a k (omega (arith, other.ahead)) (ends_high hi follow k u c other.ends).0 two (plan_nest second false t c u a k is' two)
      (plan_nest rest false c hi follow a k more (arms_rest_context facts ctx row t branch u c other land land' land''))))
  plan_nest (loop left l body rest) paid lo hi follow a k (row, opened, leaves, is, more) ctx =
      let land = all_land g body true lo (suc l) lo (inside left lo l) blocks is in let land' = all_land g rest false (suc l) hi follow a k more in
      let inside_of = body_context facts ctx row left l opened.loop opened.within land land' in
      subst (λ p. IsNest g (first_head p lo) lo hi) (sym opened.free)
      (loop_nest left l ctx row opened.loop opened.within land inside_of (plan_nest body true lo (suc l) lo (inside left lo l) blocks is inside_of)
      (plan_nest rest false (suc l) hi follow a k more (loop_rest_context facts ctx row left l opened.loop opened.within land land')))
  plan_nest (cases e inner rest) paid lo hi follow a k (x, row, fresh, choice, is, more) ctx =
      let land = all_land g inner false (suc lo) e e a (list_arms lo) is in let land' = all_land g rest false e hi follow a k more in
      let inside_of = choice_context facts ctx row e choice land land' in
      further_nest g paid lo hi fresh (joined_nest g (suc lo) e hi e a (list_arms lo) (choice_behind choice) choice.within inside_of
      (plan_nest inner false (suc lo) e e a (list_arms lo) is inside_of)
      (plan_nest rest false e hi follow a k more (choice_rest_context facts ctx row e choice land land')))
  plan_nest (next d inner others) paid lo hi follow a blocks is ctx = absurd is
  plan_nest (next d inner others) paid lo hi follow a list_arm is ctx = absurd is
  plan_nest (next d inner others) paid lo hi follow a (list_arms x) (q, here, is, more) ctx =
      let land = all_land g inner false lo d follow a list_arm is in let land' = all_land g others false d hi follow a (list_arms x) more in
      let inside_of = arm_of_context facts ctx d here q land' in
      paid_nest paid lo hi (joined_nest g lo d hi follow a list_arm (omega (arith, here.some)) here.within inside_of
      (plan_nest inner false lo d follow a list_arm is inside_of)
      (plan_nest others false d hi follow a (list_arms x) more (others_context facts ctx d here q land)))
