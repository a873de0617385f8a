-- The jump lists of a planned segment have their arms.
use Rattle.std.proofs.Common.{◌≡◌, ◌⊎◌, inl, inr, ⊎_elim, ℕ, suc, ◌<◌, ◌≤◌, Bool, true, false, refl, sym, subst, arith}
use Rattle.std.proofs.lemmas.Bool.{cases_eq, cases_lt}
use Rattle.stl_tree.specs.Blocks.{Way, always, stops}
use Rattle.stl_tree.specs.Segments.{IsReached}
use Rattle.stl_tree.specs.Flows.{AreNested, GoesOn, IsEndBlock, IsExitJump, IsInLoop, IsInnermost, IsJump, IsList, IsLoop, Segment, blocks_of}
use Rattle.stl_tree.specs.WellNested.{EndsArm, IsCase, IsCaseEnd, IsInArms, IsSameArm, IsTarget, IsTurn}
use Rattle.nesting_laws.specs.Plans.{Around, IsChoice, IsNextArm, IsPlan, IsRow, IsWayOut, Kind, LeadsTo, Plan, arm, arms, blocks, cases, done, inside, list_arm, list_arms, loop, next, no_loop, one, skip}
use Rattle.nesting_laws.proofs.Cases.{of_four}
use Rattle.nesting_laws.proofs.Contexts.{AllLand, IsContext, LeavesToEnd, all_land, arm_context, arm_of_context, arm_rest_context, arms_rest_context, body_context, choice_behind, choice_context, choice_rest_context, ends_high, first_context, loop_rest_context, one_context, others_context, row_source, second_context, skip_context, way_far}
use Rattle.nesting_laws.proofs.Exits.{always_jumps, jump_leads, made_no_list, same_way}
use Rattle.nesting_laws.proofs.Facts.{Facts, innermost, same_last}
use Rattle.nesting_laws.proofs.Parts.{IsAround, LoopLands}

-- the loops of a segment are nested, and jumps enter them at their heads and leave them for the blocks behind
pub record HasLoops (g : Segment) : Type 0 where
  pub loops : (h l k m : ℕ) → IsLoop g h l → IsLoop g k m → AreNested h l k m
  pub entries : (s t h l : ℕ) → IsJump g s t → IsInLoop g h l t → IsInLoop g h l s ⊎ (t ≡ h)
  pub exits : (s t h l : ℕ) → IsJump g s t → IsInnermost g h l s → LoopLands g h l t

-- the arm of a list in which a block stands
pub record IsArmAt (g : Segment) (x e : ℕ) (a : Around) (b : ℕ) : Type 0 where
  pub begin : ℕ
  pub past : ℕ
  pub next : IsNextArm g x begin e past
  pub low : begin ≤ b
  pub high : b < past
  pub land : AllLand g begin past e a list_arm

pub arm_at : (g : Segment) (plan : Plan) (paid : Bool) (lo e : ℕ) (a : Around) (x : ℕ) → IsPlan g plan paid lo e e a (list_arms x) → (b : ℕ) → lo ≤ b → b < e
    → IsArmAt g x e a b
arm_at g done paid lo e a x is b y z = absurd (omega arith)
arm_at g (skip rest) paid lo e a x is b y z = absurd is.1
arm_at g (one rest) paid lo e a x is b y z = absurd is.1
arm_at g (arm t c inner rest) paid lo e a x is b y z = absurd is.1
arm_at g (arms t u c first second rest) paid lo e a x is b y z = absurd is.1
arm_at g (loop left l body rest) paid lo e a x is b y z = absurd is.0
arm_at g (cases d inner rest) paid lo e a x is b y z = absurd is.1
arm_at g (next d inner others) paid lo e a x (q, here, is, more) b y z = ⊎_elim
    (λ i. record { begin = lo; past = d; next = here; low = y; high = i; land = all_land g inner false lo d e a list_arm is })
    (λ i. arm_at g others false d e a x more b i z) (cases_lt b d)

module _ {g : Segment} (facts : Facts g) (looped : HasLoops g) where
  -- a way out of the loop around is the next turn of the innermost loop, or leaves that
  way_exit : (a : Around) (lo hi b v : ℕ) → IsAround g a lo hi → IsJump g b v → lo ≤ b → b < hi → IsWayOut a v
      → IsTurn g b v ⊎ (IsExitJump g b v ⊎ IsEndBlock g.flow v)
  way_exit no_loop lo hi b v o jump x y w = absurd w
  way_exit (inside left k l) lo hi b v (around, i, j) jump x y w =
      by (innermost facts b k l (record { loop = around; low = omega arith; high = omega arith })) w
    where
      by : (h : ℕ) × (m : ℕ) × IsInnermost g h m b → (v ≡ k) ⊎ ((left ≡ true) × (v ≡ suc l)) → IsTurn g b v ⊎ (IsExitJump g b v ⊎ IsEndBlock g.flow v)
      by (h, m, is) (inl e) = let n = is.inner k l (record { loop = around; low = omega arith; high = omega arith }) in
          ⊎_elim (λ o. inl (m, subst (λ h. IsInnermost g h m b) (let q : h ≡ v = omega arith in q) is))
          (λ o. ⊎_elim (λ q. absurd (omega (arith, is.around.high))) (λ q. inr (inr q)) o) (looped.exits b v h m jump is)
      by (h, m, is) (inr e) = ⊎_elim (λ o. absurd (over o.1)) (λ o. ⊎_elim (λ q. inr (inl (h, m, is, q))) (λ q. inr (inr q)) o) (looped.exits b v h m jump is)
        where
          over : v ≤ m → ⊥
          over z = let n = is.inner k l (record { loop = around; low = omega arith; high = omega arith }) in let q = e.1 in
              ⊎_elim (λ o. omega (arith, is.around.low)) (λ o. ⊎_elim (λ o. omega (arith, is.around.high)) (λ o. ⊎_elim (λ o. omega arith)
              (λ o. let f = same_last facts k l h m around is.around.loop (omega arith) in omega arith) o) o) (looped.loops k l h m around is.around.loop)

  module _ (x hi follow : ℕ) (a : Around) (k : Kind) (ctx : IsContext g x hi follow a k) (row : IsRow k) (e : ℕ) (choice : IsChoice g x hi follow a e)
      (at : (b : ℕ) → suc x ≤ b → b < e → IsArmAt g x e a b) (land : AllLand g e hi follow a k) where
    behind : x < e
    behind = choice_behind choice

    low_arms : (b : ℕ) → IsInArms g x e b → x < b
    low_arms b is = omega (arith, (choice.after is.begin is.target).0, is.low)

    end_led : (s : ℕ) × LeadsTo g s e
    end_led = ⊎_elim (λ t. (x, jump_leads g x e t.jump)) (λ h. (h.0, jump_leads g h.0 e h.5)) choice.ends

    -- no block before the end is that of the end word alone
    no_end : (t : ℕ) → t < e → IsEndBlock g.flow t → ⊥
    no_end t y end = let (s, lead) = end_led in omega (arith, facts.up_to_end s e t lead end)

    arms_in : (b : ℕ) → x < b → b < e → IsInArms g x e b
    arms_in b y z = let here = at b y z in record { begin = here.begin; target = here.next.begins; low = here.low; high = z }

    same_arm : (b t : ℕ) → (here : IsArmAt g x e a b) → here.begin ≤ t → t < here.past → IsSameArm g x b t
    same_arm b t here y z u is = (
      λ v. ⊎_elim (λ i. omega arith) (λ i. absurd (omega (arith, here.high))) (here.next.alone u is),
      λ v. ⊎_elim (λ i. omega (arith, here.low)) (λ i. absurd (omega arith)) (here.next.alone u is),
    )

    way_apart : (t : ℕ) → x < t → t < e → IsWayOut a t → ⊥
    way_apart t y z w = let top = choice.within in ⊎_elim (λ i. omega arith) (λ i. omega arith) (way_far g a x hi t ctx.around w)

    closed : (b u t : ℕ) (way : Way) → IsTarget g x u → IsTarget g x t → u < t → suc b ≡ t → GoesOn g b way → EndsArm g e b way
    closed b u t way is other y z goes =
        let low = (choice.after u is).0 in let high = (choice.after t other).1 in
        ⊎_elim (λ end. subst (λ way. EndsArm g e b way) (same_way g b stops way end goes) tt)
        (λ (v, made). subst (λ way. EndsArm g e b way) (same_way g b (always v) way made goes) (by v made (at b (omega arith) (omega arith))))
        (choice.closed b t other (omega arith) z goes.0)
      where
        by : (v : ℕ) → GoesOn g b (always v) → IsArmAt g x e a b → EndsArm g e b (always v)
        by v made here = let jump = always_jumps g b v made in let high = (choice.after t other).1 in let top = choice.within in
            let low = (choice.after u is).0 in of_four
            (λ i. inr (inl (⊎_elim (λ j. absurd (omega (arith, here.low))) (λ j. omega (arith, i.1)) (here.next.alone t other))))
            (λ w. inr (⊎_elim (λ turn. inl turn.1.around.low) inr (way_exit a x hi b v ctx.around jump (omega arith) (omega arith) w)))
            (λ end. inr (inr (inr end))) (λ f. inl f.0) (here.land b v (jump_leads g b v jump) here.low here.high)

    entries : (s t : ℕ) → IsJump g s t → IsInArms g x e t → (s ≡ x) ⊎ (IsInArms g x e s × IsSameArm g x s t)
    entries s t jump is = let low = low_arms t is in let high = is.high in ⊎_elim
        (λ y. absurd (before y)) (λ y. ⊎_elim inl (λ n. ⊎_elim (λ z. inr (inner (omega arith) z)) (λ z. absurd (after z)) (cases_lt s e)) (cases_eq s x))
        (cases_lt s x)
      where
        before : s < x → ⊥
        before y = let low = low_arms t is in let top = choice.within in
            ctx.entry s t jump y low (omega (arith, is.high)) (no_end t is.high) (row_source k s row) x (omega arith) low choice.list.2.0.reached

        inner : x < s → s < e → IsInArms g x e s × IsSameArm g x s t
        inner y z = let here = at s y z in let low = low_arms t is in of_four
            (λ i. (arms_in s y z, same_arm s t here i.0 i.1)) (λ w. absurd (way_apart t low is.high w))
            (λ end. absurd (no_end t is.high end)) (λ f. absurd (omega (arith, f.0, is.high))) (here.land s t (jump_leads g s t jump) here.low here.high)

        after : e ≤ s → ⊥
        after y = let low = low_arms t is in let high = is.high in let top = choice.within in ⊎_elim
            (λ z. of_four (λ i. omega (arith, i.0)) (λ w. way_apart t low high w) (λ end. no_end t high end)
            (λ f. ⊎_elim (λ i. omega (arith, f.0)) (λ i. omega (arith, f.0)) ctx.far) (land s t (jump_leads g s t jump) y z))
            (λ z. ctx.back s t jump z (omega arith) (omega arith)) (cases_lt s hi)

    exits : (s t : ℕ) → IsJump g s t → IsInArms g x e s
        → (IsInArms g x e t × IsSameArm g x s t) ⊎ ((t ≡ e) ⊎ (IsTurn g s t ⊎ (IsExitJump g s t ⊎ IsEndBlock g.flow t)))
    exits s t jump is = let low = low_arms s is in let high = is.high in let top = choice.within in
        let here = at s low high in let begins = (choice.after here.begin here.next.begins).0 in of_four
        (λ i. inl (arms_in t (omega arith) (omega (arith, i.1, here.next.within)), same_arm s t here i.0 i.1))
        (λ w. inr (inr (⊎_elim inl inr (way_exit a x hi s t ctx.around jump (omega arith) (omega arith) w))))
        (λ end. inr (inr (inr (inr end)))) (λ f. inr (inl f.0)) (here.land s t (jump_leads g s t jump) here.low here.high)

    -- a loop that begins before the list and ends in its arms is the one around, which ends with the arms at the earliest
    around_last : (h l : ℕ) → IsLoop g h l → h ≤ x → x < l → l < e → (left : Bool) × (a ≡ inside left h l)
    around_last h l is y z w = let here = at l z w in let begins = (choice.after here.begin here.next.begins).0 in of_four
        (λ i. absurd (omega (arith, i.0))) (λ way. by a ctx.around way) (λ end. absurd (omega (arith, facts.before_end l h h is.back end)))
        (λ f. absurd (omega (arith, f.0))) (here.land l h (jump_leads g l h is.back) here.low here.high)
      where
        by : (a' : Around) → IsAround g a' x hi → IsWayOut a' h → (left : Bool) × (a' ≡ inside left h l)
        by no_loop o way = absurd way
        by (inside left i m) (other, u, v) (inl q) = let p = same_last facts h l i m is other (omega arith) in
            let r = same_last facts i m h l other is (omega arith) in
            let f : i ≡ h = omega arith in
            let n : m ≡ l = omega arith in (left, subst (λ h. inside left i m ≡ inside left h l) f (subst (λ l. inside left i m ≡ inside left i l) n refl))
        by (inside left i m) (other, u, v) (inr q) = let top = choice.within in absurd (omega (arith, q.1, behind))

    loops : (h l b : ℕ) → IsInLoop g h l x → IsInArms g x e b → b ≤ l
    loops h l b is other = ⊎_elim (λ y. absurd (over y)) (λ y. y) (cases_lt l b)
      where
        over : l < b → ⊥
        over y = let high = other.high in ⊎_elim (λ z. last (around_last h l is.loop is.low z (omega arith)))
            (λ z. let q : l ≡ x = omega (arith, is.high) in
            omega (arith, (choice.after h (record { list = choice.list; jump = subst (λ l. IsJump g l h) q is.loop.back })).0, is.low)) (cases_lt x l)
          where
            last : (left : Bool) × (a ≡ inside left h l) → ⊥
            last (left, q) = let top = choice.within in let around = subst (λ a. IsAround g a x hi) q ctx.around in omega (arith, around.2)

    fits : IsCase g x e
    fits = record { after = choice.after; closed = closed; entries = entries; exits = exits; loops = loops }

    least : (d : ℕ) → IsCase g x d → e ≤ d
    least d case = ⊎_elim (λ t. (case.after e t).1)
        (λ (s, t, is, y, z, jump, stays, free). ⊎_elim (λ w. absurd (earlier s t is y z jump stays free w)) (λ w. w) (cases_lt d e)) choice.ends
      where
        earlier : (s t : ℕ) → IsTarget g x t → x < s → s < t → IsJump g s e → (IsWayOut a e → ⊥) → (IsEndBlock g.flow e → ⊥) → d < e → ⊥
        earlier s t is y z jump stays free w = let high = (case.after t is).1 in ⊎_elim
            (λ i. omega (arith, i.0.high)) (λ o. ⊎_elim (λ q. omega arith) (λ o. ⊎_elim (λ turn. omega (arith, turn.1.around.low))
            (λ o. ⊎_elim exit free o) o) o)
            (case.exits s e jump (arms s y (omega arith)))
          where
            arms : (b : ℕ) → x < b → b < d → IsInArms g x d b
            arms b i j = let here = at b i (omega arith) in record { begin = here.begin; target = here.next.begins; low = here.low; high = j }

            exit : IsExitJump g s e → ⊥
            exit (h, m, inner, q) = let high = (case.after t is).1 in ⊎_elim
                (λ i. ⊎_elim (λ o. omega (arith, o.low))
                (λ r. omega (arith, inner.around.low))
                (looped.entries x t h m is.jump (record { loop = inner.around.loop; low = omega (arith, inner.around.low); high = omega arith })))
                (λ i. last (around_last h m inner.around.loop i (omega (arith, inner.around.high)) (omega arith))) (cases_lt x h)
              where
                last : (left : Bool) × (a ≡ inside left h m) → ⊥
                last (left, r) = by left r
                  where
                    by : (left : Bool) → a ≡ inside left h m → ⊥
                    by true r = stays (subst (λ a. IsWayOut a e) (sym r) (inr (refl, q)))
                    by false r = free (subst (λ e. IsEndBlock g.flow e) (sym q)
                        ((subst (λ a. LeavesToEnd g a) r ctx.left) s (subst (λ e. LeadsTo g s e) q (jump_leads g s e jump)) inner.around.low inner.around.high))

    pub case_of_choice : IsCaseEnd g x e
    case_of_choice = record { list = choice.list; fits = fits; least = least }

  -- each list of a planned part
  abbrev HasCase : ℕ → ℕ → Type 0
  HasCase hi b = (e : ℕ) × IsCaseEnd g b e × (e ≤ hi)

  wider : (d hi b : ℕ) → d ≤ hi → HasCase d b → HasCase hi b
  wider d hi b x (e, is, y) = (e, is, omega arith)

  pub list_case : (plan : Plan) (paid : Bool) (lo hi follow : ℕ) (a : Around) (k : Kind) → IsPlan g plan paid lo hi follow a k → IsContext g lo hi follow a k
      → (b : ℕ) → lo ≤ b → b < hi → IsList g b → HasCase hi b
  list_case done paid lo hi follow a k is ctx b y z list = absurd (omega arith)
  list_case (skip rest) paid lo hi follow a k (x, row, none, is) ctx b y z list = ⊎_elim
      (λ i. list_case rest false (suc lo) hi follow a k is (skip_context facts ctx row x none) b i z list)
      (λ i. absurd (none (subst (λ b. IsReached (blocks_of g.flow) b) (let e : b ≡ lo = omega arith in e) list.2.0.reached))) (cases_lt lo b)
  list_case (one rest) paid lo hi follow a k (x, row, at, is) ctx b y z list = ⊎_elim
      (λ i. list_case rest false (suc lo) hi follow a k is (one_context facts ctx row paid x at) b i z list)
      (λ i. absurd (at.no_list (subst (λ b. IsList g b) (let e : b ≡ lo = omega arith in e) list))) (cases_lt lo b)
  list_case (arm t c inner rest) paid lo hi follow a k (x, row, fresh, branch, none, is, more) ctx b y z list =
      let land = all_land g inner false (suc lo) c t a k is in let land' = all_land g rest false c hi follow a k more in ⊎_elim
      (λ i. ⊎_elim (λ j. wider c hi b (ends_high hi follow k t c branch.ends).0
      (list_case inner false (suc lo) c t a k is (arm_context facts ctx row t c branch land land') b i j list))
      (λ j. list_case rest false c hi follow a k more (arm_rest_context facts ctx row t c branch land land') b j z list) (cases_lt b c))
      (λ i. absurd (made_no_list g lo t branch.jump (subst (λ b. IsList g b) (let e : b ≡ lo = omega arith in e) list))) (cases_lt lo b)
  list_case (arms t u c first second rest) paid lo hi follow a k (x, row, fresh, branch, other, is, is', more) ctx b y z list =
      let land = all_land g first false (suc lo) t u a blocks is in let land' = all_land g second false t c u a k is' in
      let land'' = all_land g rest false c hi follow a k more in ⊎_elim
      (λ i. ⊎_elim (λ j. wider t hi b (ends_high hi follow k t t branch.ends).0
      (list_case first false (suc lo) t u a blocks is (first_context facts ctx row t branch u c other land land' land'') b i j list))
      (λ j. ⊎_elim (λ n. wider c hi b (ends_high hi follow k u c other.ends).0
      (list_case second false t c u a k is' (second_context facts ctx row t branch u c other land land' land'') b j n list))
      (λ n. list_case rest false c hi follow a k more (arms_rest_context facts ctx row t branch u c other land land' land'') b n z list) (cases_lt b c))
      (cases_lt b t))
      (λ i. absurd (made_no_list g lo t branch.jump (subst (λ b. IsList g b) (let e : b ≡ lo = omega arith in e) list))) (cases_lt lo b)
  list_case (loop left l body rest) paid lo hi follow a k (row, opened, leaves, is, more) ctx b y z list =
      let land = all_land g body true lo (suc l) lo (inside left lo l) blocks is in let land' = all_land g rest false (suc l) hi follow a k more in ⊎_elim
      (λ i. wider (suc l) hi b opened.within (list_case body true lo (suc l) lo (inside left lo l) blocks is
      (body_context facts ctx row left l opened.loop opened.within land land') b y i list))
      (λ i. list_case rest false (suc l) hi follow a k more (loop_rest_context facts ctx row left l opened.loop opened.within land land') b i z list)
      (cases_lt b (suc l))
  list_case (cases e inner rest) paid lo hi follow a k (x, row, fresh, choice, is, more) ctx b y z list =
      let land = all_land g inner false (suc lo) e e a (list_arms lo) is in let land' = all_land g rest false e hi follow a k more in ⊎_elim
      (λ i. ⊎_elim (λ j. wider e hi b choice.within
      (list_case inner false (suc lo) e e a (list_arms lo) is (choice_context facts ctx row e choice land land') b i j list))
      (λ j. list_case rest false e hi follow a k more (choice_rest_context facts ctx row e choice land land') b j z list) (cases_lt b e))
      (λ i. let q : lo ≡ b = omega arith in (
        e,
        subst (λ b. IsCaseEnd g b e) q
            (case_of_choice lo hi follow a k ctx row e choice (arm_at g inner false (suc lo) e a lo is) land'),
        choice.within,
      )) (cases_lt lo b)
  list_case (next d inner others) paid lo hi follow a blocks is ctx b y z list = absurd is
  list_case (next d inner others) paid lo hi follow a list_arm is ctx b y z list = absurd is
  list_case (next d inner others) paid lo hi follow a (list_arms x) (q, here, is, more) ctx b y z list =
      let land = all_land g inner false lo d follow a list_arm is in let land' = all_land g others false d hi follow a (list_arms x) more in ⊎_elim
      (λ i. wider d hi b here.within (list_case inner false lo d follow a list_arm is (arm_of_context facts ctx d here q land') b y i list))
      (λ i. list_case others false d hi follow a (list_arms x) more (others_context facts ctx d here q land) b i z list) (cases_lt b d)
