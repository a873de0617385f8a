-- Plain jumps from a planned part cross only as the two jumps around an ELSE do.
use Rattle.std.proofs.Common.{◌≡◌, ◌⊎◌, inl, inr, ⊎_elim, ℕ, suc, ◌<◌, ◌≤◌, Bool, true, false, refl, sym, subst, arith}
use Rattle.std.proofs.lemmas.Bool.{cases_eq, cases_lt}
use Rattle.stl_tree.specs.Segments.{IsReached}
use Rattle.stl_tree.specs.Flows.{IsIn, IsInLoop, IsJump, IsList, IsPlainJump, Segment, blocks_of}
use Rattle.stl_tree.specs.WellNested.{CountsAs, IsCaseEnd, IsElse, IsLaterArm, IsTarget}
use Rattle.nesting_laws.specs.Plans.{Around, EndsBefore, IsBare, IsBranch, IsListArm, IsOne, IsOther, IsPlan, IsRow, IsWayOut, Kind, Plan, arm, arms, blocks, cases, done, inside, list_arm, list_arms, loop, next, no_loop, one, skip}
use Rattle.nesting_laws.proofs.Cases.{of_five, of_four, of_three}
use Rattle.nesting_laws.proofs.Contexts.{AllLand, IsContext, IsSource, all_land, arm_context, arm_of_context, arm_rest_context, arms_rest_context, body_cases, body_context, choice_behind, choice_context, choice_rest_context, ends_high, first_context, from_branch, inner_cases, loop_rest_context, one_context, others_context, row_source, second_context, skip_context}
use Rattle.nesting_laws.proofs.Exits.{jump_in, jump_leads, made_no_list}
use Rattle.nesting_laws.proofs.Facts.{Facts}
use Rattle.nesting_laws.proofs.ListPlans.{HasLoops, arm_at, case_of_choice, list_case}
use Rattle.nesting_laws.proofs.Lists.{same_case_end}
use Rattle.nesting_laws.proofs.Parts.{Follows, IsAround, IsArmOf, IsOver, narrow_around}

bare_not : (g : Segment) (lo hi s : ℕ) → IsBare g lo hi → IsIn g s → lo < s → s < hi → ⊥
bare_not g lo hi s bare is x y = bare s x y is.reached

-- the jump lists around a part
pub record IsPlaced (g : Segment) (lo hi follow : ℕ) (k : Kind) : Type 0 where
  -- lists from before the part end before it, or it stands in one of their arms
  pub over : (y e : ℕ) → IsCaseEnd g y e → y < lo → (IsSource k y → ⊥) → IsOver g lo hi y e
  pub arm : IsListArm k → hi < follow → IsArmOf g lo hi follow
  pub case : (y : ℕ) → IsSource k y → IsCaseEnd g y follow

narrow_over : (g : Segment) (lo hi c d y e : ℕ) → lo ≤ c → d ≤ hi → IsOver g lo hi y e → IsOver g c d y e
narrow_over g lo hi c d y e x z (inl i) = inl (omega arith)
narrow_over g lo hi c d y e x z (inr i) =
    inr (omega (arith, i.0), λ u is. ⊎_elim (λ m. inl (omega arith)) (λ m. inr (omega arith)) (i.1 u is))

module _ {g : Segment} {lo hi follow : ℕ} {k : Kind} (placed : IsPlaced g lo hi follow k) where
  sub_placed : (c d to : ℕ) (m : Kind) → lo ≤ c → d ≤ hi → ((y e : ℕ) → IsCaseEnd g y e → lo ≤ y → y < c → (IsSource m y → ⊥) → IsOver g c d y e)
      → ((y e : ℕ) → IsCaseEnd g y e → IsSource k y → y < lo → (IsSource m y → ⊥) → IsOver g c d y e)
      → (IsListArm m → d < to → IsArmOf g c d to) → ((y : ℕ) → IsSource m y → IsCaseEnd g y to) → ((y : ℕ) → (IsSource k y) ⊎ (IsSource k y → ⊥))
      → IsPlaced g c d to m
  sub_placed c d to m x z within own is_arm case known = record {
    over = λ y e is w none. ⊎_elim
        (λ v. ⊎_elim (λ source. own y e is source v none) (λ free. narrow_over g lo hi c d y e x z (placed.over y e is v free)) (known y))
        (λ v. within y e is v w none) (cases_lt y lo);
    arm = is_arm;
    case = case;
  }

  module _ (row : IsRow k) where
    row_placed : (c d to : ℕ) (m : Kind) → lo ≤ c → d ≤ hi → ((y e : ℕ) → IsCaseEnd g y e → lo ≤ y → y < c → (IsSource m y → ⊥) → IsOver g c d y e)
        → (IsListArm m → d < to → IsArmOf g c d to) → ((y : ℕ) → IsSource m y → IsCaseEnd g y to) → IsPlaced g c d to m
    row_placed c d to m x z within is_arm case = sub_placed c d to m x z within (λ y e is source v none. absurd (row_source k y row source)) is_arm case
        (λ y. inr (λ source. row_source k y row source))

    no_case : (m : Kind) → IsRow m → (to y : ℕ) → IsSource m y → IsCaseEnd g y to
    no_case m row' to y source = absurd (row_source m y row' source)

    arm_on : (c : ℕ) → lo ≤ c → IsListArm k → hi < follow → IsArmOf g c hi follow
    arm_on c x z w = let is = placed.arm z w in record { list = is.list; case = is.case; before = omega (arith, is.before); next = is.next }

    -- the rest of a row
    rest_placed : (c : ℕ) → lo ≤ c → ((y e : ℕ) → IsCaseEnd g y e → lo ≤ y → y < c → e ≤ c) → IsPlaced g c hi follow k
    rest_placed c x ended = row_placed c hi follow k x (omega arith) (λ y e is z w none. inl (ended y e is z w)) (arm_on c x) (no_case k row follow)

    -- a later arm of a list from before the part begins behind it
    later_far : (s t d y : ℕ) → IsCaseEnd g y t → IsTarget g y d → y < lo → lo ≤ s → s < d → hi ≤ d
    later_far s t d y is target x z w = let high = (is.fits.after d target).1 in
        ⊎_elim (λ i. absurd (omega arith)) (λ i. ⊎_elim (λ j. absurd (omega arith)) (λ j. j) (i.1 d target))
        (placed.over y t is x (λ source. row_source k y row source))

    -- an arm that ends with the part
    arm_to : (c t : ℕ) (m : Kind) → lo ≤ c → EndsBefore hi follow k t c → (d : ℕ) → lo ≤ d → IsListArm m → c < t → IsArmOf g d c t
    arm_to c t m x (inl i) d z is w = absurd (omega (arith, i.0))
    arm_to c t m x (inr i) d z is w = subst (λ c. IsArmOf g d c t) (sym i.1) (subst (λ t. IsArmOf g d hi t) (sym i.0) (arm_on d z i.3 i.2))

    -- what leads to the end of an arm counts as one up to there
    most_end : (t c s d : ℕ) → EndsBefore hi follow k t c → lo ≤ s → s < c → CountsAs g s t d → d ≤ c
    most_end t c s d (inl i) x z counted = omega (arith, i.0, counted.most)
    most_end t c s d (inr i) x z counted = let is = placed.arm i.3 i.2 in let c_is = i.1 in
        let n = counted.nearest hi (
          is.list,
          subst (λ t. IsCaseEnd g is.list t)
              (sym i.0) is.case,
          is.next,
          omega (arith, is.before),
          omega arith,
        ) in omega arith

    -- or behind it, where no list inside the part ends there
    least_end : (t c s d : ℕ) → EndsBefore hi follow k t c → lo ≤ s → ((y : ℕ) → IsCaseEnd g y t → lo ≤ y → y < s → ⊥) → CountsAs g s t d → c ≤ d
    least_end t c s d ends x none counted = by (ends_high hi follow k t c ends) counted.one
      where
        by : (c ≤ hi) × ((c ≡ t) ⊎ (hi < t)) → (d ≡ t) ⊎ IsLaterArm g s t d → c ≤ d
        by h (inl e) = let top = h.0 in ⊎_elim (λ i. omega arith) (λ i. omega arith) h.1
        by h (inr (y, is, target, w, v)) = let top = h.0 in ⊎_elim (λ i. let n = later_far s t d y is target i x v in omega arith)
            (λ i. absurd (none y is i w)) (cases_lt y lo)

-- where no plain jump leaves a loop around it for the block behind
module _ {g : Segment} (facts : Facts g) (looped : HasLoops g) (stays : (k l s t : ℕ) → IsInLoop g k l s → IsPlainJump g s t → t ≡ suc l → ⊥) where
  plain_way : (a : Around) (lo hi s t : ℕ) → IsAround g a lo hi → IsPlainJump g s t → lo ≤ s → s < hi → IsWayOut a t → ⊥
  plain_way no_loop lo hi s t o is x y w = w
  plain_way (inside left k l) lo hi s t (around, z, w) is x y (inl e) = omega (arith, is.forward)
  plain_way (inside left k l) lo hi s t (around, z, w) is x y (inr e) = stays k l s t (record { loop = around; low = omega arith; high = omega arith }) is e.1

  plain_lands : (c d to : ℕ) (a : Around) (k : Kind) → IsAround g a c d → AllLand g c d to a k → (s t : ℕ) → IsPlainJump g s t → c ≤ s → s < d
      → ((c ≤ t) × (t < d)) ⊎ Follows g (IsBare g s d) d to k s t
  plain_lands c d to a k around land s t is x y = of_four inl
      (λ w. absurd (plain_way a c d s t around is x y w)) (λ w. absurd (is.no_end w)) inr (land s t (jump_leads g s t is.jump) x y)

  plain_to : (c d to : ℕ) (a : Around) (k : Kind) → IsAround g a c d → AllLand g c d to a k → (s t : ℕ) → IsPlainJump g s t → c ≤ s → s < d
      → ((c ≤ t) × (t < d)) ⊎ (t ≡ to)
  plain_to c d to a k around land s t is x y = ⊎_elim inl (λ f. inr f.0) (plain_lands c d to a k around land s t is x y)

  -- how plain jumps of a part cross
  abbrev pub Crosses : ℕ → ℕ → Type 0
  Crosses lo hi = (s1 t1 c1 s2 t2 c2 : ℕ) → IsPlainJump g s1 t1 → CountsAs g s1 t1 c1 → IsPlainJump g s2 t2 → CountsAs g s2 t2 c2
      → lo ≤ s1 → s2 < hi → s1 < s2 → s2 < c1 → c1 < c2 → IsElse g s1 c1 s2

  -- lists of a planned part end with it
  ended : (plan : Plan) (paid : Bool) (lo hi follow : ℕ) (a : Around) (k : Kind) → IsPlan g plan paid lo hi follow a k → IsContext g lo hi follow a k
      → (y e : ℕ) → IsCaseEnd g y e → lo ≤ y → y < hi → e ≤ hi
  ended plan paid lo hi follow a k is ctx y e case x z = let (d, other, low) = list_case facts looped plan paid lo hi follow a k is ctx y x z case.list in
      let q = same_case_end case other in omega arith

  module _ {lo hi follow : ℕ} {a : Around} {k : Kind} (ctx : IsContext g lo hi follow a k) (row : IsRow k) (placed : IsPlaced g lo hi follow k)
      (x : lo < hi) where
    one_crosses : (paid : Bool) → IsOne g paid lo hi follow a → (t s : ℕ) → IsPlainJump g lo t → IsIn g s → lo < s → s < hi → s < t → ⊥
    one_crosses paid at t s is there y z w = of_four
        (λ n. bare_not g lo t s n.2 there y w)
        (λ n. plain_way a lo hi lo t ctx.around is (omega arith) x n) is.no_end
        (λ n. bare_not g lo hi s n.1 there y z) (at.leads t (jump_leads g lo t is.jump))

    module _ (t u c : ℕ) (branch : IsBranch g lo hi follow a k t t) (other : IsOther g hi follow a k t u c) (land : AllLand g (suc lo) t u a blocks) where
      other_top : c ≤ hi
      other_top = (ends_high hi follow k u c other.ends).0

      other_far : t < u
      other_far = let top = other_top in ⊎_elim (λ e. omega (arith, other.ahead)) (λ e. omega (arith, other.ahead)) (ends_high hi follow k u c other.ends).1

      -- only the branch jumps to the end of its arm
      only_branch : (s : ℕ) → IsJump g s t → s < t → s ≡ lo
      only_branch s jump i = let top = other_top in let far = other_far in ⊎_elim
          (λ j. absurd (ctx.entry s t jump j branch.ahead (omega (arith, other.ahead)) branch.free (row_source k s row) lo (omega arith) branch.ahead
          branch.jump.0.reached))
          (λ j. ⊎_elim (λ e. e)
          (λ n. absurd (of_five (λ o. omega arith) (λ o. omega (arith, branch.ahead)) (λ o. omega (arith, other.ahead)) branch.free (λ o. omega arith)
          (inner_cases g lo (suc lo) t hi u a blocks ctx.around land s t jump (omega arith) i)))
          (cases_eq s lo)) (cases_lt s lo)

      only_counted : (s v : ℕ) → IsJump g s v → s < v → CountsAs g s v t → s ≡ lo
      only_counted s v jump i counted = ⊎_elim
          (λ e. only_branch s (subst (λ v. IsJump g s v) (sym e) jump) (omega arith))
          (λ (y, is, target, w, z). let q = only_branch y target.jump (omega arith) in
          absurd (made_no_list g lo t branch.jump (subst (λ y. IsList g y) q target.list))) counted.one

      -- the two jumps around an ELSE
      the_else : (s2 t2 c2 : ℕ) → IsPlainJump g s2 t2 → CountsAs g s2 t2 c2 → lo < s2 → s2 < t → t < c2 → IsElse g lo t s2
      the_else s2 t2 c2 is counted y z w = let far = other_far in ⊎_elim (λ i. absurd (omega (arith, counted.most)))
          (λ (e, o). ⊎_elim (λ f. absurd (omega arith))
          (λ o. ⊎_elim (λ f. record { first = (t, branch.jump); second = f.1; next = before f.0; alone = only_counted }) (λ f. absurd f.1) o) o)
          (plain_lands (suc lo) t u a blocks (narrow_around g a lo hi (suc lo) t (omega arith)
          (ends_high hi follow k t t branch.ends).0 ctx.around) land s2 t2 is y z)
        where
          before : IsBare g s2 t → suc s2 ≡ t
          before bare = ⊎_elim (λ j. absurd (bare_not g s2 t other.source bare other.jump.0 j (omega (arith, other.next))))
              (λ j. omega (arith, other.next)) (cases_lt s2 other.source)

  pub crossing : (plan : Plan) (paid : Bool) (lo hi follow : ℕ) (a : Around) (k : Kind) → IsPlan g plan paid lo hi follow a k → IsContext g lo hi follow a k
      → IsPlaced g lo hi follow k → Crosses lo hi
  crossing done paid lo hi follow a k is ctx placed s1 t1 c1 s2 t2 c2 p m q n x y z w v = absurd (omega arith)
  crossing (skip rest) paid lo hi follow a k (i, row, none, is) ctx placed s1 t1 c1 s2 t2 c2 p m q n x y z w v = ⊎_elim
      (λ j. crossing rest false (suc lo) hi follow a k is (skip_context facts ctx row i none)
      (rest_placed placed row (suc lo) (omega arith) (λ b e case o r. absurd (none (subst (λ b. IsReached (blocks_of g.flow) b)
      (let f : b ≡ lo = omega arith in f) case.list.2.0.reached))))
      s1 t1 c1 s2 t2 c2 p m q n j y z w v)
      (λ j. absurd (none (subst (λ s. IsReached (blocks_of g.flow) s) (let e : s1 ≡ lo = omega arith in e) (jump_in g s1 t1 p.jump).reached))) (cases_lt lo s1)
  crossing (one rest) paid lo hi follow a k (i, row, at, is) ctx placed s1 t1 c1 s2 t2 c2 p m q n x y z w v = ⊎_elim
      (λ j. crossing rest false (suc lo) hi follow a k is (one_context facts ctx row paid i at)
      (rest_placed placed row (suc lo) (omega arith) (λ b e case o r. absurd (at.no_list (subst (λ b. IsList g b)
      (let f : b ≡ lo = omega arith in f) case.list))))
      s1 t1 c1 s2 t2 c2 p m q n j y z w v)
      (λ j. absurd (one_crosses ctx row placed i paid at t1 s2 (subst (λ s. IsPlainJump g s t1) (let e : s1 ≡ lo = omega arith in e) p)
      (jump_in g s2 t2 q.jump) (omega arith) y (omega (arith, m.most))))
      (cases_lt lo s1)
  crossing (arm t c inner rest) paid lo hi follow a k (i, row, fresh, branch, none, is, more) ctx placed s1 t1 c1 s2 t2 c2 p m q n x y z w v =
      let land = all_land g inner false (suc lo) c t a k is in let land' = all_land g rest false c hi follow a k more in
      let inside_of = arm_context facts ctx row t c branch land land' in let top = (ends_high hi follow k t c branch.ends).0 in let ahead = branch.ahead in
      let single = made_no_list g lo t branch.jump in
      let placed' = row_placed placed row (suc lo) c t k (omega arith) top
      (λ b e case o r none. absurd (single (subst (λ b. IsList g b) (let f : b ≡ lo = omega arith in f) case.list)))
      (λ f r. arm_to placed row c t k (omega arith) branch.ends (suc lo) (omega arith) f r) (no_case placed row k row t) in
      ⊎_elim
      (λ j. ⊎_elim
      (λ o. ⊎_elim (λ r. crossing inner false (suc lo) c t a k is inside_of placed' s1 t1 c1 s2 t2 c2 p m q n j r z w v)
      (λ r. absurd (⊎_elim (λ f. omega (arith, m.most))
      (λ f. let d = most_end placed row t c s1 c1 branch.ends x o (subst (λ t. CountsAs g s1 t c1) f m) in omega arith)
      (plain_to (suc lo) c t a k inside_of.around land s1 t1 p j o))) (cases_lt s2 c))
      (λ o. crossing rest false c hi follow a k more (arm_rest_context facts ctx row t c branch land land')
      (rest_placed placed row c (omega arith) (λ b e case o' r. ⊎_elim (λ f. ended inner false (suc lo) c t a k is inside_of b e case f r)
      (λ f. absurd (single (subst (λ b. IsList g b) (let h : b ≡ lo = omega arith in h) case.list))) (cases_lt lo b)))
      s1 t1 c1 s2 t2 c2 p m q n o y z w v) (cases_lt s1 c))
      (λ j. absurd (
      let e : s1 ≡ lo = omega arith in let f = from_branch facts ctx row t c branch s1 t1 p.jump e in
      let d = least_end placed row t c s1 c1 branch.ends x (λ b case o r. omega arith) (subst (λ t. CountsAs g s1 t c1) f m) in
      let span = (ends_high hi follow k t c branch.ends).1 in
      let u : c1 ≤ c = most_end placed row t c s1 c1 branch.ends x (omega arith) (subst (λ t. CountsAs g s1 t c1) f m) in
      ⊎_elim (λ o. omega (arith, n.most))
      (λ o. let r = most_end placed row t c s2 c2 branch.ends (omega arith) (omega arith) (subst (λ t. CountsAs g s2 t c2) o n) in omega arith)
      (plain_to (suc lo) c t a k inside_of.around land s2 t2 q (omega arith) (omega arith))
      )) (cases_lt lo s1)
  crossing (arms t u c first second rest) paid lo hi follow a k (i, row, fresh, branch, other, is, is', more) ctx placed s1 t1 c1 s2 t2 c2 p m q n x y z w v =
      let land = all_land g first false (suc lo) t u a blocks is in let land' = all_land g second false t c u a k is' in
      let land'' = all_land g rest false c hi follow a k more in
      let one = first_context facts ctx row t branch u c other land land' land'' in
      let two = second_context facts ctx row t branch u c other land land' land'' in
      let top = (ends_high hi follow k u c other.ends).0 in let ahead = branch.ahead in let far = other.ahead in
      let single = made_no_list g lo t branch.jump in
      let lists : (b e : ℕ) → IsCaseEnd g b e → lo ≤ b → b < t → e ≤ t = λ b e case o r. ⊎_elim (λ f. ended first false
      (suc lo) t u a blocks is one b e case f r)
      (λ f. absurd (single (subst (λ b. IsList g b) (let h : b ≡ lo = omega arith in h) case.list))) (cases_lt lo b) in
      let placed1 = row_placed placed row (suc lo) t u blocks (omega arith) (omega arith)
      (λ b e case o r none. absurd (single (subst (λ b. IsList g b) (let f : b ≡ lo = omega arith in f) case.list))) (λ f r. absurd f)
      (no_case placed row blocks tt u) in
      let placed2 = row_placed placed row t c u k (omega arith) top (λ b e case o r none. inl (lists b e case o r))
      (λ f r. arm_to placed row c u k (omega arith) other.ends t (omega arith) f r) (no_case placed row k row u) in
      ⊎_elim
      (λ j. ⊎_elim
      (λ o. ⊎_elim (λ r. crossing first false (suc lo) t u a blocks is one placed1 s1 t1 c1 s2 t2 c2 p m q n j r z w v)
      (λ r. absurd (⊎_elim (λ f. omega (arith, m.most))
      (λ f.
      let d = most_end placed row u c s1 c1 other.ends x (omega arith) (subst (λ t. CountsAs g s1 t c1) f m) in
      let d' = least_end placed row u c s1 c1 other.ends x
      (λ b case h h'. let e = lists b u case h (omega arith) in ⊎_elim (λ g'. omega arith) (λ g'. omega arith) (ends_high hi follow k u c other.ends).1)
      (subst (λ t. CountsAs g s1 t c1) f m) in
      ⊎_elim (λ g'. omega (arith, n.most))
      (λ g'. let d'' = most_end placed row u c s2 c2 other.ends (omega arith) (omega arith) (subst (λ t. CountsAs g s2 t c2) g' n) in omega arith)
      (plain_to t c u a k two.around land' s2 t2 q r (omega arith)))
      (plain_to (suc lo) t u a blocks one.around land s1 t1 p j o))) (cases_lt s2 t))
      (λ o. ⊎_elim
      (λ r. ⊎_elim (λ f. crossing second false t c u a k is' two placed2 s1 t1 c1 s2 t2 c2 p m q n o f z w v)
      (λ f. absurd (⊎_elim (λ h. omega (arith, m.most))
      (λ h. let d = most_end placed row u c s1 c1 other.ends x r (subst (λ t. CountsAs g s1 t c1) h m) in omega arith)
      (plain_to t c u a k two.around land' s1 t1 p o r))) (cases_lt s2 c))
      (λ r. crossing rest false c hi follow a k more (arms_rest_context facts ctx row t branch u c other land land' land'')
      (rest_placed placed row c (omega arith) (λ b e case f h. ⊎_elim (λ l. let d = lists b e case f l in omega arith)
      (λ l. ended second false t c u a k is' two b e case l h) (cases_lt b t)))
      s1 t1 c1 s2 t2 c2 p m q n r y z w v)
      (cases_lt s1 c)) (cases_lt s1 t))
      (λ j.
      let e : s1 ≡ lo = omega arith in let f = from_branch facts ctx row t t branch s1 t1 p.jump e in
      let d = least_end placed row t t s1 c1 branch.ends x (λ b case o r. omega arith) (subst (λ t. CountsAs g s1 t c1) f m) in
      let same : c1 ≡ t = omega (arith, m.most) in
      subst (λ s. IsElse g s c1 s2) (sym e) (subst (λ t. IsElse g lo t s2) (sym same)
      (the_else ctx row placed i t u c branch other land s2 t2 c2 q n (omega arith) (omega arith) (omega arith)))) (cases_lt lo s1)
  crossing (loop left l body rest) paid lo hi follow a k (row, opened, leaves, is, more) ctx placed s1 t1 c1 s2 t2 c2 p m q n x y z w v =
      let land = all_land g body true lo (suc l) lo (inside left lo l) blocks is in let land' = all_land g rest false (suc l) hi follow a k more in
      let inside_of = body_context facts ctx row left l opened.loop opened.within land land' in
      let placed' = row_placed placed row lo (suc l) lo blocks (omega arith) opened.within (λ b e case o r none. absurd (omega arith)) (λ f r. absurd f)
      (no_case placed row blocks tt lo) in
      ⊎_elim
      (λ j. ⊎_elim (λ o. crossing body true lo (suc l) lo (inside left lo l) blocks is inside_of placed' s1 t1 c1 s2 t2 c2 p m q n x o z w v)
      (λ o. absurd (of_three (λ f. omega (arith, m.most))
      (λ f. omega (arith, m.most)) p.no_end (body_cases g left lo l land s1 t1 p.jump x (omega arith) opened.loop.ordered)))
      (cases_lt s2 (suc l)))
      (λ j. crossing rest false (suc l) hi follow a k more (loop_rest_context facts ctx row left l opened.loop opened.within land land')
      (rest_placed placed row (suc l) (omega (arith, opened.loop.ordered))
      (λ b e case o r. ended body true lo (suc l) lo (inside left lo l) blocks is inside_of b e case o r))
      s1 t1 c1 s2 t2 c2 p m q n j y z w v)
      (cases_lt s1 (suc l))
  crossing (cases e inner rest) paid lo hi follow a k (i, row, fresh, choice, is, more) ctx placed s1 t1 c1 s2 t2 c2 p m q n x y z w v =
      let land = all_land g inner false (suc lo) e e a (list_arms lo) is in let land' = all_land g rest false e hi follow a k more in
      let inside_of = choice_context facts ctx row e choice land land' in
      let case = case_of_choice facts looped lo hi follow a k ctx row e choice (arm_at g inner false (suc lo) e a lo is) land' in
      let behind = choice_behind choice in let top = choice.within in
      let placed' = row_placed placed row (suc lo) e e (list_arms lo) (omega arith) top (λ b d other o r none. absurd (none (omega arith))) (λ f r. absurd f)
      (λ b source. subst (λ b. IsCaseEnd g b e) (sym source) case) in
      ⊎_elim
      (λ j. ⊎_elim
      (λ o. ⊎_elim (λ r. crossing inner false (suc lo) e e a (list_arms lo) is inside_of placed' s1 t1 c1 s2 t2 c2 p m q n j r z w v)
      (λ r. absurd (⊎_elim (λ f. omega (arith, m.most)) (λ f. omega (arith, m.most))
      (plain_to (suc lo) e e a (list_arms lo) inside_of.around land s1 t1 p j o))) (cases_lt s2 e))
      (λ o. crossing rest false e hi follow a k more (choice_rest_context facts ctx row e choice land land')
      (rest_placed placed row e (omega arith) (λ b d other o' r. ⊎_elim (λ f. ended inner false (suc lo) e e a (list_arms lo) is inside_of b d other f r)
      (λ f. let h : b ≡ lo = omega arith in let g' = same_case_end (subst (λ b. IsCaseEnd g b d) h other) case in omega arith) (cases_lt lo b)))
      s1 t1 c1 s2 t2 c2 p m q n o y z w v) (cases_lt s1 e))
      (λ j. absurd (p.no_list (subst (λ b. IsList g b) (let f : lo ≡ s1 = omega arith in f) choice.list))) (cases_lt lo s1)
  crossing (next d inner others) paid lo hi follow a blocks is ctx placed s1 t1 c1 s2 t2 c2 p m q n x y z w v = absurd is
  crossing (next d inner others) paid lo hi follow a list_arm is ctx placed s1 t1 c1 s2 t2 c2 p m q n x y z w v = absurd is
  crossing (next d inner others) paid lo hi follow a (list_arms b) (e, here, is, more) ctx placed s1 t1 c1 s2 t2 c2 p m q n x y z w v =
      let land = all_land g inner false lo d follow a list_arm is in let land' = all_land g others false d hi follow a (list_arms b) more in
      let inside_of = arm_of_context facts ctx d here e land' in let case = placed.case b refl in let low = (ctx.early b refl).0 in
      let top = here.within in let some = here.some in
      let known : (y : ℕ) → (y ≡ b) ⊎ (y ≡ b → ⊥) = λ y. cases_eq y b in
      let placed1 = sub_placed placed lo d follow list_arm (omega arith) top (λ o r other f h none. absurd (omega arith))
      (λ o r other source f none. let l = same_case_end (subst (λ o. IsCaseEnd g o r) source other) case in
      inr (omega arith, λ u target. here.alone u (subst (λ o. IsTarget g o u) source target)))
      (λ f h. record { list = b; case = case; before = low; next = ⊎_elim (λ target. target) (λ l. absurd (omega arith)) here.ends })
      (λ o source. absurd source) known in
      let placed2 = sub_placed placed d hi follow (list_arms b) (omega arith) (omega arith)
      (λ o r other f h none. inl (ended inner false lo d follow a list_arm is inside_of o r other f h))
      (λ o r other source f none. absurd (none source)) (λ f h. absurd f) placed.case known in
      ⊎_elim
      (λ j. ⊎_elim (λ o. crossing inner false lo d follow a list_arm is inside_of placed1 s1 t1 c1 s2 t2 c2 p m q n x o z w v)
      (λ o. absurd (⊎_elim (λ f. omega (arith, m.most))
      (λ f. ⊎_elim (λ target. let h = m.nearest d (b, subst (λ t. IsCaseEnd g b t) (sym f) case, target, omega arith, j) in omega arith)
      (λ l. omega (arith, m.most)) here.ends)
      (plain_to lo d follow a list_arm inside_of.around land s1 t1 p x j))) (cases_lt s2 d))
      (λ j. crossing others false d hi follow a (list_arms b) more (others_context facts ctx d here e land) placed2 s1 t1 c1 s2 t2 c2 p m q n j y z w v)
      (cases_lt s1 d)
