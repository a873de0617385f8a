-- A segment has one plan at most.
use Rattle.std.proofs.Common.{◌≡◌, inl, inr, ⊎_elim, ℕ, suc, ◌<◌, ◌≤◌, Bool, true, false, refl, ap, subst, sym, arith}
use Rattle.std.proofs.lemmas.Bool.{cases_lt}
use Rattle.stl_tree.specs.Blocks.{always, if_made}
use Rattle.stl_tree.specs.Flows.{GoesOn, IsLoop, Segment}
use Rattle.nesting_laws.specs.PlanLaws.{OnePlan, PlanIsLow}
use Rattle.nesting_laws.specs.Plans.{Around, EndsBefore, IsBranch, IsChoice, IsFresh, IsLeft, IsNextArm, IsOne, IsOpened, IsOther, IsPlan, IsRow, Kind, Plan, arm, arms, blocks, cases, done, inside, levels, list_arm, list_arms, loop, next, no_loop, one, skip}
use Rattle.nesting_laws.proofs.Cases.{of_four}
use Rattle.nesting_laws.proofs.Contexts.{AllLand, all_land}
use Rattle.nesting_laws.proofs.Exits.{jump_leads, made_no_list, same_way}
use Rattle.nesting_laws.proofs.Facts.{Facts, facts_of, same_last}
use Rattle.nesting_laws.proofs.Planned.{planned_is_nested_by_paths}
use Rattle.nesting_laws.proofs.Plannings.{nested_by_paths_is_planned}

abbrev rank : Plan → ℕ
rank done = 0
rank (skip rest) = 1
rank (one rest) = 2
rank (arm t c inner rest) = 3
rank (arms t u c first second rest) = 4
rank (cases e inner rest) = 5
rank (next d inner others) = 6
rank (loop left l body rest) = 7

rank_most : (p : Plan) → rank p ≤ 7
rank_most done = omega arith
rank_most p = omega arith

module _ {g : Segment} (facts : Facts g) where
  opened_below : (paid : Bool) (lo hi l : ℕ) → IsOpened g paid lo hi l → lo < hi
  opened_below paid lo hi l is = omega (arith, is.loop.ordered, is.within)

  fresh_not_opened : (paid : Bool) (lo hi l : ℕ) → IsFresh g paid lo → IsOpened g paid lo hi l → ⊥
  fresh_not_opened paid lo hi l fresh is =
      omega (arith, (subst (λ p. IsFresh g p lo) is.free fresh) l is.loop.back, is.loop.ordered)

  one_no_branch : (paid : Bool) (lo hi follow t c : ℕ) (a : Around) (k : Kind) → IsOne g paid lo hi follow a → IsBranch g lo hi follow a k t c → ⊥
  one_no_branch paid lo hi follow t c a k is branch = ⊎_elim branch.stays branch.free (is.jumps t branch.jump)

  -- a row of arms is no other part
  next_no_row : (d : ℕ) (inner others : Plan) (paid : Bool) (lo hi follow : ℕ) (a : Around) (k : Kind)
      → IsPlan g (next d inner others) paid lo hi follow a k → IsRow k → ⊥
  next_no_row d inner others paid lo hi follow a blocks is row = is
  next_no_row d inner others paid lo hi follow a list_arm is row = is
  next_no_row d inner others paid lo hi follow a (list_arms x) is row = row

  next_below : (d : ℕ) (inner others : Plan) (paid : Bool) (lo hi follow : ℕ) (a : Around) (k : Kind)
      → IsPlan g (next d inner others) paid lo hi follow a k → lo < hi
  next_below d inner others paid lo hi follow a blocks is = absurd is
  next_below d inner others paid lo hi follow a list_arm is = absurd is
  next_below d inner others paid lo hi follow a (list_arms x) (e, here, is, more) = omega (arith, here.some, here.within)

  same_jump : (lo hi follow t c u d : ℕ) (a : Around) (k : Kind) → IsBranch g lo hi follow a k t c → IsBranch g lo hi follow a k u d → t ≡ u
  same_jump lo hi follow t c u d a k x y = let e = same_way g lo (if_made t) (if_made u) x.jump y.jump in cc

  same_end : (hi follow t c d : ℕ) (k : Kind) → EndsBefore hi follow k t c → EndsBefore hi follow k t d → c ≡ d
  same_end hi follow t c d k (inl x) (inl y) = omega (arith, x.0, y.0)
  same_end hi follow t c d k (inr x) (inr y) = omega (arith, x.1, y.1)
  same_end hi follow t c d k (inl x) (inr y) = absurd (omega (arith, x.1, y.0, y.2))
  same_end hi follow t c d k (inr x) (inl y) = absurd (omega (arith, y.1, x.0, x.2))

  same_branch_end : (lo hi follow t c u d : ℕ) (a : Around) (k : Kind) → IsBranch g lo hi follow a k t c → IsBranch g lo hi follow a k u d → c ≡ d
  same_branch_end lo hi follow t c u d a k x y =
      same_end hi follow t c d k x.ends (subst (λ u. EndsBefore hi follow k u d) (sym (same_jump lo hi follow t c u d a k x y)) y.ends)

  same_other : (hi follow t u c v d : ℕ) (a : Around) (k : Kind) → IsOther g hi follow a k t u c → IsOther g hi follow a k t v d → u ≡ v
  same_other hi follow t u c v d a k x y =
      let e : y.source ≡ x.source = omega (arith, x.next, y.next) in
      let f = same_way g x.source (always u) (always v) x.jump (subst (λ s. GoesOn g s (always v)) e y.jump) in cc

  same_other_end : (hi follow t u c v d : ℕ) (a : Around) (k : Kind) → IsOther g hi follow a k t u c → IsOther g hi follow a k t v d → c ≡ d
  same_other_end hi follow t u c v d a k x y =
      same_end hi follow u c d k x.ends (subst (λ v. EndsBefore hi follow k v d) (sym (same_other hi follow t u c v d a k x y)) y.ends)

  same_loop : (lo l m : ℕ) → IsLoop g lo l → IsLoop g lo m → l ≡ m
  same_loop lo l m x y = omega (arith, same_last facts lo l lo m x y refl, same_last facts lo m lo l y x refl)

  same_left : (left right : Bool) (hi follow l : ℕ) → IsLeft hi follow l left → IsLeft hi follow l right → left ≡ right
  same_left true true hi follow l x y = refl
  same_left false false hi follow l x y = refl
  same_left true false hi follow l x y = absurd (let e = x y.0 in omega (arith, y.1))
  same_left false true hi follow l x y = absurd (let e = y x.0 in omega (arith, x.1))

  -- where the arms of a list end
  choice_below : (lo hi follow d e : ℕ) (a : Around) → IsChoice g lo hi follow a d → AllLand g (suc lo) d d a (list_arms lo)
      → IsChoice g lo hi follow a e → d < e → ⊥
  choice_below lo hi follow d e a x land y z = ⊎_elim (λ t. omega (arith, (x.after e t).1))
      (λ (s, t, is, i, j, jump, stays, free). let top = (x.after t is).1 in
      of_four (λ o. omega (arith, o.1)) stays free (λ f. omega (arith, f.0)) (land s e (jump_leads g s e jump) i (omega arith))) y.ends

  same_choice : (lo hi follow d e : ℕ) (a : Around) → IsChoice g lo hi follow a d → AllLand g (suc lo) d d a (list_arms lo)
      → IsChoice g lo hi follow a e → AllLand g (suc lo) e e a (list_arms lo) → d ≡ e
  same_choice lo hi follow d e a x land y land' = ⊎_elim (λ z. absurd (choice_below lo hi follow d e a x land y z))
      (λ z. ⊎_elim (λ w. absurd (choice_below lo hi follow e d a y land' x w)) (λ w. omega arith) (cases_lt e d)) (cases_lt d e)

  next_above : (x lo hi d e : ℕ) → IsNextArm g x lo hi d → IsNextArm g x lo hi e → d < e → ⊥
  next_above x lo hi d e p q z = let some = p.some in let top = q.within in
      ⊎_elim (λ t. ⊎_elim (λ i. omega arith) (λ i. omega arith) (q.alone d t)) (λ i. omega arith) p.ends

  same_next : (x lo hi d e : ℕ) → IsNextArm g x lo hi d → IsNextArm g x lo hi e → d ≡ e
  same_next x lo hi d e p q = ⊎_elim (λ z. absurd (next_above x lo hi d e p q z))
      (λ z. ⊎_elim (λ w. absurd (next_above x lo hi e d q p w)) (λ w. omega arith) (cases_lt e d)) (cases_lt d e)

  -- plans that begin in two ways
  plans_apart : (p q : Plan) (paid : Bool) (lo hi follow : ℕ) (a : Around) (k : Kind) → IsPlan g p paid lo hi follow a k → IsPlan g q paid lo hi follow a k
      → rank p < rank q → ⊥
  plans_apart done (loop left l body rest) paid lo hi follow a k x y z = omega (arith, opened_below paid lo hi l y.1)
  plans_apart done (skip rest) paid lo hi follow a k x y z = omega (arith, y.0)
  plans_apart done (one rest) paid lo hi follow a k x y z = omega (arith, y.0)
  plans_apart done (arm t c inner rest) paid lo hi follow a k x y z = omega (arith, y.0)
  plans_apart done (arms t u c first second rest) paid lo hi follow a k x y z = omega (arith, y.0)
  plans_apart done (cases e inner rest) paid lo hi follow a k x y z = omega (arith, y.0)
  plans_apart done (next d inner others) paid lo hi follow a k x y z = omega (arith, next_below d inner others paid lo hi follow a k y)
  plans_apart (skip more) (one rest) paid lo hi follow a k x y z = x.2 y.2.here.reached
  plans_apart (skip more) (arm t c inner rest) paid lo hi follow a k x y z = x.2 y.3.jump.0.reached
  plans_apart (skip more) (arms t u c first second rest) paid lo hi follow a k x y z = x.2 y.3.jump.0.reached
  plans_apart (skip more) (cases e inner rest) paid lo hi follow a k x y z = x.2 y.3.list.2.0.reached
  plans_apart (skip more) (loop left l body rest) paid lo hi follow a k x y z = x.2 (facts.leads_reached l lo (jump_leads g l lo y.1.loop.back))
  plans_apart (one more) (arm t c inner rest) paid lo hi follow a k x y z = one_no_branch paid lo hi follow t c a k x.2 y.3
  plans_apart (one more) (arms t u c first second rest) paid lo hi follow a k x y z = one_no_branch paid lo hi follow t t a k x.2 y.3
  plans_apart (one more) (cases e inner rest) paid lo hi follow a k x y z = x.2.no_list y.3.list
  plans_apart (one more) (loop left l body rest) paid lo hi follow a k x y z = fresh_not_opened paid lo hi l x.2.fresh y.1
  plans_apart (arm t c inner more) (arms v u d first second rest) paid lo hi follow a k x y z =
      x.4 u d (subst (λ c. IsOther g hi follow a k c u d) (same_branch_end lo hi follow v v t c a k y.3 x.3) y.4)
  plans_apart (arm t c inner more) (cases e body rest) paid lo hi follow a k x y z = made_no_list g lo t x.3.jump y.3.list
  plans_apart (arm t c inner more) (loop left l body rest) paid lo hi follow a k x y z = fresh_not_opened paid lo hi l x.2 y.1
  plans_apart (arms t u c first second more) (cases e body rest) paid lo hi follow a k x y z = made_no_list g lo t x.3.jump y.3.list
  plans_apart (arms t u c first second more) (loop left l body rest) paid lo hi follow a k x y z = fresh_not_opened paid lo hi l x.2 y.1
  plans_apart (cases e inner more) (loop left l body rest) paid lo hi follow a k x y z = fresh_not_opened paid lo hi l x.2 y.1
  plans_apart (skip more) (next d inner others) paid lo hi follow a k x y z = next_no_row d inner others paid lo hi follow a k y x.1
  plans_apart (one more) (next d inner others) paid lo hi follow a k x y z = next_no_row d inner others paid lo hi follow a k y x.1
  plans_apart (arm t c first more) (next d inner others) paid lo hi follow a k x y z = next_no_row d inner others paid lo hi follow a k y x.1
  plans_apart (arms t u c first second more) (next d inner others) paid lo hi follow a k x y z = next_no_row d inner others paid lo hi follow a k y x.1
  plans_apart (cases e first more) (next d inner others) paid lo hi follow a k x y z = next_no_row d inner others paid lo hi follow a k y x.1
  plans_apart (next d inner others) (loop left l body rest) paid lo hi follow a k x y z = next_no_row d inner others paid lo hi follow a k x y.0
  plans_apart (loop left l body rest) q paid lo hi follow a k x y z = omega (arith, rank_most q)
  plans_apart p q paid lo hi follow a k x y z = omega arith

  same_plan : (p q : Plan) (paid : Bool) (lo hi follow : ℕ) (a : Around) (k : Kind) → IsPlan g p paid lo hi follow a k → IsPlan g q paid lo hi follow a k
      → p ≡ q
  same_plan done done paid lo hi follow a k x y = refl
  same_plan (skip p) (skip q) paid lo hi follow a k (i, row, none, x) (j, row', none', y) = ap (λ r. skip r) (same_plan p q false (suc lo) hi follow a k x y)
  same_plan (one p) (one q) paid lo hi follow a k (i, row, is, x) (j, row', is', y) = ap (λ r. one r) (same_plan p q false (suc lo) hi follow a k x y)
  same_plan (arm t c p p') (arm u d q q') paid lo hi follow a k (i, row, fresh, branch, none, x, x') (j, row', fresh', branch', none', y, y') =
      let e = same_jump lo hi follow u d t c a k branch' branch in let e' = same_branch_end lo hi follow u d t c a k branch' branch in
      let f = same_plan p q false (suc lo) c t a k x (subst (λ t. IsPlan g q false (suc lo) c t a k) e (subst (λ c. IsPlan g q false (suc lo) c u a k) e' y)) in
      let h = same_plan p' q' false c hi follow a k x' (subst (λ c. IsPlan g q' false c hi follow a k) e' y') in cc
  same_plan (arms t u c p p' p'') (arms v w d q q' q'') paid lo hi follow a k (i, row, fresh, branch, other, x, x', x'')
      (j, row', fresh', branch', other', y, y', y'') =
      let e = same_jump lo hi follow v v t t a k branch' branch in
      let moved = subst (λ t. IsOther g hi follow a k t w d) e other' in
      let f = same_other hi follow t w d u c a k moved other in let f' = same_other_end hi follow t w d u c a k moved other in
      let h = same_plan p q false (suc lo) t u a blocks x
      (subst (λ u. IsPlan g q false (suc lo) t u a blocks) f (subst (λ t. IsPlan g q false (suc lo) t w a blocks) e y)) in
      let m = same_plan p' q' false t c u a k x' (subst (λ u. IsPlan g q' false t c u a k) f
      (subst (λ c. IsPlan g q' false t c w a k) f' (subst (λ t. IsPlan g q' false t d w a k) e y'))) in
      let n = same_plan p'' q'' false c hi follow a k x'' (subst (λ c. IsPlan g q'' false c hi follow a k) f' y'') in cc
  same_plan (cases d p p') (cases e q q') paid lo hi follow a k (i, row, fresh, choice, x, x') (j, row', fresh', choice', y, y') =
      let f = same_choice lo hi follow e d a choice' (all_land g q false (suc lo) e e a (list_arms lo) y) choice (all_land g p false (suc lo) d d a
      (list_arms lo) x) in
      let h = same_plan p q false (suc lo) d d a (list_arms lo) x (subst (λ d. IsPlan g q false (suc lo) d d a (list_arms lo)) f y) in
      let m = same_plan p' q' false d hi follow a k x' (subst (λ d. IsPlan g q' false d hi follow a k) f y') in cc
  same_plan (next d p p') (next e q q') paid lo hi follow a blocks x y = absurd x
  same_plan (next d p p') (next e q q') paid lo hi follow a list_arm x y = absurd x
  same_plan (next d p p') (next e q q') paid lo hi follow a (list_arms b) (i, here, x, x') (j, here', y, y') =
      let f = same_next b lo hi e d here' here in
      let h = same_plan p q false lo d follow a list_arm x (subst (λ d. IsPlan g q false lo d follow a list_arm) f y) in
      let m = same_plan p' q' false d hi follow a (list_arms b) x' (subst (λ d. IsPlan g q' false d hi follow a (list_arms b)) f y') in cc
  same_plan (loop left l p p') (loop right m q q') paid lo hi follow a k (row, is, leaves, x, x') (row', is', leaves', y, y') =
      let e = same_loop lo m l is'.loop is.loop in
      let d = same_left right left hi follow l (subst (λ l. IsLeft hi follow l right) e leaves') leaves in
      let f = same_plan p q true lo (suc l) lo (inside left lo l) blocks x (subst (λ b. IsPlan g q true lo (suc l) lo (inside b lo l) blocks) d
      (subst (λ l. IsPlan g q true lo (suc l) lo (inside right lo l) blocks) e y)) in
      let h = same_plan p' q' false (suc l) hi follow a k x' (subst (λ l. IsPlan g q' false (suc l) hi follow a k) e y') in cc
  same_plan p q paid lo hi follow a k x y = absurd (⊎_elim (λ z. plans_apart p q paid lo hi follow a k x y z)
      (λ z. plans_apart q p paid lo hi follow a k y x (omega arith)) (cases_lt (rank p) (rank q)))

pub one_plan : OnePlan
one_plan g p q flow segment is is' = same_plan (facts_of g flow segment) p q false g.first g.past g.past no_loop blocks is is'

pub plan_is_low : PlanIsLow
plan_is_low g plan flow segment is few = by (nested_by_paths_is_planned g flow segment (planned_is_nested_by_paths g plan flow segment is few))
  where
    by : (q : Plan) × IsPlan g q false g.first g.past g.past no_loop blocks × (levels q ≤ 64) → levels plan ≤ 64
    by (q, is', low) = let e : levels q ≡ levels plan = ap levels (one_plan g q plan flow segment is' is) in omega arith
