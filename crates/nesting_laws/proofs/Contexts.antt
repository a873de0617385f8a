-- Where the blocks of a planned part lead, and what the rest of its segment may do with it.
use Rattle.std.proofs.Common.{◌≡◌, ◌⊎◌, inl, inr, ⊎_elim, ℕ, suc, ◌<◌, ◌≤◌, Bool, true, false, refl, sym, subst, arith}
use Rattle.std.proofs.lemmas.Bool.{cases_eq, cases_lt}
use Rattle.stl_tree.specs.Segments.{IsReached}
use Rattle.stl_tree.specs.Flows.{IsEndBlock, IsJump, IsLoop, Segment, blocks_of}
use Rattle.nesting_laws.specs.Plans.{Around, EndsBefore, Goes, IsBare, IsBranch, IsChoice, IsLeft, IsNextArm, IsOne, IsOther, IsPlan, IsRow, IsWayOut, Kind, LeadsTo, Plan, arm, arms, blocks, cases, done, inside, list_arm, list_arms, loop, next, no_loop, one, skip}
use Rattle.nesting_laws.proofs.Cases.{of_five, of_four, of_three}
use Rattle.nesting_laws.proofs.Exits.{jump_in, jump_leads, list_leads, made_jump, made_leads, source_in}
use Rattle.nesting_laws.proofs.Facts.{Facts}
use Rattle.nesting_laws.proofs.Parts.{IsAround, Lands, LoopLands, MayLeave, narrow_around}

-- Where blocks lead

-- a block leads into its part, out of the loop around it, to the end word, or off the part
abbrev pub LandsBare : Segment → ℕ → ℕ → ℕ → Around → Kind → ℕ → ℕ → Type 0
LandsBare g lo hi follow a k b t = Lands g (IsBare g b hi) lo hi follow a k b t

abbrev pub AllLand : Segment → ℕ → ℕ → ℕ → Around → Kind → Type 0
AllLand g lo hi follow a k = (b t : ℕ) → LeadsTo g b t → lo ≤ b → b < hi → LandsBare g lo hi follow a k b t

further : (g : Segment) (lo c hi follow : ℕ) (a : Around) (k : Kind) (b t : ℕ) → lo ≤ c → LandsBare g c hi follow a k b t → LandsBare g lo hi follow a k b t
further g lo c hi follow a k b t x (inl i) = inl (omega arith, i.1)
further g lo c hi follow a k b t x (inr o) = inr o

-- to a block that may follow in the part, or at its end
place_lands : (g : Segment) (lo hi follow : ℕ) (a : Around) (k : Kind) (b t v : ℕ) → t ≡ v → lo ≤ v → v ≤ hi → (v ≡ hi → follow ≡ hi)
    → LandsBare g lo hi follow a k b t
place_lands g lo hi follow a k b t v e x y f = ⊎_elim (λ i. inl (omega arith, omega arith))
    (λ i. let q = f (omega arith) in inr (inr (inr (omega arith, inl q)))) (cases_lt v hi)

-- to the end of an arm
ends_lands : (g : Segment) (lo hi follow : ℕ) (a : Around) (k : Kind) (b t u c : ℕ) → t ≡ u → lo ≤ c → EndsBefore hi follow k u c
    → LandsBare g lo hi follow a k b t
ends_lands g lo hi follow a k b t u c e x (inl i) = place_lands g lo hi follow a k b t u e (omega (arith, i.0)) i.1 i.2
ends_lands g lo hi follow a k b t u c e x (inr i) = inr (inr (inr (omega (arith, i.0), inr (inr (i.2, i.3)))))

-- the end of an arm stands in the part, or at its end
pub ends_high : (hi follow : ℕ) (k : Kind) (t c : ℕ) → EndsBefore hi follow k t c → (c ≤ hi) × ((c ≡ t) ⊎ (hi < t))
ends_high hi follow k t c (inl i) = (omega (arith, i.0, i.1), inl i.0)
ends_high hi follow k t c (inr i) = (omega (arith, i.1), inr (omega (arith, i.0, i.2)))

-- from a part that goes on to a block
inner_lands : (g : Segment) (lo c d hi follow : ℕ) (a : Around) (k m : Kind) (b t to : ℕ) → lo ≤ c → d ≤ hi → (t ≡ to → LandsBare g lo hi follow a k b t)
    → LandsBare g c d to a m b t → LandsBare g lo hi follow a k b t
inner_lands g lo c d hi follow a k m b t to x y f o = of_four
    (λ i. inl (omega arith, omega arith)) (λ w. inr (inl w)) (λ w. inr (inr (inl w))) (λ w. f w.0) o

body_lands : (g : Segment) (left : Bool) (lo l hi follow : ℕ) (a : Around) (k : Kind) (b t : ℕ) → lo ≤ l → l < hi → IsLeft hi follow l left
    → LandsBare g lo (suc l) lo (inside left lo l) blocks b t → LandsBare g lo hi follow a k b t
body_lands g left lo l hi follow a k b t x y f o = of_four
    (λ i. inl (omega arith, omega arith))
    (λ w. ⊎_elim (λ e. inl (omega arith, omega arith)) (λ e. by left f e) w)
    (λ w. inr (inr (inl w))) (λ w. let e : t ≡ lo = w.0 in inl (omega arith, omega arith)) o
  where
    by : (left : Bool) → IsLeft hi follow l left → (left ≡ true) × (t ≡ suc l) → LandsBare g lo hi follow a k b t
    by true f e = place_lands g lo hi follow a k b t (suc l) e.1 (omega arith) y f
    by false f e = absurd (let q = e.0 in cc)

goes_lands : (g : Segment) (lo hi follow : ℕ) (a : Around) (k : Kind) (t : ℕ) → Goes g lo hi follow a t → LandsBare g lo hi follow a k lo t
goes_lands g lo hi follow a k t (inl i) = inl (omega arith, i.1)
goes_lands g lo hi follow a k t (inr (inl w)) = inr (inl w)
goes_lands g lo hi follow a k t (inr (inr (inl w))) = inr (inr (inl w))
goes_lands g lo hi follow a k t (inr (inr (inr (e, bare, inl f)))) = inr (inr (inr (e, inl f)))
goes_lands g lo hi follow a k t (inr (inr (inr (e, bare, inr u)))) = inr (inr (inr (e, inr (inl (bare, u)))))

branch_lands : (g : Segment) (lo hi follow : ℕ) (a : Around) (k : Kind) (t c : ℕ) → IsBranch g lo hi follow a k t c → (v : ℕ) → LeadsTo g lo v
    → LandsBare g lo hi follow a k lo v
branch_lands g lo hi follow a k t c is v lead = let x = is.ahead in let y = (ends_high hi follow k t c is.ends).0 in ⊎_elim
    (λ e. ends_lands g lo hi follow a k lo v t c e (omega arith) is.ends)
    (λ e. place_lands g lo hi follow a k lo v (suc lo) e (omega arith) (omega arith) is.falls) (made_leads g lo t v is.jump lead)

-- to the end of the arms of a list
case_end_lands : (g : Segment) (lo hi follow : ℕ) (a : Around) (k : Kind) (b t e : ℕ) → t ≡ e → lo ≤ e → e ≤ hi
    → (e ≡ hi → (follow ≡ hi) ⊎ (IsWayOut a e ⊎ IsEndBlock g.flow e)) → LandsBare g lo hi follow a k b t
case_end_lands g lo hi follow a k b t e q x y f = ⊎_elim (λ i. inl (omega arith, omega arith))
    (λ i. ⊎_elim (λ j. inr (inr (inr (omega arith, inl j)))) (λ o. ⊎_elim (λ w. inr (inl (subst (λ t. IsWayOut a t) (sym q) w)))
    (λ w. inr (inr (inl (subst (λ t. IsEndBlock g.flow t) (sym q) w)))) o) (f (omega arith))) (cases_lt e hi)

choice_lands : (g : Segment) (lo hi follow : ℕ) (a : Around) (k : Kind) (e : ℕ) → IsChoice g lo hi follow a e → (v : ℕ) → LeadsTo g lo v
    → LandsBare g lo hi follow a k lo v
choice_lands g lo hi follow a k e is v lead =
    let y = is.after v (record { list = is.list; jump = list_leads g lo v is.list lead }) in
    ⊎_elim (λ i. inl (omega arith, omega (arith, is.within)))
    (λ i. case_end_lands g lo hi follow a k lo v e (omega arith) (omega arith) is.within is.falls) (cases_lt v e)

pub choice_behind : {g : Segment} {lo hi follow : ℕ} {a : Around} {e : ℕ} → IsChoice g lo hi follow a e → lo < e
choice_behind {g} {lo} {hi} {follow} {a} {e} is = ⊎_elim (λ t. (is.after e t).0)
    (λ h. let y = is.after h.1 h.2 in omega (arith, y.0, y.1)) is.ends

-- what a first block does, a block does that is it
at_first : (g : Segment) (lo hi follow : ℕ) (a : Around) (k : Kind) → ((v : ℕ) → LeadsTo g lo v → LandsBare g lo hi follow a k lo v)
    → (b t : ℕ) → LeadsTo g b t → lo ≡ b → LandsBare g lo hi follow a k b t
at_first g lo hi follow a k f b t lead e = subst (λ b. LandsBare g lo hi follow a k b t) e (f t (subst (λ b. LeadsTo g b t) (sym e) lead))

pub all_land : (g : Segment) (plan : Plan) (paid : Bool) (lo hi follow : ℕ) (a : Around) (k : Kind) → IsPlan g plan paid lo hi follow a k
    → AllLand g lo hi follow a k
all_land g done paid lo hi follow a k is b t lead x y = absurd (omega arith)
all_land g (skip rest) paid lo hi follow a k (z, row, none, is) b t lead x y = ⊎_elim
    (λ i. further g lo (suc lo) hi follow a k b t (omega arith) (all_land g rest false (suc lo) hi follow a k is b t lead i y))
    (λ i. absurd (none (subst (λ b. IsReached (blocks_of g.flow) b) (let e : b ≡ lo = omega arith in e) (source_in g b t lead).reached))) (cases_lt lo b)
all_land g (one rest) paid lo hi follow a k (z, row, at, is) b t lead x y = ⊎_elim
    (λ i. further g lo (suc lo) hi follow a k b t (omega arith) (all_land g rest false (suc lo) hi follow a k is b t lead i y))
    (λ i. at_first g lo hi follow a k (λ v l. goes_lands g lo hi follow a k v (at.leads v l)) b t lead (omega arith)) (cases_lt lo b)
all_land g (arm u c inner rest) paid lo hi follow a k (z, row, fresh, branch, none, is, more) b t lead x y =
    let ahead = branch.ahead in let top = (ends_high hi follow k u c branch.ends).0 in ⊎_elim
    (λ i. ⊎_elim
    (λ j. inner_lands g lo (suc lo) c hi follow a k k b t u (omega arith) top (λ q. ends_lands g lo hi follow a k b t u c q (omega arith) branch.ends)
    (all_land g inner false (suc lo) c u a k is b t lead i j))
    (λ j. further g lo c hi follow a k b t (omega arith) (all_land g rest false c hi follow a k more b t lead j y)) (cases_lt b c))
    (λ i. at_first g lo hi follow a k (branch_lands g lo hi follow a k u c branch) b t lead (omega arith)) (cases_lt lo b)
all_land g (arms u v c first second rest) paid lo hi follow a k (z, row, fresh, branch, other, is, is', more) b t lead x y =
    let ahead = branch.ahead in let far = other.ahead in let top = (ends_high hi follow k v c other.ends).0 in ⊎_elim
    (λ i. ⊎_elim
    (λ j. inner_lands g lo (suc lo) u hi follow a k blocks b t v (omega arith) (omega arith)
    (λ q. ends_lands g lo hi follow a k b t v c q (omega arith) other.ends) (all_land g first false (suc lo) u v a blocks is b t lead i j))
    (λ j. ⊎_elim
    (λ n. inner_lands g lo u c hi follow a k k b t v (omega arith) top (λ q. ends_lands g lo hi follow a k b t v c q (omega arith) other.ends)
    (all_land g second false u c v a k is' b t lead j n))
    (λ n. further g lo c hi follow a k b t (omega arith) (all_land g rest false c hi follow a k more b t lead n y)) (cases_lt b c)) (cases_lt b u))
    (λ i. at_first g lo hi follow a k (branch_lands g lo hi follow a k u u branch) b t lead (omega arith)) (cases_lt lo b)
all_land g (loop left l body rest) paid lo hi follow a k (row, opened, leaves, is, more) b t lead x y =
    let long = opened.loop.ordered in let low = opened.within in ⊎_elim
    (λ i. body_lands g left lo l hi follow a k b t long low leaves (all_land g body true lo (suc l) lo (inside left lo l) blocks is b t lead x i))
    (λ i. further g lo (suc l) hi follow a k b t (omega arith) (all_land g rest false (suc l) hi follow a k more b t lead i y)) (cases_lt b (suc l))
all_land g (cases e inner rest) paid lo hi follow a k (z, row, fresh, choice, is, more) b t lead x y =
    let top = choice.within in let behind = choice_behind choice in ⊎_elim
    (λ i. ⊎_elim
    (λ j. inner_lands g lo (suc lo) e hi follow a k (list_arms lo) b t e (omega arith) top
    (λ q. case_end_lands g lo hi follow a k b t e q (omega arith) top choice.falls) (all_land g inner false (suc lo) e e a (list_arms lo) is b t lead i j))
    (λ j. further g lo e hi follow a k b t (omega arith) (all_land g rest false e hi follow a k more b t lead j y)) (cases_lt b e))
    (λ i. at_first g lo hi follow a k (choice_lands g lo hi follow a k e choice) b t lead (omega arith)) (cases_lt lo b)
all_land g (next d inner others) paid lo hi follow a blocks is b t lead x y = absurd is
all_land g (next d inner others) paid lo hi follow a list_arm is b t lead x y = absurd is
all_land g (next d inner others) paid lo hi follow a (list_arms v) (q, here, is, more) b t lead x y = let some = here.some in ⊎_elim
    (λ i. inner_lands g lo lo d hi follow a (list_arms v) list_arm b t follow (omega arith) here.within (λ e. inr (inr (inr (e, inl q))))
    (all_land g inner false lo d follow a list_arm is b t lead x i))
    (λ i. further g lo d hi follow a (list_arms v) b t (omega arith) (all_land g others false d hi follow a (list_arms v) more b t lead i y)) (cases_lt b d)

-- The rest of the segment

-- the list of a row of arms
abbrev pub IsSource : Kind → ℕ → Type 0
IsSource blocks s = ⊥
IsSource list_arm s = ⊥
IsSource (list_arms x) s = s ≡ x

pub row_source : (k : Kind) (s : ℕ) → IsRow k → IsSource k s → ⊥
row_source blocks s row o = o
row_source list_arm s row o = o
row_source (list_arms x) s row o = row

-- from a loop that may not be left only the end word is led to behind it
abbrev pub LeavesToEnd : Segment → Around → Type 0
LeavesToEnd g no_loop = Unit {0}
LeavesToEnd g (inside true k l) = Unit {0}
LeavesToEnd g (inside false k l) = (b : ℕ) → LeadsTo g b (suc l) → k ≤ b → b ≤ l → IsEndBlock g.flow (suc l)

pub endless_leaves : (g : Segment) (a : Around) → MayLeave g a → LeavesToEnd g a
endless_leaves g no_loop may = tt
endless_leaves g (inside true k l) may = tt
endless_leaves g (inside false k l) may = λ b lead x y. absurd (may b lead x y)

-- jumps from before a part lead to its first reached block, or past it, and none come from behind it
pub record IsContext (g : Segment) (lo hi follow : ℕ) (a : Around) (k : Kind) : Type 0 where
  pub around : IsAround g a lo hi
  pub left : LeavesToEnd g a
  pub far : (hi ≤ follow) ⊎ (follow ≤ lo)
  pub back : (s t : ℕ) → IsJump g s t → hi ≤ s → lo ≤ t → t < hi → ⊥
  pub entry : (s t : ℕ) → IsJump g s t → s < lo → lo < t → t < hi → (IsEndBlock g.flow t → ⊥) → (IsSource k s → ⊥)
      → (q : ℕ) → lo ≤ q → q < t → IsReached (blocks_of g.flow) q → ⊥
  -- a list stands before its arms, and the loop around leads before it, or behind them
  pub early : (x : ℕ) → IsSource k x → (x < lo) × ((t : ℕ) → IsWayOut a t → (t ≤ x) ⊎ (hi ≤ t))

-- the context of a whole segment
pub whole_context : (g : Segment) → IsContext g g.first g.past g.past no_loop blocks
whole_context g = record {
  around = tt;
  left = tt;
  far = inl (omega arith);
  back = λ s t jump x y z. omega (arith, (jump_in g s t jump).high);
  entry = λ s t jump x y z open_end source q i j r. omega (arith, (jump_in g s t jump).low);
  early = λ x source. absurd source;
}

pub way_far : (g : Segment) (a : Around) (lo hi t : ℕ) → IsAround g a lo hi → IsWayOut a t → (t ≤ lo) ⊎ (hi ≤ t)
way_far g no_loop lo hi t o w = absurd w
way_far g (inside left k l) lo hi t (around, x, y) (inl e) = inl (omega arith)
way_far g (inside left k l) lo hi t (around, x, y) (inr e) = inr (omega (arith, e.1))

-- where a jump of a part leads: into it, to its beginning or before, behind it, to the end word, or to what follows
pub inner_cases : (g : Segment) (lo c d hi to : ℕ) (a : Around) (k : Kind) → IsAround g a lo hi → AllLand g c d to a k → (s t : ℕ) → IsJump g s t → c ≤ s
    → s < d
    → ((c ≤ t) × (t < d)) ⊎ ((t ≤ lo) ⊎ ((hi ≤ t) ⊎ (IsEndBlock g.flow t ⊎ (t ≡ to))))
inner_cases g lo c d hi to a k around land s t jump x y = of_four inl
    (λ w. inr (⊎_elim inl (λ z. inr (inl z)) (way_far g a lo hi t around w)))
    (λ e. inr (inr (inr (inl e)))) (λ e. inr (inr (inr (inr e.0)))) (land s t (jump_leads g s t jump) x y)

pub body_cases : (g : Segment) (left : Bool) (lo l : ℕ) → AllLand g lo (suc l) lo (inside left lo l) blocks → (s t : ℕ) → IsJump g s t → lo ≤ s → s ≤ l → lo ≤ l
    → LoopLands g lo l t
body_cases g left lo l land s t jump x y z = of_four (λ i. inl (i.0, omega arith))
    (λ w. ⊎_elim (λ e. inl (omega arith, omega arith)) (λ e. inr (inl e.1)) w)
    (λ w. inr (inr w)) (λ w. let e : t ≡ lo = w.0 in inl (omega arith, omega arith)) (land s t (jump_leads g s t jump) x (omega arith))

module _ {g : Segment} (facts : Facts g) {lo hi follow : ℕ} {a : Around} {k : Kind} (ctx : IsContext g lo hi follow a k) where
  -- where a jump of the last part of a part leads
  rest_cases : (c : ℕ) (m : Kind) → AllLand g c hi follow a m → (s t : ℕ) → IsJump g s t → c ≤ s → s < hi
      → (c ≤ t) ⊎ ((t ≤ lo) ⊎ ((hi ≤ t) ⊎ IsEndBlock g.flow t))
  rest_cases c m land s t jump x y = of_five
      (λ i. inl i.0) (λ z. inr (inl z)) (λ z. inr (inr (inl z))) (λ e. inr (inr (inr e)))
      (λ e. inr (⊎_elim (λ z. inr (inl (omega arith))) (λ z. inl (omega arith)) ctx.far))
      (inner_cases g lo c hi hi follow a m ctx.around land s t jump x y)

  sub_context : (c d to : ℕ) (m : Kind) → lo ≤ c → d ≤ hi → (d ≤ to) ⊎ (to ≤ c)
      → ((s t : ℕ) → IsJump g s t → d ≤ s → s < hi → c ≤ t → t < d → ⊥)
      → ((s t : ℕ) → IsJump g s t → s < c → c < t → t < d → (IsEndBlock g.flow t → ⊥) → (IsSource m s → ⊥)
      → (lo ≤ s) ⊎ (((IsSource k s → ⊥) → (q : ℕ) → lo ≤ q → q < t → IsReached (blocks_of g.flow) q → ⊥) × (s < lo))
      → (q : ℕ) → c ≤ q → q < t → IsReached (blocks_of g.flow) q → ⊥)
      → ((x : ℕ) → IsSource m x → (x < c) × ((t : ℕ) → IsWayOut a t → (t ≤ x) ⊎ (d ≤ t))) → IsContext g c d to a m
  sub_context c d to m x y far back entry early = record {
    around = narrow_around g a lo hi c d x y ctx.around;
    left = ctx.left;
    far = far;
    back = λ s t jump z w v. ⊎_elim (λ i. back s t jump z i w v) (λ i. ctx.back s t jump i (omega arith) (omega arith)) (cases_lt s hi);
    entry = λ s t jump z w v open_end source q i j. entry s t jump z w v open_end source
        (⊎_elim (λ n. inr (λ other. ctx.entry s t jump n (omega arith) (omega arith) open_end other, n)) inl (cases_lt s lo)) q i j;
    early = early;
  }

  far_on : (c : ℕ) → lo ≤ c → (hi ≤ follow) ⊎ (follow ≤ c)
  far_on c x = ⊎_elim inl (λ z. inr (omega arith)) ctx.far

  module _ (row : IsRow k) where
    -- the part of a row: only jumps from inside it are left to show
    row_context : (c d to : ℕ) (m : Kind) → lo ≤ c → d ≤ hi → (d ≤ to) ⊎ (to ≤ c)
        → ((s t : ℕ) → IsJump g s t → d ≤ s → s < hi → c ≤ t → t < d → ⊥)
        → ((s t : ℕ) → IsJump g s t → lo ≤ s → s < c → c < t → t < d → (IsEndBlock g.flow t → ⊥) → (IsSource m s → ⊥)
        → (q : ℕ) → c ≤ q → q < t → IsReached (blocks_of g.flow) q → ⊥)
        → ((x : ℕ) → IsSource m x → (x < c) × ((t : ℕ) → IsWayOut a t → (t ≤ x) ⊎ (d ≤ t))) → IsContext g c d to a m
    row_context c d to m x y far back entry early = sub_context c d to m x y far back
        (λ s t jump z w v open_end source o q i j r. ⊎_elim (λ n. entry s t jump n z w v open_end source q i j r)
        (λ n. n.0 (row_source k s row) q (omega arith) j r) o) early

    pub skip_context : lo < hi → (IsReached (blocks_of g.flow) lo → ⊥) → IsContext g (suc lo) hi follow a k
    skip_context x none = row_context (suc lo) hi follow k (omega arith) (omega arith) (far_on (suc lo) (omega arith)) (λ s t jump z w v u. omega arith)
        (λ s t jump z w v u open_end source q i j r.
        none (subst (λ s. IsReached (blocks_of g.flow) s) (let e : s ≡ lo = omega arith in e) (jump_in g s t jump).reached))
        (λ v source. absurd (row_source k v row source))

    pub one_context : (paid : Bool) → lo < hi → IsOne g paid lo hi follow a → IsContext g (suc lo) hi follow a k
    one_context paid x is = row_context (suc lo) hi follow k (omega arith) (omega arith) (far_on (suc lo) (omega arith)) (λ s t jump z w v u. omega arith)
        (λ s t jump z w v u open_end source q i j r. of_four
        (λ n. n.2 q (omega arith) j r)
        (λ n. ⊎_elim (λ m. omega arith) (λ m. omega arith) (way_far g a lo hi t ctx.around n))
        open_end (λ n. n.1 q (omega arith) (omega arith) r)
        (is.leads t (subst (λ s. LeadsTo g s t) (let e : s ≡ lo = omega arith in e) (jump_leads g s t jump))))
        (λ v source. absurd (row_source k v row source))

    module _ (t c : ℕ) (branch : IsBranch g lo hi follow a k t c) where
      pub from_branch : (s v : ℕ) → IsJump g s v → s ≡ lo → v ≡ t
      from_branch s v jump e = made_jump g lo t v branch.jump (subst (λ s. IsJump g s v) e jump)

      arm_high : c ≤ hi
      arm_high = (ends_high hi follow k t c branch.ends).0

      arm_span : (c ≡ t) ⊎ (hi < t)
      arm_span = (ends_high hi follow k t c branch.ends).1

      -- no jump from an arm, or from its branch, leads behind its end
      past_arm : (i d to : ℕ) (m : Kind) → lo < i → AllLand g i d to a m → (s v : ℕ) → IsJump g s v → i ≤ s → s < d → d ≤ v → (to < v) ⊎ (hi < to) → v < hi
          → (IsEndBlock g.flow v → ⊥) → ⊥
      past_arm i d to m low land s v jump x y z w u open_end = of_five
          (λ o. omega arith) (λ o. omega arith) (λ o. omega arith) open_end (λ o. ⊎_elim (λ n. omega arith) (λ n. omega arith) w)
          (inner_cases g lo i d hi to a m ctx.around land s v jump x y)

      module _ (land : AllLand g (suc lo) c t a k) (land' : AllLand g c hi follow a k) where
        pub arm_context : IsContext g (suc lo) c t a k
        arm_context = let top = arm_high in row_context (suc lo) c t k (omega arith) top (inl (⊎_elim (λ e. omega arith) (λ e. omega arith) arm_span))
            (λ s v jump z w i j. of_four (λ n. omega arith) (λ n. omega arith) (λ n. omega arith) (λ n. omega (arith, facts.before_end s v v jump n))
            (rest_cases c k land' s v jump z w))
            (λ s v jump z w i j open_end source q n m r. let e = from_branch s v jump (omega arith) in ⊎_elim (λ o. omega arith) (λ o. omega arith) arm_span)
            (λ v source. absurd (row_source k v row source))

        pub arm_rest_context : IsContext g c hi follow a k
        arm_rest_context = let top = arm_high in let ahead = branch.ahead in
            row_context c hi follow k (omega arith) (omega arith) (far_on c (omega arith)) (λ s v jump z w i j. omega arith)
            (λ s v jump z w i j open_end source q m n r. ⊎_elim
            (λ o. past_arm (suc lo) c t k (omega arith) land s v jump o w (omega arith) (⊎_elim (λ p. inl (omega arith)) inr arm_span) j open_end)
            (λ o. let e = from_branch s v jump (omega arith) in ⊎_elim (λ p. omega arith) (λ p. omega arith) arm_span) (cases_lt lo s))
            (λ v source. absurd (row_source k v row source))

    module _ (t : ℕ) (branch : IsBranch g lo hi follow a k t t) (u d : ℕ) (other : IsOther g hi follow a k t u d)
        (land : AllLand g (suc lo) t u a blocks) (land' : AllLand g t d u a k) (land'' : AllLand g d hi follow a k) where
      others_high : d ≤ hi
      others_high = (ends_high hi follow k u d other.ends).0

      others_span : (d ≡ u) ⊎ (hi < u)
      others_span = (ends_high hi follow k u d other.ends).1

      others_far : d ≤ u
      others_far = let top = others_high in ⊎_elim (λ e. omega arith) (λ e. omega arith) others_span

      -- what stands behind does not jump back into an arm
      no_back : (c : ℕ) → lo < c → c ≤ t → (s v : ℕ) → IsJump g s v → d ≤ s → s < hi → c ≤ v → v < d → ⊥
      no_back c y z s v jump w i j n = let far = other.ahead in
          of_four (λ m. omega arith) (λ m. omega arith) (λ m. omega arith) (λ m. omega (arith, facts.before_end s v v jump m))
          (rest_cases d k land'' s v jump w i)

      pub first_context : IsContext g (suc lo) t u a blocks
      first_context = let far = other.ahead in let top = others_high in let ahead = branch.ahead in let span = others_far in
          row_context (suc lo) t u blocks (omega arith) (omega arith) (inl (omega arith))
          (λ s v jump z w i j. ⊎_elim
          (λ n. of_five (λ m. omega arith) (λ m. omega arith) (λ m. omega arith) (λ m. omega (arith, facts.before_end s v v jump m)) (λ m. omega arith)
          (inner_cases g lo t d hi u a k ctx.around land' s v jump z n))
          (λ n. no_back (suc lo) (omega arith) ahead s v jump n w i (omega arith)) (cases_lt s d))
          (λ s v jump z w i j open_end source q n m r. let e = from_branch t t branch s v jump (omega arith) in omega arith) (λ v source. absurd source)

      pub second_context : IsContext g t d u a k
      second_context = let far = other.ahead in let top = others_high in let ahead = branch.ahead in let span = others_far in
          row_context t d u k (omega arith) top (inl span) (λ s v jump z w i j. no_back t ahead (omega arith) s v jump z w i j)
          (λ s v jump z w i j open_end source q n m r. ⊎_elim
          (λ o. of_five (λ p. omega arith) (λ p. omega arith) (λ p. omega arith) open_end (λ p. omega arith)
          (inner_cases g lo (suc lo) t hi u a blocks ctx.around land s v jump o w))
          (λ o. let e = from_branch t t branch s v jump (omega arith) in omega arith) (cases_lt lo s))
          (λ v source. absurd (row_source k v row source))

      pub arms_rest_context : IsContext g d hi follow a k
      arms_rest_context = let far = other.ahead in let top = others_high in let ahead = branch.ahead in let span = others_far in
          row_context d hi follow k (omega arith) (omega arith) (far_on d (omega arith)) (λ s v jump z w i j. omega arith)
          (λ s v jump z w i j open_end source q n m r. ⊎_elim
          (λ o. ⊎_elim
          (λ p. past_arm t t branch (suc lo) t u blocks (omega arith) land s v jump o p (omega arith)
          (⊎_elim (λ e. inl (omega arith)) inr others_span) j open_end)
          (λ p. past_arm t t branch t d u k ahead land' s v jump p w (omega arith) (⊎_elim (λ e. inl (omega arith)) inr others_span) j open_end) (cases_lt s t))
          (λ o. let e = from_branch t t branch s v jump (omega arith) in omega arith) (cases_lt lo s))
          (λ v source. absurd (row_source k v row source))

    module _ (left : Bool) (l : ℕ) (is_loop : IsLoop g lo l) (low : l < hi) (land : AllLand g lo (suc l) lo (inside left lo l) blocks)
        (land' : AllLand g (suc l) hi follow a k) where
      pub body_context : IsContext g lo (suc l) lo (inside left lo l) blocks
      body_context = record {
        around = (is_loop, omega arith, omega arith);
        left = leaves left land;
        far = inr (omega arith);
        back = λ s t jump z w v. ⊎_elim
            (λ i. of_four (λ n. omega arith)
            (λ n. omega (arith, is_loop.greatest s (subst (λ t. IsJump g s t) (let e : t ≡ lo = omega arith in e) jump)))
            (λ n. omega arith) (λ n. omega (arith, facts.before_end s t t jump n)) (rest_cases (suc l) k land' s t jump z i))
            (λ i. ctx.back s t jump i w (omega arith)) (cases_lt s hi);
        entry = λ s t jump z w v open_end source q i j. ctx.entry s t jump z w (omega arith) open_end (row_source k s row) q i j;
        early = λ x source. absurd source;
      }
        where
          leaves : (left : Bool) → AllLand g lo (suc l) lo (inside left lo l) blocks → LeavesToEnd g (inside left lo l)
          leaves true land = tt
          leaves false land = λ b lead x y. of_four (λ n. absurd (omega arith))
              (λ w. absurd (⊎_elim (λ e. omega arith) (λ e. let q = e.0 in cc) w)) (λ e. e) (λ n. absurd (omega (arith, n.0)))
              (land b (suc l) lead x (omega arith))

      pub loop_rest_context : IsContext g (suc l) hi follow a k
      loop_rest_context = let long = is_loop.ordered in
          row_context (suc l) hi follow k (omega arith) (omega arith) (far_on (suc l) (omega arith)) (λ s t jump z w i j. omega arith)
          (λ s t jump z w i j open_end source q n m r. of_three (λ o. omega arith) (λ o. omega arith) open_end
          (body_cases g left lo l land s t jump z (omega arith) long))
          (λ v source. absurd (row_source k v row source))

    module _ (e : ℕ) (choice : IsChoice g lo hi follow a e) (land : AllLand g (suc lo) e e a (list_arms lo)) (land' : AllLand g e hi follow a k) where
      from_list : (s v : ℕ) → IsJump g s v → s ≡ lo → v ≤ e
      from_list s v jump q = (choice.after v (record { list = choice.list; jump = subst (λ s. IsJump g s v) q jump })).1

      pub choice_context : IsContext g (suc lo) e e a (list_arms lo)
      choice_context = let top = choice.within in let x = choice_behind choice in row_context (suc lo) e e (list_arms lo) (omega arith) top (inl (omega arith))
          (λ s v jump z w i j. of_four (λ n. omega arith) (λ n. omega arith) (λ n. omega arith) (λ n. omega (arith, facts.before_end s v v jump n))
          (rest_cases e k land' s v jump z w))
          (λ s v jump z w i j open_end source q n m r. source (omega arith))
          (λ v source. (omega arith, λ t w. ⊎_elim (λ n. inl (omega arith)) (λ n. inr (omega arith)) (way_far g a lo hi t ctx.around w)))

      pub choice_rest_context : IsContext g e hi follow a k
      choice_rest_context = let top = choice.within in let x = choice_behind choice in
          row_context e hi follow k (omega arith) (omega arith) (far_on e (omega arith)) (λ s v jump z w i j. omega arith)
          (λ s v jump z w i j open_end source q n m r. ⊎_elim
          (λ o. of_five (λ p. omega arith) (λ p. omega arith) (λ p. omega arith) open_end (λ p. omega arith)
          (inner_cases g lo (suc lo) e hi e a (list_arms lo) ctx.around land s v jump o w))
          (λ o. let p = from_list s v jump (omega arith) in omega arith) (cases_lt lo s))
          (λ v source. absurd (row_source k v row source))

module _ {g : Segment} (facts : Facts g) {x lo hi follow : ℕ} {a : Around} (ctx : IsContext g lo hi follow a (list_arms x)) (d : ℕ)
    (here : IsNextArm g x lo hi d) (all : follow ≡ hi) where
  -- what the list jumps to
  list_target : (s v : ℕ) → IsJump g s v → s ≡ x → (v ≤ lo) ⊎ (d ≤ v)
  list_target s v jump q = here.alone v (record { list = here.begins.list; jump = subst (λ s. IsJump g s v) q jump })

  pub arm_of_context : AllLand g d hi follow a (list_arms x) → IsContext g lo d follow a list_arm
  arm_of_context land = let top = here.within in
      let low = (ctx.early x refl).0 in sub_context facts ctx lo d follow list_arm (omega arith) top (inl (omega arith))
      (λ s v jump z w i j. of_four (λ n. omega arith) (λ n. ⊎_elim (λ m. omega arith) (λ m. omega arith) ((ctx.early x refl).1 v n))
      (λ n. omega (arith, facts.before_end s v v jump n)) (λ n. omega (arith, n.0)) (land s v (jump_leads g s v jump) z w))
      (λ s v jump z w i open_end source o q n m r. ⊎_elim (λ p. omega arith)
      (λ p. ⊎_elim (λ e. ⊎_elim (λ y. omega arith) (λ y. omega arith) (list_target s v jump e)) (λ e. p.0 e q n m r) (cases_eq s x)) o)
      (λ v source. absurd source)

  pub others_context : AllLand g lo d follow a list_arm → IsContext g d hi follow a (list_arms x)
  others_context land = let top = here.within in let some = here.some in sub_context facts ctx d hi follow (list_arms x) (omega arith) (omega arith)
      (inl (omega arith))
      (λ s v jump z w i j. omega arith)
      (λ s v jump z w i open_end source o q n m r. ⊎_elim
      (λ p. of_five (λ y. omega arith) (λ y. omega arith) (λ y. omega arith) open_end (λ y. omega arith)
      (inner_cases g lo lo d hi follow a list_arm ctx.around land s v jump p z)) (λ p. p.0 source q (omega arith) m r) o)
      (λ v source. let (low, leads) = ctx.early v source in (omega arith, leads))
