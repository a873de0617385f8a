-- The region of a part fits, and is nothing where no block of the part is reached.
use Rattle.std.proofs.Common.{◌≡◌, ◌≢◌, ◌⊎◌, inl, inr, ⊎_elim, ℕ, zero, suc, ◌<◌, ◌≤◌, ◌==◌, nat_lt, Bool, true, false, ◌&&◌, if◌then◌else◌, List, [], length, slice_get, Some, refl, sym, ap, ◌∙◌, subst, arith}
use Rattle.std.proofs.lemmas.Bool.{and_from, and_parts, both_ways, cases_eq, cases_lt, cases_order, cond_both, eq-eqb, eqb-false, eqb-true, le-leb, lt-ltb, ltb-true}
use Rattle.std.proofs.lemmas.List.{length-map}
use Rattle.std.proofs.lemmas.Option.{same_Some}
use Rattle.st_tree.specs.declared.expr.Expr.{Expr}
use Rattle.st_tree.specs.declared.graph.StExit.{StExit}
use Rattle.st_tree.specs.declared.graph.StExit.TheVariants as exit
use Rattle.st_tree.specs.declared.graph.StNode.{StNode}
use Rattle.st_tree.specs.declared.program.Stmt.{Stmt}
use Rattle.stl_tree.specs.Blocks.{Way, always, if_made, on, one_of, unless_ended}
use Rattle.stl_tree.specs.Flows.{Flow, GoesOn, IsEndBlock, IsIn, IsList, IsLoop, Segment}
use Rattle.stl_tree.specs.WellNested.{IsTarget}
use Rattle.graph_rules.specs.Flow.{flow_of, way_by}
use Rattle.nesting_laws.specs.Plans.{Around, EndsBefore, Goes, IsBare, IsChoice, IsEndOfArms, IsFresh, IsLeft, IsOne, IsOther, IsPlan, IsRow, IsWayOut, Kind, LeadsTo, Plan, arm, arms, blocks, cases, done, inside, list_arm, list_arms, loop, next, no_loop, one, skip}
use Rattle.region_laws.specs.Regions as regions
use Rattle.region_laws.specs.Regions.{Fits, HaveArms, IsNode, MayBegin, Place, Region, again, at, choose, cycle, ended, fork, is_among, leaves, loop_head, node, off, out, quit, selected, unmarked}
use Rattle.region_plans.specs.Charts.{IsAround, IsCharted, IsEmpty, IsFirst, IsNext, IsPart, IsPlaceOf, IsPlaced}
use Rattle.region_plans.specs.PlanRegion.{Chart, arm_from, cases_region, end_of, exit_region, fork_region, is_at, is_end, is_last, is_out, later_starts, list_region, loop_region, nodes_of, one_region, region_of, rest_from, tail_to, test_region, way_to}
use Rattle.region_plans.specs.RegionLaws.{EmptyIsOff, PartFits, SegmentFits}
use Rattle.region_plans.proofs.Inside.{entry_at, lead_reach, way_after}
use Rattle.region_plans.proofs.ListNodes.{later_is, node_cases, nodes_have_arms}

-- Places and exits

at_place : (p : Place) (t : ℕ) → is_at p t ≡ true → p ≡ at t
at_place (at f) t e = ap at (eqb-true f t e)
at_place out t e = absurd cc
at_place (selected k) t e = absurd cc

place_at : (p : Place) (t : ℕ) → p ≡ at t → is_at p t ≡ true
place_at p t e = subst (λ p. is_at p t ≡ true) (sym e) (eq-eqb t t refl)

pub out_place : (p : Place) → is_out p ≡ true → out ≡ p
out_place (at f) e = absurd cc
out_place out e = refl
out_place (selected k) e = absurd cc

-- an exit with this way is a branch
branch_of : (x : StExit) (t : ℕ) → way_by x ≡ if_made t → (e : Expr) × (x ≡ exit.Branch e t)
branch_of exit.Fall t e = absurd cc
branch_of (exit.Jump j) t e = absurd cc
branch_of (exit.Branch test j) t e = (test, ap (λ j. exit.Branch test j) (same_target j t e))
  where
    target_of : Way → ℕ
    target_of (if_made j) = j
    target_of other = zero

    same_target : (j t : ℕ) → if_made j ≡ if_made t → j ≡ t
    same_target j t e = ap target_of e
branch_of (exit.EndIf test) t e = absurd cc
branch_of (exit.Table test targets last) t e = absurd cc
branch_of exit.End t e = absurd cc

-- an exit with this way is a jump list
pub table_of : (x : StExit) (targets : List ℕ) (label : ℕ) → way_by x ≡ one_of targets label → (e : Expr) × (x ≡ exit.Table e targets label)
table_of exit.Fall targets label e = absurd cc
table_of (exit.Jump j) targets label e = absurd cc
table_of (exit.Branch test j) targets label e = absurd cc
table_of (exit.EndIf test) targets label e = absurd cc
table_of (exit.Table test ts last) targets label e =
    (test, ap (λ ts. exit.Table test ts last) (ap targets_of e) ∙ ap (λ last. exit.Table test targets last) (ap label_of e))
  where
    targets_of : Way → List ℕ
    targets_of (one_of ts last) = ts
    targets_of other = []

    label_of : Way → ℕ
    label_of (one_of ts last) = last
    label_of other = zero
table_of exit.End targets label e = absurd cc

module _ (c : Chart) (g : Segment) (ok : IsCharted c g) where
  -- Blocks and where they lead

  way_at : (b : ℕ) (n : StNode) → slice_get c.unit.nodes b ≡ Some n → slice_get g.flow.ways b ≡ Some (way_by n.exit)
  way_at b n e = way_after g.flow c.unit.nodes ok.flow b n e

  is_reached : (b : ℕ) → IsIn g b → c.unit.reached b ≡ true
  is_reached b is = (ok.reached b).1 is.reached

  node_at : (b : ℕ) → IsIn g b → (n : StNode) × (slice_get c.unit.nodes b ≡ Some n)
  node_at b is = entry_at c.unit.nodes b (ok.there b (is_reached b is))

  lead_reached : (b t : ℕ) → LeadsTo g b t → c.unit.reached t ≡ true
  lead_reached b t lead = (ok.reached t).1 (lead_reach g b t lead)

  -- where a conditional jump leads, and where it is not made
  made_leads : (b t : ℕ) → GoesOn g b (if_made t) → LeadsTo g b t
  made_leads b t goes = (if_made t, goes, inl (inl refl))

  made_falls : (b t : ℕ) → GoesOn g b (if_made t) → LeadsTo g b (suc b)
  made_falls b t goes = (if_made t, goes, inr (refl, refl))

  other_reached : (t u d hi f : ℕ) (a : Around) (k : Kind) → IsOther g hi f a k t u d → c.unit.reached u ≡ true
  other_reached t u d hi f a k other = lead_reached other.source u (always u, other.jump, inl (inl refl))

  pub head_reached : (h l : ℕ) → IsLoop g h l → c.unit.reached h ≡ true
  head_reached h l lp = let (way, goes, o) = lp.back in lead_reached l h (way, goes, inl o)

  -- a branch is no jump over a second arm
  apart : (b s t u : ℕ) → GoesOn g b (if_made t) → GoesOn g s (always u) → b ≡ s → ⊥
  apart b s t u goes other e = let same : if_made t ≡ always u = same_Some (if_made t) (always u) (sym goes.1 ∙ ap (slice_get g.flow.ways) e ∙ other.1) in cc

  may_begin : (turn : Bool) (b : ℕ) → IsIn g b → IsFresh g turn b → MayBegin turn (c.unit.marks b)
  may_begin true b is fresh = tt
  may_begin false b is fresh = ⊎_elim
      (λ (l, lp, e). absurd (let x : l < b = fresh l lp.back in let y : b ≤ l = lp.ordered in omega arith)) (λ (n, e). e) (ok.heads b is.low is.high)

  node_here : (turn : Bool) (b : ℕ) → IsIn g b → IsFresh g turn b → (n : StNode) → slice_get c.unit.nodes b ≡ Some n
      → IsNode c.unit turn b n.steps n.exit
  node_here turn b is fresh n e =
      record { reached = is_reached b is; node = n; there = e; steps_are = refl; exit_is = refl; free = may_begin turn b is fresh }

  -- Ways out

  end_true : (t : ℕ) → IsEndBlock g.flow t → is_end c t ≡ true
  end_true t end = and_from (flow_of c.unit.nodes).ends_alone (suc t == length c.unit.nodes)
      (subst (λ (flow : Flow). flow.ends_alone ≡ true) ok.flow end.0)
      (eq-eqb (suc t) (length c.unit.nodes)
      (subst (λ (flow : Flow). suc t ≡ length flow.ways) ok.flow end.1 ∙ length-map c.unit.nodes (λ (n : StNode). way_by n.exit)))

  end_fits : (b t : ℕ) → LeadsTo g b t → IsEndBlock g.flow t → (to : Place) (around : regions.Around)
      → Fits c.unit false (end_of c t) (at t) to around
  end_fits b t lead end to around =
      let is = ok.ends b t lead end in
      subst (λ flag. Fits c.unit false (if flag then node c.end_steps ended else off) (at t) to around) (sym (end_true t end)) (
        t,
        exit.End,
        out,
        refl,
        record { reached = lead_reached b t lead; node = is.node; there = is.there; steps_are = is.steps; exit_is = is.exit; free = is.free },
        refl,
        (refl, refl),
      )

  way_fits : (b t : ℕ) → LeadsTo g b t → (a : Around) (around : regions.Around) → IsAround c a around → IsWayOut a t ⊎ IsEndBlock g.flow t
      → (to : Place) → Fits c.unit false (way_to c a t) (at t) to around
  way_fits b t lead no_loop around loops (inl w) to = absurd w
  way_fits b t lead no_loop around loops (inr end) to = end_fits b t lead end to around
  way_fits b t lead (inside left h l) regions.no_loop loops o to = absurd loops
  way_fits b t lead (inside left h l) (regions.inside p q) loops o to =
      cond_both (t == h) again (if left && (t == suc l) then leaves else end_of c t) (λ r. Fits c.unit false r (at t) to (regions.inside p q))
      (λ e. (refl, ap at (eqb-true t h e) ∙ sym loops.0))
      (λ n. cond_both (left && (t == suc l)) leaves (end_of c t) (λ r. Fits c.unit false r (at t) to (regions.inside p q))
      (λ e. let both = and_parts left (t == suc l) e in let same = eqb-true t (suc l) both.1 in
      (refl, ap at same ∙ sym (loops.1 both.0 (subst (λ t. c.unit.reached t ≡ true) same (lead_reached b t lead)))))
      (λ m. ⊎_elim
      (λ w. absurd (⊎_elim (eqb-false t h n)
      (λ (e, f). both_ways (left && (t == suc l)) m (and_from left (t == suc l) e (eq-eqb t (suc l) f))) w))
      (λ end. end_fits b t lead end to (regions.inside p q)) o))

  -- One block

  module _ (turn : Bool) (lo hi f : ℕ) (a : Around) (follow : Place) (around : regions.Around)
      (part : IsPart c g turn lo hi) (placed : IsPlaced c f a follow around) (here : IsIn g lo) (x : lo < hi) where
    next_is : IsNext c lo
    next_is = ok.nexts lo (ok.there lo (is_reached lo here))

    -- the first block behind that is reached is the next one
    next_there : (t : ℕ) → lo < t → IsBare g lo t → c.unit.reached t ≡ true → t ≡ c.next lo
    next_there t y bare r = ⊎_elim (λ e. e)
        (λ o. absurd (⊎_elim
        (λ z. both_ways (c.unit.reached t) (next_is.bare t y z) r)
        (λ z. ⊎_elim (λ s. bare (c.next lo) next_is.ahead z ((ok.reached (c.next lo)).0 s))
        (λ e. let w : t < length c.unit.nodes = ok.there t r in omega arith) next_is.found) o))
        (cases_order t (c.next lo))

    last_there : IsBare g lo hi → is_last c lo hi ≡ true
    last_there bare = le-leb hi (c.next lo)
        (⊎_elim
        (λ y. absurd (⊎_elim (λ s. bare (c.next lo) next_is.ahead y ((ok.reached (c.next lo)).0 s))
        (λ e. let v : hi ≤ g.past = part.high in let w : g.past ≤ length c.unit.nodes = ok.within in omega arith) next_is.found))
        (λ y. y) (cases_lt (c.next lo) hi))

    first_next : (t : ℕ) → t ≡ c.next lo → t < hi → c.unit.reached t ≡ true → IsFirst c (suc lo) hi t
    first_next t e y r =
        let z : lo < c.next lo = next_is.ahead in
        record { low = (omega arith); high = y; reached = r; bare = λ q v w. next_is.bare q (omega arith) (omega arith) }

    tail_fits : (rest : Region) → ((p : ℕ) → IsFirst c (suc lo) hi p → Fits c.unit false rest (at p) follow around)
        → (t : ℕ) → LeadsTo g lo t → Goes g lo hi f a t → Fits c.unit false (tail_to c lo hi follow a rest t) (at t) follow around
    tail_fits rest more t lead goes =
        cond_both ((t == c.next lo) && nat_lt t hi) rest (if is_at follow t && is_last c lo hi then off else way_to c a t)
        (λ r. Fits c.unit false r (at t) follow around)
        (λ e. let both = and_parts (t == c.next lo) (nat_lt t hi) e in
        more t (first_next t (eqb-true t (c.next lo) both.0) (ltb-true t hi both.1) (lead_reached lo t lead)))
        (λ n. cond_both (is_at follow t && is_last c lo hi) off (way_to c a t) (λ r. Fits c.unit false r (at t) follow around)
        (λ e. (refl, sym (at_place follow t (and_parts (is_at follow t) (is_last c lo hi) e).0)))
        (λ m. way_fits lo t lead a around placed.loops (out_of n m goes) follow))
      where
        out_of : (t == c.next lo) && nat_lt t hi ≡ false → is_at follow t && is_last c lo hi ≡ false → Goes g lo hi f a t
            → IsWayOut a t ⊎ IsEndBlock g.flow t
        out_of n m (inl (y, z, bare)) =
            absurd (both_ways _ n (and_from (t == c.next lo) (nat_lt t hi)
            (eq-eqb t (c.next lo) (next_there t y bare (lead_reached lo t lead))) (lt-ltb t hi z)))
        out_of n m (inr (inl w)) = inl w
        out_of n m (inr (inr (inl e))) = inr e
        out_of n m (inr (inr (inr (e, bare, o)))) =
            absurd (both_ways _ m (and_from (is_at follow t) (is_last c lo hi)
            (place_at follow t (placed.falls (subst (λ t. c.unit.reached t ≡ true) e (lead_reached lo t lead)) ∙ ap at (sym e))) (last_there bare)))

    exit_fits : (rest : Region) → ((p : ℕ) → IsFirst c (suc lo) hi p → Fits c.unit false rest (at p) follow around)
        → ((t : ℕ) → LeadsTo g lo t → Goes g lo hi f a t) → ((t : ℕ) → GoesOn g lo (if_made t) → IsWayOut a t ⊎ IsEndBlock g.flow t)
        → (IsList g lo → ⊥) → (steps : List Stmt) (y : StExit) → IsNode c.unit turn lo steps y → GoesOn g lo (way_by y)
        → Fits c.unit turn (exit_region c lo hi follow a rest steps y) (at lo) follow around
    exit_fits rest more leads jumps no_list steps exit.Fall is goes = (
      lo,
      exit.Fall,
      at (suc lo),
      refl,
      is,
      refl,
      let lead : LeadsTo g lo (suc lo) = (on, goes, inr (refl, refl)) in tail_fits rest more (suc lo) lead (leads (suc lo) lead),
    )
    exit_fits rest more leads jumps no_list steps (exit.Jump t) is goes = (
      lo,
      exit.Jump t,
      at t,
      refl,
      is,
      refl,
      let lead : LeadsTo g lo t = (always t, goes, inl (inl refl)) in tail_fits rest more t lead (leads t lead),
    )
    exit_fits rest more leads jumps no_list steps (exit.Branch e t) is goes =
        let lead = made_falls lo t goes in let next = tail_fits rest more (suc lo) lead (leads (suc lo) lead) in
        cond_both (is_at follow t && is_last c lo hi)
        (fork steps e off (tail_to c lo hi follow a rest (suc lo)) follow off)
        (fork steps e (way_to c a t) off (at (suc lo)) (tail_to c lo hi follow a rest (suc lo)))
        (λ r. Fits c.unit turn r (at lo) follow around)
        (λ q. (lo, t, refl, is, (refl, sym (at_place follow t (and_parts (is_at follow t) (is_last c lo hi) q).0)), next, (refl, refl)))
        (λ q. (lo, t, refl, is, way_fits lo t (made_leads lo t goes) a around placed.loops (jumps t goes) (at (suc lo)), (refl, refl), next))
    exit_fits rest more leads jumps no_list steps (exit.EndIf e) is goes =
        (lo, refl, is, let lead : LeadsTo g lo (suc lo) = (unless_ended, goes, inr (refl, refl)) in tail_fits rest more (suc lo) lead (leads (suc lo) lead))
    exit_fits rest more leads jumps no_list steps (exit.Table e targets last) is goes = absurd (no_list (targets, last, goes))
    exit_fits rest more leads jumps no_list steps exit.End is goes = (
      lo,
      exit.End,
      out,
      refl,
      is,
      refl,
      cond_both (is_out follow && is_last c lo hi) off ended (λ r. Fits c.unit false r out follow around)
          (λ e. (refl, out_place follow (and_parts (is_out follow) (is_last c lo hi) e).0)) (λ n. (refl, refl)),
    )

    one_fits : (rest : Region) → ((p : ℕ) → IsFirst c (suc lo) hi p → Fits c.unit false rest (at p) follow around)
        → IsOne g turn lo hi f a → Fits c.unit turn (one_region c lo hi follow a rest (slice_get c.unit.nodes lo)) (at lo) follow around
    one_fits rest more is =
        let (n, there) = node_at lo here in
        subst (λ o. Fits c.unit turn (one_region c lo hi follow a rest o) (at lo) follow around) (sym there)
        (exit_fits rest more is.leads is.jumps is.no_list n.steps n.exit (node_here turn lo here is.fresh n there) (here, way_at lo n there))

    fork_fits : (there behind rest : Region) (join : Place) (t : ℕ) → GoesOn g lo (if_made t) → IsFresh g turn lo
        → Fits c.unit false there (at t) join around → Fits c.unit false behind (at (suc lo)) join around → Fits c.unit false rest join follow around
        → Fits c.unit turn (fork_region there behind join rest (slice_get c.unit.nodes lo)) (at lo) follow around
    fork_fits there behind rest join t goes fresh fit fit' fits =
        let (n, stands) = node_at lo here in
        let (e, is_branch) = branch_of n.exit t (same_Some (way_by n.exit) (if_made t) (sym (way_at lo n stands) ∙ goes.1)) in
        let is : IsNode c.unit turn lo n.steps (exit.Branch e t)
        = subst (λ y. IsNode c.unit turn lo n.steps y) is_branch (node_here turn lo here fresh n stands) in
        subst (λ o. Fits c.unit turn (fork_region there behind join rest o) (at lo) follow around) (sym stands)
        (subst (λ y. Fits c.unit turn (test_region there behind join rest n.steps y) (at lo) follow around) (sym is_branch)
        (lo, t, refl, is, fit, fit', fits))

    -- a block with a jump list
    cases_fit : (inner : Plan) (e : ℕ) (by_node : ℕ → Region) (other rest : Region) → IsList g lo → IsFresh g turn lo
        → ((targets : List ℕ) → targets ≢ [] → GoesOn g lo (one_of targets (suc lo)) → HaveArms targets (suc lo) (nodes_of inner e targets))
        → ((j : ℕ) → (is_among j (later_starts inner) ≡ true) ⊎ (j ≡ e) → Fits c.unit false (by_node j) (at j) (at e) around)
        → Fits c.unit false other (at (suc lo)) (at e) around → Fits c.unit false rest (at e) follow around
        → Fits c.unit turn (cases_region inner e by_node other rest (slice_get c.unit.nodes lo)) (at lo) follow around
    cases_fit inner e by_node other rest (targets, label, goes) fresh have each own fits =
        let (n, stands) = node_at lo here in
        let (test, is_table) = table_of n.exit targets label (same_Some (way_by n.exit) (one_of targets label) (sym (way_at lo n stands) ∙ goes.1)) in
        let same : label ≡ suc lo = (ok.lists lo targets label goes.1).1 in
        let leads : GoesOn g lo (one_of targets (suc lo)) = subst (λ label. GoesOn g lo (one_of targets label)) same goes in
        let table : n.exit ≡ exit.Table test targets (suc lo) = is_table ∙ ap (λ label. exit.Table test targets label) same in
        let is : IsNode c.unit turn lo n.steps (exit.Table test targets (suc lo))
        = subst (λ y. IsNode c.unit turn lo n.steps y) table (node_here turn lo here fresh n stands) in
        subst (λ o. Fits c.unit turn (cases_region inner e by_node other rest o) (at lo) follow around) (sym stands)
        (subst (λ y. Fits c.unit turn (list_region inner e by_node other rest n.steps y) (at lo) follow around) (sym table)
        (lo, suc lo, refl, is, have targets (ok.lists lo targets label goes.1).0 leads, each_arm targets, own, fits))
      where
        each_arm : (targets : List ℕ) (j : ℕ) → is_among j (nodes_of inner e targets) ≡ true → Fits c.unit false (by_node j) (at j) (at e) around
        each_arm targets j h = each j (⊎_elim (λ f. inl f) (λ f. inr f.0) (node_cases inner e targets j h))

  -- Parts

  nothing : (plan : Plan) (turn : Bool) (lo hi f : ℕ) (a : Around) (k : Kind) (follow : Place) → IsPlan g plan turn lo hi f a k → IsEmpty c lo hi
      → region_of c plan lo hi follow a ≡ off
  nothing done turn lo hi f a k follow is empty = refl
  nothing (skip rest) turn lo hi f a k follow (x, row, none, is) empty =
      nothing rest false (suc lo) hi f a k follow is (λ q y z. empty q (omega arith) z)
  nothing (one rest) turn lo hi f a k follow (x, row, is_one, is) empty =
      absurd (both_ways (c.unit.reached lo) (empty lo (omega arith) x) (is_reached lo is_one.here))
  nothing (arm t d inner rest) turn lo hi f a k follow (x, row, fresh, branch, none, is, more) empty =
      absurd (both_ways (c.unit.reached lo) (empty lo (omega arith) x) (is_reached lo branch.jump.0))
  nothing (arms t u d first second rest) turn lo hi f a k follow (x, row, fresh, branch, other, is, is', more) empty =
      absurd (both_ways (c.unit.reached lo) (empty lo (omega arith) x) (is_reached lo branch.jump.0))
  nothing (loop left l body rest) turn lo hi f a k follow (row, opened, may, is, more) empty =
      absurd (let x : l < hi = opened.within in let y : lo ≤ l = opened.loop.ordered in
      both_ways (c.unit.reached lo) (empty lo (omega arith) (omega arith)) (head_reached lo l opened.loop))
  nothing (cases e inner rest) turn lo hi f a k follow (x, row, fresh, choice, is, more) empty =
      absurd (both_ways (c.unit.reached lo) (empty lo (omega arith) x) (is_reached lo choice.list.2.0))
  nothing (next d inner others) turn lo hi f a k follow is empty = refl

  -- a part of no block
  none_left : (plan : Plan) (hi f : ℕ) (a : Around) (k : Kind) (follow : Place) (around : regions.Around) (p : Place)
      → IsPlan g plan false hi hi f a k → p ≡ follow → Fits c.unit false (region_of c plan hi hi follow a) p follow around
  none_left plan hi f a k follow around p is same =
      subst (λ r. Fits c.unit false r p follow around) (sym (nothing plan false hi hi f a k follow is (λ q z w. absurd (omega arith)))) (refl, same)

  -- a part from a block on that is reached, or the end of it
  from_there : (plan : Plan) (d hi f : ℕ) (a : Around) (k : Kind) (follow : Place) (around : regions.Around) → IsPlan g plan false d hi f a k
      → c.unit.reached d ≡ true → d ≤ hi → (d ≡ hi → f ≡ hi) → IsPlaceOf c f follow
      → ((p : ℕ) → IsFirst c d hi p → Fits c.unit false (region_of c plan d hi follow a) (at p) follow around)
      → Fits c.unit false (region_of c plan d hi follow a) (at d) follow around
  from_there plan d hi f a k follow around is r x ends falls fit = ⊎_elim
      (λ y. fit d (record { low = (omega arith); high = y; reached = r; bare = λ q z w. absurd (omega arith) }))
      (λ y. let e : d ≡ hi = omega arith in let same : d ≡ f = e ∙ sym (ends e) in
      subst (λ r. Fits c.unit false r (at d) follow around)
      (sym (nothing plan false d hi f a k follow is (λ q z w. absurd (omega arith))))
      (refl, ap at same ∙ sym (falls (subst (λ b. c.unit.reached b ≡ true) same r))))
      (cases_lt d hi)

  -- what stands behind an arm that ends before a block
  behind_arm : (plan : Plan) (t d hi f : ℕ) (a : Around) (k : Kind) (follow : Place) (around : regions.Around) → EndsBefore hi f k t d
      → IsPlan g plan false d hi f a k → c.unit.reached t ≡ true → IsPlaceOf c f follow
      → ((p : ℕ) → IsFirst c d hi p → Fits c.unit false (region_of c plan d hi follow a) (at p) follow around)
      → Fits c.unit false (region_of c plan d hi follow a) (at t) follow around
  behind_arm plan t d hi f a k follow around (inl (same, top, falls)) is r place fit =
      subst (λ t. Fits c.unit false (region_of c plan d hi follow a) (at t) follow around) same
      (from_there plan d hi f a k follow around is (subst (λ t. c.unit.reached t ≡ true) (sym same) r) (subst (λ d. d ≤ hi) (sym same) top)
      (λ e. falls (sym same ∙ e)) place fit)
  behind_arm plan t d hi f a k follow around (inr (same, last, high, listed)) is r place fit =
      subst (λ d. Fits c.unit false (region_of c plan d hi follow a) (at t) follow around) (sym last)
      (none_left plan hi f a k follow around (at t) (subst (λ d. IsPlan g plan false d hi f a k) last is)
      (ap at same ∙ sym (place (subst (λ t. c.unit.reached t ≡ true) same r))))

  -- such an arm ends within the part
  pub arm_top : (hi f t d : ℕ) (k : Kind) → EndsBefore hi f k t d → d ≤ hi
  arm_top hi f t d k (inl (same, top, falls)) = omega arith
  arm_top hi f t d k (inr (same, last, high, listed)) = omega arith

  -- the next block is where the arm ends only where it goes on there
  arm_falls : (lo hi f t d : ℕ) (k : Kind) → EndsBefore hi f k t d → (suc lo ≡ hi → f ≡ hi) → suc lo ≡ d → t ≡ d
  arm_falls lo hi f t d k (inl (same, top, falls)) goes_on e = sym same
  arm_falls lo hi f t d k (inr (same, last, high, listed)) goes_on e = absurd (let x : f ≡ hi = goes_on (e ∙ last) in omega arith)

  -- the first block of a part is reached
  at_front : (lo hi p : ℕ) → IsFirst c lo hi p → c.unit.reached lo ≡ true → lo ≡ p
  at_front lo hi p first r = ⊎_elim (λ e. e)
      (λ o. absurd (⊎_elim (λ x. both_ways (c.unit.reached lo) (first.bare lo (omega arith) x) r) (λ x. let y : lo ≤ p = first.low in omega arith) o))
      (cases_order lo p)

  pub head_marked : (h l : ℕ) → IsLoop g h l → g.first ≤ h → h < g.past → c.unit.marks h ≡ loop_head
  head_marked h l lp x y = ⊎_elim (λ (m, other, e). e) (λ (none, e). absurd (none l lp)) (ok.heads h x y)

  -- where all arms of a jump list end
  end_leads : (lo e : ℕ) (a : Around) → IsEndOfArms g lo e a → (b : ℕ) × LeadsTo g b e
  end_leads lo e a (inl target) = let (way, goes, o) = target.jump in (lo, (way, goes, inl o))
  end_leads lo e a (inr (s, t, target, y, z, jump, stays, free)) = let (way, goes, o) = jump in (s, (way, goes, inl o))

  -- what stands there
  rest_fits : (plan : Plan) (lo e hi f : ℕ) (a : Around) (k : Kind) (follow : Place) (around : regions.Around) → IsPlan g plan false e hi f a k
      → IsPlaced c f a follow around → IsEndOfArms g lo e a → e ≤ hi → (e ≡ hi → (f ≡ hi) ⊎ (IsWayOut a e ⊎ IsEndBlock g.flow e))
      → ((p : ℕ) → IsFirst c e hi p → Fits c.unit false (region_of c plan e hi follow a) (at p) follow around)
      → Fits c.unit false (rest_from c e hi follow a (region_of c plan e hi follow a)) (at e) follow around
  rest_fits plan lo e hi f a k follow around is placed ends top falls fit =
      let (b, lead) = end_leads lo e a ends in let r = lead_reached b e lead in
      cond_both (nat_lt e hi) (region_of c plan e hi follow a) (if is_at follow e then off else way_to c a e)
      (λ r. Fits c.unit false r (at e) follow around)
      (λ y. fit e (record { low = (omega arith); high = ltb-true e hi y; reached = r; bare = λ q z w. absurd (omega arith) }))
      (λ n. cond_both (is_at follow e) off (way_to c a e) (λ r. Fits c.unit false r (at e) follow around)
      (λ y. (refl, sym (at_place follow e y)))
      (λ m. way_fits b e lead a around placed.loops (out_of r n m) follow))
    where
      out_of : c.unit.reached e ≡ true → nat_lt e hi ≡ false → is_at follow e ≡ false → IsWayOut a e ⊎ IsEndBlock g.flow e
      out_of r n m = ⊎_elim (λ x. absurd (both_ways (nat_lt e hi) n (lt-ltb e hi x)))
          (λ x. let same : e ≡ hi = omega arith in
          ⊎_elim (λ y. let back : f ≡ e = y ∙ sym same in
          absurd (both_ways (is_at follow e) m (place_at follow e (placed.falls (subst (λ b. c.unit.reached b ≡ true) (sym back) r) ∙ ap at back))))
          (λ y. y) (falls same)) (cases_lt e hi)

  target_reached : (x t : ℕ) → IsTarget g x t → c.unit.reached t ≡ true
  target_reached x t target = let (way, goes, o) = target.jump in lead_reached x t (way, goes, inl o)

  -- the label of a jump list is its first target
  label_target : (lo hi f : ℕ) (a : Around) (e : ℕ) → IsChoice g lo hi f a e → IsTarget g lo (suc lo)
  label_target lo hi f a e choice =
      let (targets, label, goes) = choice.list in let same : label ≡ suc lo = (ok.lists lo targets label goes.1).1 in
      subst (λ t. IsTarget g lo t) same (record { list = choice.list; jump = (one_of targets label, goes, inl refl) })

  pub label_ahead : (lo hi f : ℕ) (a : Around) (e : ℕ) → IsChoice g lo hi f a e → lo < e
  label_ahead lo hi f a e choice = let (y, z) = choice.after (suc lo) (label_target lo hi f a e choice) in omega arith

  -- no arm begins where all end
  pub no_arm_behind : (plan : Plan) (turn : Bool) (x lo e : ℕ) (a : Around) → IsPlan g plan turn lo e e a (list_arms x) → arm_from c plan lo e a e ≡ off
  no_arm_behind done turn x lo e a is = refl
  no_arm_behind (skip rest) turn x lo e a is = absurd is.1
  no_arm_behind (one rest) turn x lo e a is = absurd is.1
  no_arm_behind (arm t d inner rest) turn x lo e a is = absurd is.1
  no_arm_behind (arms t u d inner other rest) turn x lo e a is = absurd is.1
  no_arm_behind (loop left l body rest) turn x lo e a is = absurd is.0
  no_arm_behind (cases d inner rest) turn x lo e a is = absurd is.1
  no_arm_behind (next d inner others) turn x lo e a (same, one_is, is, more) =
      let some : lo < d = one_is.some in let within : d ≤ e = one_is.within in
      cond_both (e == lo) (region_of c inner lo d (at e) a) (arm_from c others d e a e) (λ r. r ≡ off)
      (λ q. absurd (let equal : e ≡ lo = eqb-true e lo q in omega arith)) (λ q. no_arm_behind others false x d e a more)

  end_fits_off : (plan : Plan) (x lo e : ℕ) (a : Around) (around : regions.Around) → IsPlan g plan false lo e e a (list_arms x)
      → Fits c.unit false (arm_from c plan lo e a e) (at e) (at e) around
  end_fits_off plan x lo e a around is = subst (λ r. Fits c.unit false r (at e) (at e) around) (sym (no_arm_behind plan false x lo e a is)) (refl, refl)

  mutual
    fits : (plan : Plan) (turn : Bool) (lo hi f : ℕ) (a : Around) (k : Kind) (follow : Place) (around : regions.Around) → IsPlan g plan turn lo hi f a k
        → IsRow k → IsPart c g turn lo hi → IsPlaced c f a follow around → (p : ℕ) → IsFirst c lo hi p
        → Fits c.unit turn (region_of c plan lo hi follow a) (at p) follow around
    fits done turn lo hi f a k follow around is row part placed p first = absurd (let x : lo ≤ p = first.low in let y : p < hi = first.high in omega arith)
    fits (skip rest) true lo hi f a k follow around (x, row', none, is) row part placed p first =
        absurd (none ((ok.reached lo).0 (part.turned refl).reached))
    fits (skip rest) false lo hi f a k follow around (x, row', none, is) row part placed p first =
        let low : g.first ≤ lo = part.low in
        fits rest false (suc lo) hi f a k follow around is row
        (record { low = (omega arith); high = part.high; turned = λ e. absurd cc }) placed p
        (record { low = behind; high = first.high; reached = first.reached; bare = λ q y z. first.bare q (omega arith) z })
      where
        behind : suc lo ≤ p
        behind = ⊎_elim (λ e. absurd (none ((ok.reached lo).0 (subst (λ b. c.unit.reached b ≡ true) (sym e) first.reached))))
            (λ n. let y : lo ≤ p = first.low in omega arith) (cases_eq lo p)
    fits (one rest) turn lo hi f a k follow around (x, row', is_one, is) row part placed p first =
        let low : g.first ≤ lo = part.low in
        subst (λ p. Fits c.unit turn (region_of c (one rest) lo hi follow a) (at p) follow around)
        (at_front lo hi p first (is_reached lo is_one.here))
        (one_fits turn lo hi f a follow around part placed is_one.here x (region_of c rest (suc lo) hi follow a)
        (λ q there. fits rest false (suc lo) hi f a k follow around is row
        (record { low = (omega arith); high = part.high; turned = λ e. absurd cc }) placed q there) is_one)
    fits (arm t d inner rest) turn lo hi f a k follow around (x, row', fresh, branch, none, is, more) row part placed p first =
        let here = branch.jump.0 in let low : g.first ≤ lo = part.low in let high : hi ≤ g.past = part.high in
        let ahead : lo < d = branch.ahead in let top : d ≤ hi = arm_top hi f t d k branch.ends in
        let place : IsPlaced c t a (at t) around = record { falls = λ r. refl; loops = placed.loops } in
        subst (λ p. Fits c.unit turn (region_of c (arm t d inner rest) lo hi follow a) (at p) follow around)
        (at_front lo hi p first (is_reached lo here))
        (fork_fits turn lo hi f a follow around part placed here x off (region_of c inner (suc lo) d (at t) a)
        (region_of c rest d hi follow a) (at t) t branch.jump fresh
        (refl, refl)
        (from_there inner (suc lo) d t a k (at t) around is (lead_reached lo (suc lo) (made_falls lo t branch.jump)) ahead
        (λ e. arm_falls lo hi f t d k branch.ends branch.falls e) place.falls
        (λ q there. fits inner false (suc lo) d t a k (at t) around is row
        (record { low = (omega arith); high = (omega arith); turned = λ e. absurd cc }) place q there))
        (behind_arm rest t d hi f a k follow around branch.ends more (lead_reached lo t (made_leads lo t branch.jump)) placed.falls
        (λ q there. fits rest false d hi f a k follow around more row
        (record { low = (omega arith); high = high; turned = λ e. absurd cc }) placed q there)))
    fits (arms t u d inner other_inner rest) turn lo hi f a k follow around (x, row', fresh, branch, other, is, is', more) row part placed p first =
        let here = branch.jump.0 in let low : g.first ≤ lo = part.low in let high : hi ≤ g.past = part.high in
        let ahead : lo < t = branch.ahead in let top : d ≤ hi = arm_top hi f u d k other.ends in let far : t < d = other.ahead in
        let n : lo ≡ other.source → ⊥ = apart lo other.source t u branch.jump other.jump in let behind : suc other.source ≡ t = other.next in
        let place : IsPlaced c u a (at u) around = record { falls = λ r. refl; loops = placed.loops } in
        subst (λ p. Fits c.unit turn (region_of c (arms t u d inner other_inner rest) lo hi follow a) (at p) follow around)
        (at_front lo hi p first (is_reached lo here))
        (fork_fits turn lo hi f a follow around part placed here x (region_of c other_inner t d (at u) a) (region_of c inner (suc lo) t (at u) a)
        (region_of c rest d hi follow a) (at u) t branch.jump fresh
        (from_there other_inner t d u a k (at u) around is' (lead_reached lo t (made_leads lo t branch.jump)) (omega arith) (λ e. absurd (omega arith))
        place.falls
        (λ q there. fits other_inner false t d u a k (at u) around is' row
        (record { low = (omega arith); high = (omega arith); turned = λ e. absurd cc }) place q there))
        (from_there inner (suc lo) t u a blocks (at u) around is (lead_reached lo (suc lo) (made_falls lo t branch.jump)) (omega arith)
        (λ e. absurd (gap n behind ahead e)) place.falls
        (λ q there. fits inner false (suc lo) t u a blocks (at u) around is tt
        (record { low = (omega arith); high = (omega arith); turned = λ e. absurd cc }) place q there))
        (behind_arm rest u d hi f a k follow around other.ends more (other_reached t u d hi f a k other) placed.falls
        (λ q there. fits rest false d hi f a k follow around more row
        (record { low = (omega arith); high = high; turned = λ e. absurd cc }) placed q there)))
      where
        gap : {s lo t : ℕ} → (lo ≡ s → ⊥) → suc s ≡ t → lo < t → suc lo ≡ t → ⊥
        gap n behind ahead e = n (omega arith)
    fits (loop left l body rest) true lo hi f a k follow around (row', opened, may, is, more) row part placed p first =
        absurd (let e : true ≡ false = opened.free in cc)
    fits (loop left l body rest) false lo hi f a k follow around (row', opened, may, is, more) row part placed p first =
        let low : g.first ≤ lo = part.low in let high : hi ≤ g.past = part.high in
        let long : lo ≤ l = opened.loop.ordered in let top : l < hi = opened.within in
        let r = head_reached lo l opened.loop in
        let head : c.unit.reached lo ≡ true → IsFirst c lo (suc l) lo
        = λ r. record { low = (omega arith); high = (omega arith); reached = r; bare = λ q y z. absurd (omega arith) } in
        subst (λ p. Fits c.unit false (region_of c (loop left l body rest) lo hi follow a) (at p) follow around) (at_front lo hi p first r)
        (by left may (c.unit.reached (suc l)) refl (head_marked lo l opened.loop low (omega arith))
        (λ q there. fits body true lo (suc l) lo (inside left lo l) blocks (at lo) (regions.inside (at lo) q) is tt
        (record { low = low; high = (omega arith); turned = λ e. head r }) (record { falls = λ r. refl; loops = (refl, there) }) lo (head r))
        (λ r ends. from_there rest (suc l) hi f a k follow around more r top ends placed.falls
        (λ q there. fits rest false (suc l) hi f a k follow around more row
        (record { low = (omega arith); high = high; turned = λ e. absurd cc }) placed q there)))
      where
        by : (left : Bool) → IsLeft hi f l left → (flag : Bool) → c.unit.reached (suc l) ≡ flag → c.unit.marks lo ≡ loop_head
            → ((q : Place) → (left ≡ true → IsPlaceOf c (suc l) q)
            → Fits c.unit true (region_of c body lo (suc l) (at lo) (inside left lo l)) (at lo) (at lo) (regions.inside (at lo) q))
            → (c.unit.reached (suc l) ≡ true → (suc l ≡ hi → f ≡ hi) → Fits c.unit false (region_of c rest (suc l) hi follow a) (at (suc l)) follow around)
            → Fits c.unit false
            (loop_region (left && flag) (region_of c body lo (suc l) (at lo) (inside left lo l)) l follow (region_of c rest (suc l) hi follow a))
            (at lo) follow around
        by true may true e head inner after = (lo, refl, refl, head, inner (at (suc l)) (λ m r. refl), after e may)
        by true may false e head inner after = (lo, refl, refl, head, inner follow (λ m r. absurd (both_ways (c.unit.reached (suc l)) e r)), (refl, refl))
        by false may flag e head inner after = (lo, refl, refl, head, inner follow (λ m r. absurd cc), (refl, refl))
    fits (cases e inner rest) turn lo hi f a k follow around (x, row', fresh, choice, is, more) row part placed p first =
        let here = choice.list.2.0 in let low : g.first ≤ lo = part.low in let high : hi ≤ g.past = part.high in
        let top : e ≤ hi = choice.within in
        let after : lo < e = label_ahead lo hi f a e choice in
        subst (λ p. Fits c.unit turn (region_of c (cases e inner rest) lo hi follow a) (at p) follow around)
        (at_front lo hi p first (is_reached lo here))
        (cases_fit turn lo hi f a follow around part placed here x inner e (arm_from c inner (suc lo) e a) (arm_from c inner (suc lo) e a (suc lo))
        (rest_from c e hi follow a (region_of c rest e hi follow a)) choice.list fresh
        (λ targets entries goes. nodes_have_arms g lo e a inner is choice.after choice.ends targets entries goes)
        (λ j o. ⊎_elim
        (λ h. let s = later_is g lo e a inner false (suc lo) is j h in let high' : j < e = s.high in let low' : suc (suc lo) ≤ j = s.low in
        arm_fits inner false lo (suc lo) e a around is (omega arith) (omega arith) placed.loops j s.target (omega arith) high')
        (λ f. subst (λ j. Fits c.unit false (arm_from c inner (suc lo) e a j) (at j) (at e) around) (sym f)
        (end_fits_off inner lo (suc lo) e a around is)) o)
        (⊎_elim
        (λ y. arm_fits inner false lo (suc lo) e a around is (omega arith) (omega arith) placed.loops (suc lo) (label_target lo hi f a e choice)
        (omega arith) y)
        (λ y. let same : suc lo ≡ e = omega arith in
        subst (λ j. Fits c.unit false (arm_from c inner (suc lo) e a j) (at j) (at e) around) (sym same)
        (end_fits_off inner lo (suc lo) e a around is)) (cases_lt (suc lo) e))
        (rest_fits rest lo e hi f a k follow around more placed choice.ends top choice.falls
        (λ q there. fits rest false e hi f a k follow around more row
        (record { low = (omega arith); high = high; turned = λ e. absurd cc }) placed q there)))
    fits (next d inner others) turn lo hi f a blocks follow around is row part placed p first = absurd is
    fits (next d inner others) turn lo hi f a list_arm follow around is row part placed p first = absurd is
    fits (next d inner others) turn lo hi f a (list_arms x) follow around is row part placed p first = absurd row

    -- an arm of a jump list
    arm_fits : (plan : Plan) (turn : Bool) (x lo e : ℕ) (a : Around) (around : regions.Around) → IsPlan g plan turn lo e e a (list_arms x)
        → g.first ≤ lo → e ≤ g.past → IsAround c a around → (j : ℕ) → IsTarget g x j → lo ≤ j → j < e
        → Fits c.unit false (arm_from c plan lo e a j) (at j) (at e) around
    arm_fits done turn x lo e a around is low high loops j target ahead before = absurd (let same : lo ≡ e = is in omega arith)
    arm_fits (skip rest) turn x lo e a around is low high loops j target ahead before = absurd is.1
    arm_fits (one rest) turn x lo e a around is low high loops j target ahead before = absurd is.1
    arm_fits (arm t d inner rest) turn x lo e a around is low high loops j target ahead before = absurd is.1
    arm_fits (arms t u d inner other rest) turn x lo e a around is low high loops j target ahead before = absurd is.1
    arm_fits (loop left l body rest) turn x lo e a around is low high loops j target ahead before = absurd is.0
    arm_fits (cases d inner rest) turn x lo e a around is low high loops j target ahead before = absurd is.1
    arm_fits (next d inner others) turn x lo e a around (same, one_is, is, more) low high loops j target ahead before =
        let some : lo < d = one_is.some in let within : d ≤ e = one_is.within in
        cond_both (j == lo) (region_of c inner lo d (at e) a) (arm_from c others d e a j) (λ r. Fits c.unit false r (at j) (at e) around)
        (λ q. let equal : j ≡ lo = eqb-true j lo q in
        subst (λ j. Fits c.unit false (region_of c inner lo d (at e) a) (at j) (at e) around) (sym equal)
        (fits inner false lo d e a list_arm (at e) around is tt
        (record { low = low; high = (omega arith); turned = λ e. absurd cc }) (record { falls = λ r. refl; loops = loops }) lo
        (record { low = (omega arith); high = some; reached = target_reached x lo one_is.begins; bare = λ q y z. absurd (omega arith) })))
        (λ q. ⊎_elim (λ y. absurd (eqb-false j lo q (omega arith)))
        (λ y. arm_fits others false x d e a around more (omega arith) high loops j target y before) (one_is.alone j target))

pub empty_is_off : EmptyIsOff
empty_is_off c g plan turn lo hi f a k follow ok is empty = nothing c g ok plan turn lo hi f a k follow is empty

pub part_fits : PartFits
part_fits c g plan turn lo hi f a k follow around ok is row part placed p first = fits c g ok plan turn lo hi f a k follow around is row part placed p first

pub segment_fits : SegmentFits
segment_fits c g plan follow ok is falls p first =
    fits c g ok plan false g.first g.past g.past no_loop blocks follow regions.no_loop is tt
    (record { low = (omega arith); high = (omega arith); turned = λ e. absurd cc }) (record { falls = falls; loops = tt }) p first
